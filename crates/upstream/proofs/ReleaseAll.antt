-- 000: `release_all`.
use Prim.Native.Nat.{ℕ, zero, suc, ◌+◌, ◌≤◌, ◌<◌}
use Rattle.std.specs.Prelude.{◌≡◌, refl, List, [], ◌∷◌, ◌++◌, map, true, false, not, ◌⊎◌, ◌≢◌, take, Err}
use Rattle.std.proofs.Common.{sym, ap, ◌∙◌, append-nil, inl, inr, arith}
use Rattle.std.proofs.Math.Path.{subst}
use Rattle.std.proofs.Math.Decide.{ℕ_discrete}
use Rattle.std.proofs.lemmas.Bool.{not-false}
use Rattle.std.proofs.Math.ListN.{length}
use Rattle.std.proofs.Math.Seq.{append_snoc}
use Rattle.types.specs.Checks.{Check}
use Rattle.model.specs.Log.{Event, by_caller, released}
use Rattle.model.specs.Arena.{hold_of, hold_in, leases_of, holds_of, is_in, set_cell}
use Rattle.model.specs.Refusals.{first}
use Rattle.model.specs.Checks.{lease_count, bad_shape, bad_health, bad_script, too_many_leases, stale_boot, not_held, repeated, not_releasable, release_rules}
use Rattle.model.specs.Foreign.{boundary_of}
use Rattle.model.specs.Lock.{hold_at, no_hold, give_back_of}
use Rattle.model.specs.Calls.{given, starting}
use Rattle.types.specs.declared.Flow.{Flow}
use Rattle.types.specs.declared.Head.{Head}
use Rattle.types.specs.declared.Hold.{Hold}
use Rattle.types.specs.declared.Lease.{Lease}
use Rattle.types.specs.declared.Refusal.{Refusal}
use Rattle.types.specs.declared.Refusal.TheVariants.{TooMany, NotHeld, Repeated}
use Rattle.types.specs.declared.Run.{Run}
use Rattle.laws.specs.Checks.{first_hit, first_skip, not_stale}
use Rattle.laws.specs.Lists.{holds_few, as_many}
use Rattle.history.specs.World as world
use Rattle.history.specs.World.{Live, Lawful, now}
use Rattle.history.proofs.Theorems.{lawful_always}
use Rattle.history.specs.Items.{release_all, unchanged, perform, Clear}
use Rattle.history.specs.Statements.{leaves}
use Rattle.history.specs.Judged.{past_checks, refused_so}
use Rattle.history.specs.Tests.{In, in_cases, in_take, holds_equal, differ}
use Rattle.history.specs.Steps.{world_at, With, of_flow, of_run}
use Rattle.history.specs.Events.{lives}
use Rattle.history.proofs.Calls.{words_leases}
use Rattle.upstream.specs.Vocabulary.{Key, Authority, Leases, is_some_serial, lease_key, next_serial, dom, cells, ValidCell, authorized, Release, GivesUp, leases_authorized}
use Rattle.upstream.specs.Premises.{Own, lease_at, AllOwn, valid_at, keeps_valid, leases_valid, Scripted}
use Rattle.upstream.specs.Protocol.{Trace, ended}
use Rattle.upstream.proofs.Protocol.{trace_valid_at, trace_buries, step_keeps, step_frees, owner_of}
use Rattle.upstream.specs.Bridge.{Sized}
use Rattle.upstream.proofs.Bridge.{hold_at_lem, live_authorized, issued_live, cell_live, lawful_trace, fits_sized, sized_now, by_checks}
use Rattle.upstream.proofs.Refusing.{unauthorized, on_damaged, is_dead, over}
use Rattle.upstream.proofs.Passing.{release_passes}
use Rattle.upstream.proofs.TryAcquire.{fine_fault}
use Rattle.upstream.proofs.DropLease.{dropped}
use Rattle.upstream.proofs.Scripts.{Goes, stays, then, moved, fewer, Ready, ready, boundary_goes}

abbrev Nobody : Leases
Nobody l = ⊥

-- the first n of a list are live, and no two of them are on one cell: what the call tests
pub record Held (w : Authority) (n : ℕ) (ls : List Hold) : Type 0 where
  pub enough : n ≤ length ls
  pub all : (i : ℕ) → i < n → Live w (hold_at ls i)
  pub distinct : (i j : ℕ) → i < j → j < n → lease_key (hold_at ls i) ≢ lease_key (hold_at ls j)

-- they go, one after the other, and none of them comes back
pub record Gone (w v : Authority) (n : ℕ) (ls : List Hold) : Type 0 where
  pub goes : Goes Nobody w v
  pub gone : (i : ℕ) → i < n → is_some_serial (cells v (hold_at ls i).cell).owner (hold_at ls i).serial → ⊥

-- the place of a lease that is among the first n
in_take_at : (ls : List Hold) (n : ℕ) (l : Hold) → In (take n ls) l → (i : ℕ) × (i < n) × (l ≡ hold_at ls i)
unfolding is_in
in_take_at ls zero l i = absurd (differ i)
in_take_at [] (suc n) l i = absurd (differ i)
in_take_at (k ∷ ls) (suc n) l i = go (in_cases k l (take n ls) i) (in_take_at ls n l)
  where
    go : (k ≡ l) ⊎ In (take n ls) l → (In (take n ls) l → (i : ℕ) × (i < n) × (l ≡ hold_at ls i)) → (i : ℕ) × (i < suc n) × (l ≡ hold_at (k ∷ ls) i)
    go (inl e) r = (0, omega arith, sym e)
    go (inr j) r = let x = r j in (suc x.0, omega (arith, x.1), x.2)

module _ (h : Head) (script : List ℕ) where
  -- one release and the boundary after it; `on` is what comes of the others
  round : (n : ℕ) (ls : List Hold) (r : Run) (t g : List ℕ) → Sized (world_at h r.flow.next t g)
      → Held (world_at h r.flow.next t g) (suc n) ls
      → let m = (boundary_of (given h script (take n ls)) r.flow (set_cell t (hold_at ls n).cell 0 0) g).seen in
      (end : Authority) → (Sized (of_flow h m) → Held (of_flow h m) n ls → Gone (of_flow h m) end n ls)
      → Gone (world_at h r.flow.next t g) end (suc n) ls
  round n ls r t g z k end on =
      record { goes = then one (then (fewer (λ l x. absurd x) b) rest.goes); gone = λ i l. away i l (ℕ_discrete i n) }
    where
      w : Authority
      w = world_at h r.flow.next t g

      l : Hold
      l = hold_at ls n

      event : Event
      event = released by_caller l.cell l.serial

      u : Authority
      u = world.after_event w event

      a : GivesUp w u l.cell l.serial
      a = dropped w l z (k.all n (omega arith))

      one : Goes Nobody w u
      one = moved w u (Release l.cell l.serial) a (λ _ x. absurd x) (sized_now w (event ∷ []) z)

      -- the leases that are still to be released
      left : (i : ℕ) → i < n → Live u (hold_at ls i)
      left i p =
          issued_live u (hold_at ls i)
          (step_keeps w u (Release l.cell l.serial) (hold_at ls i) a (λ x. k.distinct i n p (omega arith) (sym x.0)) (live_authorized w (hold_at ls i) (k.all i (omega arith))))
          (omega (arith, (lives w (hold_at ls i) (k.all i (omega arith))).high, a.stays))

      ready_u : Ready (In (take n ls)) u
      ready_u =
          record {
            sized = one.sized;
            safe = λ x i. let p = in_take_at ls n x i in subst (Live u) (sym p.2) (left p.0 p.1);
          }

      m : With Flow
      m = (boundary_of (given h script (take n ls)) r.flow (set_cell t l.cell 0 0) g).seen

      b : Goes (In (take n ls)) u (of_flow h m)
      b = boundary_goes h script (take n ls) r.flow (set_cell t l.cell 0 0) g ready_u

      rest : Gone (of_flow h m) end n ls
      rest =
          let r' = ready ready_u b in
          on b.sized
          (record {
            enough = omega (arith, k.enough);
            all = λ i p. r'.safe (hold_at ls i) (in_take ls n i no_hold p (omega (arith, k.enough)));
            distinct = λ i j p q. k.distinct i j p (omega arith);
          })

      away : (i : ℕ) → i < suc n → Dec (i ≡ n) → is_some_serial (cells end (hold_at ls i).cell).owner (hold_at ls i).serial → ⊥
      away i p (yes e) x =
          let s = lives w l (k.all n (omega arith)) in
          (trace_buries (then (fewer (λ l x. absurd x) b) rest.goes).trace).never l.cell l.serial s.in_range s.high
          (λ y. omega (arith, y.0, y.1, owner_of (step_frees w u l.cell l.serial a))) (rw e at x)
      away i p (no e) x = rest.gone i (omega arith) x

  give_back_goes : (n : ℕ) (ls : List Hold) (r : Run) (t g : List ℕ) → Sized (world_at h r.flow.next t g)
      → Held (world_at h r.flow.next t g) n ls → Gone (world_at h r.flow.next t g) (of_run h (give_back_of n (given h script []) ls r t g).seen) n ls
  unfolding give_back_of
  give_back_goes zero ls r t g z k = record { goes = stays z; gone = λ i l. absurd (omega arith) }
  give_back_goes (suc n) ls r t g z k = round n ls r t g z k _ (λ z k. give_back_goes n ls _ _ _ z k)

-- ---- the checks: 16, 12 and 14 by position

not_releasable_dead : (w : Authority) (n : ℕ) (earlier : List Hold) (ls : List Lease) (i : ℕ) → i < length ls
    → Clear (not_releasable w.head w.table n earlier (take i ls)) → Own w (lease_at ls i) → (Live w (hold_in (lease_at ls i)) → ⊥)
    → first (not_releasable w.head w.table n earlier ls) ≡ Err (NotHeld (n + i))
unfolding not_releasable
not_releasable_dead w n earlier [] i l c o d = absurd (omega arith)
not_releasable_dead w n earlier (k ∷ ls) zero l c o d =
    let e : n + 0 ≡ n = omega arith in
    first_skip (stale_boot w.head n k) _ (not_stale w.head k o) ∙ first_hit (not_held w.head w.table n k) _ (ap not (is_dead w (hold_in k) d)) ∙ rw e
not_releasable_dead w n earlier (k ∷ ls) (suc i) l c o d =
    let e : n + 1 + i ≡ n + suc i = omega arith in
    first_skip (stale_boot w.head n k) _ c.0 ∙ first_skip (not_held w.head w.table n k) _ c.1.0 ∙ first_skip (repeated n earlier k) _ c.1.1.0
    ∙ not_releasable_dead w (n + 1) (earlier ++ (hold_in k ∷ [])) ls i (omega arith) c.1.1.1 o d ∙ rw e

not_releasable_again : (w : Authority) (n : ℕ) (earlier : List Hold) (ls : List Lease) (i : ℕ) → i < length ls
    → Clear (not_releasable w.head w.table n earlier (take i ls)) → Own w (lease_at ls i) → Live w (hold_in (lease_at ls i))
    → is_in (hold_in (lease_at ls i)) (earlier ++ map hold_in (take i ls)) ≡ true → first (not_releasable w.head w.table n earlier ls) ≡ Err (Repeated (n + i))
unfolding not_releasable
not_releasable_again w n earlier [] i l c o v d = absurd (omega arith)
not_releasable_again w n earlier (k ∷ ls) zero l c o v d =
    let e : n + 0 ≡ n = omega arith in
    first_skip (stale_boot w.head n k) _ (not_stale w.head k o) ∙ first_skip (not_held w.head w.table n k) _ (ap not v) ∙ first_hit (repeated n earlier k) _ (rw (append-nil earlier) at d) ∙ rw e
not_releasable_again w n earlier (k ∷ ls) (suc i) l c o v d =
    let e : n + 1 + i ≡ n + suc i = omega arith in
    first_skip (stale_boot w.head n k) _ c.0 ∙ first_skip (not_held w.head w.table n k) _ c.1.0 ∙ first_skip (repeated n earlier k) _ c.1.1.0
    ∙ not_releasable_again w (n + 1) (earlier ++ (hold_in k ∷ [])) ls i (omega arith) c.1.1.1 o v (rw (append_snoc earlier (hold_in k) (map hold_in (take i ls))) d) ∙ rw e

-- the first of a list, as words
take_holds : (ws : List ℕ) (i : ℕ) → take i (holds_of ws) ≡ map hold_in (take i (leases_of ws))
unfolding holds_of leases_of
take_holds ws zero = refl
take_holds [] (suc i) = refl
take_holds (c ∷ []) (suc i) = refl
take_holds (c ∷ s ∷ []) (suc i) = refl
take_holds (c ∷ s ∷ b ∷ ws) (suc i) = ap {B = List Hold} (λ ls. hold_of c s ∷ ls) (take_holds ws i)

plus_zero : (i : ℕ) → 0 + i ≡ i
plus_zero i = omega arith

-- ---- `release_all`

module _ (w : Authority) (script : List ℕ) (place : ℕ) (leases : List ℕ) where
  abbrev final : Authority
  final = leaves w (release_all script place leases)

  abbrev ls : List Hold
  ls = holds_of leases

  -- the same with their boot numbers
  abbrev named : List Lease
  named = leases_of leases

  -- the checks before those on the leases
  abbrev Before : Type 0
  Before = Clear (bad_shape w.head w.table ∷ bad_health w.head w.health ∷ bad_script script place ∷ too_many_leases leases ∷ [])

  -- no check on an earlier position applies
  abbrev UpTo : ℕ → Type 0
  UpTo i = Clear (not_releasable w.head w.table 0 [] (take i named))

  behind : (r : Refusal) → Before → first (not_releasable w.head w.table 0 [] named) ≡ Err r
      → perform w (release_all script place leases) ≡ unchanged w (release_all script place leases) r
  unfolding release_rules
  behind r c e =
      refused_so w (release_all script place leases) r
      (first_skip (bad_shape w.head w.table) _ c.0 ∙ first_skip (bad_health w.head w.health) _ c.1.0
      ∙ first_skip (bad_script script place) _ c.1.1.0 ∙ first_skip (too_many_leases leases) _ c.1.1.1.0 ∙ e)

  -- what upstream asks of the leases
  abbrev Asked : Type 0
  Asked = leases_authorized w ls × ((i j : ℕ) → i < j → j < length ls → lease_key (hold_at ls i) ≢ lease_key (hold_at ls j))

  gone_all : Sized w → leases_valid w ls → Asked
      → Gone w (of_run w.head (give_back_of (lease_count leases) (given w.head script []) ls (starting w.head place) w.table w.health).seen) (lease_count leases) ls
  gone_all z v a =
      give_back_goes w.head script (lease_count leases) ls (starting w.head place) w.table w.health z
      (record { enough = omega (arith, words_leases leases); all = λ i p. cell_live w (hold_at ls i) (a.0 i (omega (arith, words_leases leases))) (v i (omega (arith, words_leases leases))); distinct = λ i j p q. a.1 i j p (omega (arith, words_leases leases)) })

  -- whatever the table holds and whatever is given: refused, or a trace
  pub went : Trace Nobody w final
  unfolding release_rules
  went =
      let x = lawful_always w (release_all script place leases) in
      by_checks (λ m. (m.seen.0 ≡ now w m.log) → Lawful w m.log → Trace Nobody w m.seen.0) w (release_all script place leases) (λ r e q k. ended w)
      (λ e k q l. subst (Trace Nobody w) (sym q) (lawful_trace Nobody w (past_checks w (release_all script place leases)).log (fits_sized w (not-false _ k.0)) l (λ l x. absurd x))) x.1 x.0

  -- 12 with the position, of a lease of this boot
  dead : (i : ℕ) → i < length ls → Before → UpTo i → Own w (lease_at named i) → (Live w (hold_at ls i) → ⊥)
      → perform w (release_all script place leases) ≡ unchanged w (release_all script place leases) (NotHeld i)
  dead i l b u o n =
      behind (NotHeld i) b
      (not_releasable_dead w 0 [] named i (omega (arith, as_many leases, l)) u o (subst (λ (k : Hold). Live w k → ⊥) (hold_at_lem leases i) n)
      ∙ ap {B = Check} (λ n. Err (NotHeld n)) (plus_zero i))

  -- valid(old(authority)): 12 with the position, where a lease's cell is damaged
  pub release_all_r1 : (i : ℕ) → i < length ls → Before → UpTo i → Own w (lease_at named i) → (ValidCell (next_serial w) (cells w (hold_at ls i).cell) → ⊥)
      → perform w (release_all script place leases) ≡ unchanged w (release_all script place leases) (NotHeld i)
  release_all_r1 i l b u o n = dead i l b u o (on_damaged w (hold_at ls i) n)

  -- authorized(old(authority), &leases[i]): 12 with the position
  pub release_all_r2 : (i : ℕ) → i < length ls → Before → UpTo i → Own w (lease_at named i) → (authorized w (hold_at ls i) → ⊥)
      → perform w (release_all script place leases) ≡ unchanged w (release_all script place leases) (NotHeld i)
  release_all_r2 i l b u o n = dead i l b u o (unauthorized w (hold_at ls i) n)

  -- lease_key(&leases[i]) != lease_key(&leases[j]): 14 with the later position; two authorized leases on one cell have one serial
  pub release_all_r3 : (i j : ℕ) → i < j → j < length ls → Before → UpTo j → Own w (lease_at named j) → valid_at w (hold_at ls j).cell → authorized w (hold_at ls i) → authorized w (hold_at ls j)
      → lease_key (hold_at ls i) ≡ lease_key (hold_at ls j) → perform w (release_all script place leases) ≡ unchanged w (release_all script place leases) (Repeated j)
  release_all_r3 i j p q b u o v x y e =
      let same : hold_at ls i ≡ hold_at ls j = holds_equal (hold_at ls i) (hold_at ls j) e (sym x.mine.1 ∙ ap (λ (k : Key). (cells w k).owner) e ∙ y.mine.1) in
      behind (Repeated j) b
      (not_releasable_again w 0 [] named j (omega (arith, as_many leases, q)) u o (subst (Live w) (hold_at_lem leases j) (cell_live w (hold_at ls j) y v))
      (subst (λ (ks : List Hold). In ks (hold_in (lease_at named j))) (take_holds leases j)
      (subst (In (take j ls)) (same ∙ hold_at_lem leases j) (in_take ls j i no_hold p (omega arith))))
      ∙ ap {B = Check} (λ n. Err (Repeated n)) (plus_zero j))

  pub release_all_e1 : keeps_valid w final
  release_all_e1 = trace_valid_at went

  pub release_all_e2 : dom final ≡ dom w
  release_all_e2 = (trace_buries went).same_keys

  pub release_all_e3 : Scripted w script place → (too_many_leases leases).applies ≡ false → AllOwn w leases → leases_valid w ls → Asked
      → (i : ℕ) → i < length ls → authorized final (hold_at ls i) → ⊥
  unfolding release_rules
  release_all_e3 s m o v a =
      by_checks (λ m. (i : ℕ) → i < length ls → authorized m.seen.0 (hold_at ls i) → ⊥) w (release_all script place leases)
      (λ r e. absurd (fine_fault (release_passes w script place leases s m o v a.0 a.1) e))
      (λ e k i l x. (gone_all (fits_sized w (not-false _ k.0)) v a).gone i (omega (arith, holds_few leases)) x.mine)

  -- no list of leases, or more than 64 of them: 4
  pub release_too_many : Scripted w script place → 64 < lease_count leases → perform w (release_all script place leases) ≡ unchanged w (release_all script place leases) TooMany
  unfolding release_rules
  release_too_many c b =
      refused_so w (release_all script place leases) TooMany
      (first_skip (bad_shape w.head w.table) _ c.0 ∙ first_skip (bad_health w.head w.health) _ c.1.0
      ∙ first_skip (bad_script script place) _ c.1.1.0 ∙ first_hit (too_many_leases leases) _ (over leases b))
