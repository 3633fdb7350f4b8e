-- Multi-lock where the script is at its end: keys that name different ready cells are all granted, with the next serials in key order.
use Prim.Native.Nat.{ℕ, zero, suc, ◌+◌, ◌*◌, ◌≤◌, ◌<◌}
use Rattle.std.specs.Prelude.{◌≡◌, refl, List, [], ◌∷◌, ◌++◌, ◌≢◌, get_or, Ok}
use Rattle.std.proofs.Common.{sym, ap, ◌∙◌, append-nil, append_assoc, add-zero, zero-add, suc-add, arith}
use Rattle.types.specs.Checks.{Found}
use Rattle.model.specs.Log.{Made}
use Rattle.model.specs.Arena.{last_serial, spent_to, header_of, hold_of, holds_of, words_of, bit_at, owner_at, waiters_at, set_cell}
use Rattle.model.specs.Foreign.{Setting, protecting, steps_in, flow_of}
use Rattle.model.specs.Lock.{locked_of, lock_of, run_of, tried_of, find_of, attempt_of, retry_of, attempt_limit, none_yet, binding_at, bucket_at, ended_of, Locks, locks_of}
use Rattle.model.specs.Checks.{count_in}
use Rattle.model.specs.Calls.{counts_of, given}
use Rattle.types.specs.declared.Answer.TheVariants.{AllGranted}
use Rattle.types.specs.declared.Ended.{Ended}
use Rattle.types.specs.declared.Flow.{Flow}
use Rattle.types.specs.declared.Head.{Head}
use Rattle.types.specs.declared.Hold.{Hold}
use Rattle.types.specs.declared.Locked.{Locked}
use Rattle.types.specs.declared.Outcome.TheVariants as outcome
use Rattle.types.specs.declared.Run.{Run}
use Rattle.laws.specs.Keys.{find_healthy}
use Rattle.laws.specs.Words.{waiters_set_cell, bit_set_other, owner_set_other}
use Rattle.history.specs.Judged.{made_so}
use Rattle.history.specs.World.{World, world_of, now}
use Rattle.history.specs.Items.{Says, says, perform, key_cell, acquire_locks}
use Rattle.history.specs.Steps.{With, world_at}
use Rattle.history_exact.specs.Statements.{LocksQuiet, leases_from, takes_of}
use Rattle.history_exact.specs.Quiet.{QuietLock, was_waited, was_held, was_damaged, was_spent, was_free, was_sick, lock_quiet}
use Rattle.history_exact.specs.QuietCalls.{Keyed, no_header, sick, no_bucket, at_cell, keyed, retry_stops, attempt_as}

-- ---- one key that is ready

-- these are set, one after the other
unfoldable pub set_all : List ℕ → List Hold → List ℕ
set_all t [] = t
set_all t (l ∷ ls) = set_all (set_cell t l.cell 1 l.serial) ls

-- the key names this cell
pub find_named : (headers buckets : ℕ) (g registry : List ℕ) (binding bucket : ℕ) → get_or registry binding 0 < headers → get_or g (get_or registry binding 0) 0 ≡ 0 → bucket < buckets
    → find_of headers buckets g registry binding bucket ≡ Ok (get_or registry binding 0 * buckets + bucket)
find_named headers buckets g registry binding bucket a b c = go (keyed headers buckets g registry binding bucket)
  where
    go : {x : Found} → Keyed headers buckets g registry binding bucket x → x ≡ Ok (get_or registry binding 0 * buckets + bucket)
    go (no_header p) = absurd (omega arith)
    go (sick p q) = absurd (q b)
    go (no_bucket p q r) = absurd (omega arith)
    go (at_cell p q r) = refl

module _ (e : Setting) (place : ℕ) (quiet : steps_in e.script ≤ place) (d y : ℕ) (g : List ℕ) where
  abbrev flowing : ℕ → Flow
  flowing s = flow_of s place d

  lock_ready : (buckets s : ℕ) (t : List ℕ) (c : ℕ) → waiters_at t c ≡ 0 → bit_at t c ≡ 0 → owner_at t c ≡ 0 → s < last_serial → get_or g (header_of buckets c) 0 ≡ 0
      → (lock_of e buckets (flowing s) t g c).seen ≡ (locked_of (flowing (s + 1)) 3 (outcome.Granted (hold_of c s)), (set_cell t c 1 s, g))
  lock_ready buckets s t c u b o l h = go (lock_quiet e buckets (flowing s) t g c quiet)
    where
      go : {m : With Locked} → QuietLock buckets (flowing s) t g c m → m ≡ (locked_of (flowing (s + 1)) 3 (outcome.Granted (hold_of c s)), (set_cell t c 1 s, g))
      go (was_waited n) = absurd (n u)
      go (was_held p q r x) = absurd (omega arith)
      go (was_damaged p q r) = absurd (q b o)
      go (was_spent p q r x) = absurd (omega arith)
      go (was_free p q r x _) = refl
      go (was_sick p q r x n) = absurd (n h)

  retry_ready : (buckets : ℕ) (registry : List ℕ) (binding bucket s : ℕ) (t : List ℕ) (c a x : ℕ)
      → find_of e.headers buckets g registry binding bucket ≡ Ok c
      → waiters_at t c ≡ 0 → bit_at t c ≡ 0 → owner_at t c ≡ 0 → s < last_serial
      → (retry_of attempt_limit 0 none_yet e buckets registry binding bucket (run_of (flowing s) a x y) t g).seen
      ≡ (tried_of (run_of (flowing (s + 1)) (a + 1) (x + 3) y) (outcome.Granted (hold_of c s)), (set_cell t c 1 s, g))
  retry_ready buckets registry binding bucket s t c a x q u b o l =
      let k : (attempt_of e buckets registry binding bucket (run_of (flowing s) a x y) t g).seen
      ≡ (tried_of (run_of (flowing (s + 1)) (a + 1) (x + 3) y) (outcome.Granted (hold_of c s)), (set_cell t c 1 s, g))
      = attempt_as e buckets registry binding bucket (run_of (flowing s) a x y) t g q ∙ rw (lock_ready buckets s t c u b o l (find_healthy e.headers buckets g registry binding bucket c q)) in
      retry_stops e buckets registry binding bucket (run_of (flowing s) a x y) t g 4095 0 none_yet (rw k) ∙ k

-- ---- keys in a row that are ready: multi-lock goes on behind them

module _ (e : Setting) (place : ℕ) (quiet : steps_in e.script ≤ place) (d y : ℕ) (buckets boot : ℕ) (registry keys g grants : List ℕ) where
  abbrev cell : ℕ → ℕ
  cell p = get_or registry (binding_at keys p) 0 * buckets + bucket_at keys p

  abbrev going : ℕ → ℕ → List Hold → ℕ → ℕ → ℕ → List ℕ → Made Locks
  going left p taken s a x t = locks_of left p e buckets boot registry keys taken (run_of (flow_of s place d) a x y) t g grants

  same : (left : ℕ) (t : List ℕ) {p p' s s' a a' x x' : ℕ} {taken taken' : List Hold} → p ≡ p' → taken ≡ taken' → s ≡ s' → a ≡ a' → x ≡ x'
      → (going left p taken s a x t).seen ≡ (going left p' taken' s' a' x' t).seen
  same left t p q r u v = rw (p, q, r, u, v)

  -- different cells
  abbrev Apart : ℕ → Type 0
  Apart n = (p q : ℕ) → p < n → q < n → cell p ≡ cell q → p ≡ q

  abbrev FoundAt : ℕ → Type 0
  FoundAt p = find_of e.headers buckets g registry (binding_at keys p) (bucket_at keys p) ≡ Ok (cell p)

  pub record ReadyAt (t : List ℕ) (p : ℕ) : Type 0 where
    pub unwaited : waiters_at t (cell p) ≡ 0
    pub no_bit : bit_at t (cell p) ≡ 0
    pub no_owner : owner_at t (cell p) ≡ 0

  -- a cell that another key names stays ready
  still_ready : (t : List ℕ) (p s q : ℕ) → cell q ≢ cell p → ReadyAt t q → ReadyAt (set_cell t (cell p) 1 s) q
  still_ready t p s q n r =
      record {
        unwaited = waiters_set_cell t (cell p) 1 s (cell q) ∙ r.unwaited;
        no_bit = bit_set_other t (cell p) 1 s (cell q) n ∙ r.no_bit;
        no_owner = owner_set_other t (cell p) 1 s (cell q) n ∙ r.no_owner;
      }

  module _ (n : ℕ) (apart : Apart n) (there : (p : ℕ) → p < n → FoundAt p) where
    one_key : (left p : ℕ) (taken : List Hold) (s a x : ℕ) (t : List ℕ) → p < n → ReadyAt t p → s < last_serial
        → (going (suc left) p taken s a x t).seen ≡ (going left (p + 1) (taken ++ (hold_of (cell p) s ∷ [])) (s + 1) (a + 1) (x + 3) (set_cell t (cell p) 1 s)).seen
    unfolding locks_of
    one_key left p taken s a x t i r l =
        rw (retry_ready (protecting e taken) place quiet d y g buckets registry (binding_at keys p) (bucket_at keys p) s t (cell p) a x (there p i) r.unwaited r.no_bit r.no_owner l)

    -- j keys from position p on
    pub ready_keys : (j left p : ℕ) (taken : List Hold) (s a x : ℕ) (t : List ℕ) → p + j ≤ n → ((q : ℕ) → p ≤ q → q < p + j → ReadyAt t q) → s + j ≤ last_serial
        → (going (j + left) p taken s a x t).seen
        ≡ (going left (p + j) (taken ++ leases_from cell j p s) (s + j) (a + j) (x + 3 * j) (set_all t (leases_from cell j p s))).seen
    unfolding leases_from set_all
    ready_keys zero left p taken s a x t i r l =
        rw (zero-add left) (same left t (sym (add-zero p)) (sym (append-nil taken)) (sym (add-zero s)) (sym (add-zero a)) (omega arith))
    ready_keys (suc j) left p taken s a x t i r l =
        let o = r p (omega arith) (omega arith) in
        let u = set_cell t (cell p) 1 s in
        let others : (q : ℕ) → p + 1 ≤ q → q < p + 1 + j → ReadyAt u q
        = λ q g h. still_ready t p s q (λ z. absurd (omega (arith, apart q p (omega arith) (omega arith) z))) (r q (omega arith) (omega arith)) in
        rw (suc-add j left) (
        one_key (j + left) p taken s a x t (omega arith) o (omega arith)
        ∙ ready_keys j left (p + 1) (taken ++ (hold_of (cell p) s ∷ [])) (s + 1) (a + 1) (x + 3) u (omega arith) others (omega arith)
        ∙ same left (set_all u (leases_from cell j (p + 1) (s + 1))) (omega arith) (append_assoc taken (hold_of (cell p) s ∷ []) (leases_from cell j (p + 1) (s + 1))) (omega arith) (omega arith) (omega arith))

-- what the takes make of the world
pub now_takes : (h : Head) (g : List ℕ) (cell : ℕ → ℕ) (j p s : ℕ) (t : List ℕ)
    → now (world_at h s t g) (takes_of (leases_from cell j p s)) ≡ world_at h (s + j) (set_all t (leases_from cell j p s)) g
unfolding leases_from set_all
now_takes h g cell zero p s t = rw (add-zero s)
now_takes h g cell (suc j) p s t =
    let k : s + 1 + j ≡ s + suc j = omega arith in
    rw (← k) (now_takes h g cell j (p + 1) (s + 1) (set_cell t (cell p) 1 s))

-- as multi-lock says it
abbrev pub said : World → Ended × (List ℕ × (List ℕ × List ℕ)) → World × Says
said w m = (world_of (spent_to w.head m.0.run.flow.next) m.1.0 m.1.1.0, says m.0.answer (counts_of m.0.run.attempts m.0.run.boundaries m.0.run.yields m.0.run.flow.dropped) m.0.run.flow.place m.1.1.1)

-- no key is left
done : (e : Setting) (buckets boot : ℕ) (registry keys : List ℕ) (p : ℕ) (taken : List Hold) (r : Run) (t g grants : List ℕ)
    → (locks_of 0 p e buckets boot registry keys taken r t g grants).seen ≡ (ended_of r AllGranted, (t, (g, words_of boot taken)))
unfolding locks_of
done e buckets boot registry keys p taken r t g grants = refl

pub locks_quiet : LocksQuiet perform
locks_quiet w registry script place held keys grants fine end ready apart few =
    let s = w.head.next in
    let n = count_in keys in
    let e = given w.head script (holds_of held) in
    let cell = key_cell w.head.buckets registry keys in
    let ls = leases_from cell n 0 s in
    let there : (p : ℕ) → p < n → find_of w.head.headers w.head.buckets w.health registry (binding_at keys p) (bucket_at keys p) ≡ Ok (cell p)
    = λ p i. let a = (ready p i).0 in find_named w.head.headers w.head.buckets w.health registry (binding_at keys p) (bucket_at keys p) a.0 a.1 a.2 in
    let all = ready_keys e place end 0 0 w.head.buckets w.head.boot registry keys w.health grants n apart there n 0 0 [] s 0 0 w.table (omega arith)
    (λ q _ h. let a = ready q (omega arith) in record { unwaited = a.1; no_bit = a.2.0; no_owner = a.2.1 }) few in
    ap (λ m. m.seen) (made_so w (acquire_locks registry script place held keys grants) fine)
    ∙ ap (said w) (rw (add-zero n) at all ∙ done e w.head.buckets w.head.boot registry keys (0 + n) ls (run_of (flow_of (s + n) place 0) (0 + n) (0 + 3 * n) 0) (set_all w.table ls) w.health grants)
    ∙ rw (zero-add n, zero-add (3 * n), now_takes w.head w.health cell n 0 s w.table)
