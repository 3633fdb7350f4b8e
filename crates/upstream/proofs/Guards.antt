-- 001: `Primitives::try_lock` and `acquire_index_locks`. A guard is a lease here: its cell tells header and bucket, and
-- it is in the arena.
-- ---- a cell number tells header and bucket
use Prim.Native.Nat.{ℕ, zero, suc, ◌+◌, ◌*◌, ◌/◌, ◌%◌, ◌≤◌, ◌<◌}
use Rattle.std.specs.Prelude.{◌≡◌, false, length, get_or, Err}
use Rattle.std.proofs.Math.Path.{refl, ap, subst}
use Rattle.std.proofs.Common.{sym, ◌∙◌, mul-le-mul_right, suc-mul, div-add-mod', mod-lt, le-leb, length-append}
use mathlib.Core.List.{List, [], ◌∷◌, ◌++◌}
use native.Mathlib.Omega.{arith}
use Rattle.std.proofs.Math.Decide.{ℕ_discrete, dec_lt}
use Rattle.std.proofs.lemmas.Bool.{lt-leb}
use Rattle.std.proofs.Math.ListN.{get_or-append}
use Rattle.std.proofs.Math.Seq.{get_or-append_seam}
use Rattle.types.specs.Checks.{Check}
use Rattle.model.specs.Arena.{cell_number, hold_in, holds_of, words_of}
use Rattle.model.specs.Answers.{kind_of}
use Rattle.model.specs.Refusals.{Rule, first}
use Rattle.model.specs.Checks.{count_in, bad_shape, bad_health, bad_registry, bad_script, bad_held, too_many_keys, bad_binding, bad_bindings, locks_rules}
use Rattle.model.specs.Foreign.{Setting, protecting}
use Rattle.model.specs.Lock.{no_hold, hold_at, binding_at, bucket_at, attempt_limit, none_yet, retry_of, rollback_of, after_key, locks_of, Locks}
use Rattle.model.specs.Calls.{given, starting}
use Rattle.types.specs.declared.Answer.TheVariants.{Granted, AllGranted}
use Rattle.types.specs.declared.Hold.{Hold}
use Rattle.types.specs.declared.Lease.{Lease}
use Rattle.types.specs.declared.Outcome.{Outcome}
use Rattle.types.specs.declared.Outcome.TheVariants as outcome
use Rattle.types.specs.declared.Refusal.TheVariants.{BadBinding}
use Rattle.types.specs.declared.Run.{Run}
use Rattle.laws.specs.Checks.{first_hit, first_skip}
use Rattle.laws.specs.Lists.{words_back}
use Rattle.history.specs.Judged.{refused_so}
use Rattle.history.specs.Items.{Call, try_lock, acquire_locks, unchanged, perform, Clear}
use Rattle.history.specs.Statements.{answers}
use Rattle.laws.specs.Keys.{place_inside}
use Rattle.upstream.specs.Vocabulary.{Key, Authority, Pair, Guard, lease_key, contains_key, key_at, guards_place, guards_match, all_guards_in, physical_members, guard_members}
use Rattle.upstream.proofs.Bridge.{by_checks}
use Rattle.upstream.specs.Keys.{GrantedAt, retry_key}
use Rattle.upstream.proofs.TryLock.{granted_key}
use Rattle.upstream.specs.Guards.{slot_of, Matches}

lower : (b x y p q : ℕ) → x < y → p < b → cell_number b x p < cell_number b y q
lower b x y p q l i = omega (arith, mul-le-mul_right b l, suc-mul x b)

pub pair_of : (buckets header bucket header' bucket' : ℕ) → bucket < buckets → bucket' < buckets → cell_number buckets header bucket ≡ cell_number buckets header' bucket'
    → (header ≡ header') × (bucket ≡ bucket')
pair_of b x p y q i j e = go (dec_lt x y) (dec_lt y x)
  where
    go : Dec (x < y) → Dec (y < x) → (x ≡ y) × (p ≡ q)
    go (yes l) k = absurd (omega (arith, lower b x y p q l i))
    go (no l) (yes k) = absurd (omega (arith, lower b y x q p k j))
    go (no l) (no k) = let z : x ≡ y = omega arith in (z, omega (arith, ap (λ (n : ℕ). n * b) z))

-- it is a slot of the arena, and the only pair with that cell number
pub slot_is : (headers buckets : ℕ) (c : Key) → c < headers * buckets → (cell_number buckets (c / buckets) (c % buckets) ≡ c) × (c % buckets < buckets)
slot_is headers buckets c i = (div-add-mod' c buckets, go buckets i)
  where
    go : (b : ℕ) → c < headers * b → c % b < b
    go zero l = absurd (omega arith)
    go (suc b) l = mod-lt c (omega arith)

pub slot_only : (headers buckets : ℕ) (c : Key) (header bucket : ℕ) → c < headers * buckets → bucket < buckets → cell_number buckets header bucket ≡ c → (header, bucket) ≡ slot_of buckets c
slot_only headers buckets c header bucket i b e =
    let s = slot_is headers buckets c i in
    let p = pair_of buckets header bucket (c / buckets) (c % buckets) b s.1 (e ∙ sym s.0) in
    ap {B = Pair} (λ (z : ℕ). (z, bucket)) p.0 ∙ ap {B = Pair} (λ (z : ℕ). (c / buckets, z)) p.1

module _ (w : Authority) (script : List ℕ) (place : ℕ) (held : List ℕ) where
  -- r.unwrap().physical == slot, where the slot is that of the cell that is asked for
  pub guards_try_lock_e1 : (c : Key) (l : Lease) → answers w (try_lock script place held c) ≡ Granted l → guards_place w.head.buckets (hold_in l) (slot_of w.head.buckets c)
  guards_try_lock_e1 c l e =
      let k = granted_key w script place held c l e in
      let s = slot_is w.head.headers w.head.buckets c k.1 in
      (k.0 ∙ sym s.0, s.1)

  -- r.unwrap().arena == self.arena(): its cell is in the arena
  pub guards_try_lock_e2 : (c : Key) (l : Lease) → answers w (try_lock script place held c) ≡ Granted l → contains_key w (lease_key (hold_in l))
  guards_try_lock_e2 c l e = let k = granted_key w script place held c l e in rw k.0 k.1

module _ (e : Setting) (buckets boot : ℕ) (registry keys grants : List ℕ) where
  abbrev Good : ℕ → Locks → Type 0
  Good n a = a.0.answer ≡ AllGranted → (ls : List Hold) × (a.1.1.1 ≡ words_of boot ls) × Matches e.headers buckets registry keys n ls

  -- one key more
  matched : (p : ℕ) (taken : List Hold) (l : Hold) → Matches e.headers buckets registry keys p taken
      → GrantedAt e.headers buckets registry (binding_at keys p) (bucket_at keys p) l → Matches e.headers buckets registry keys (p + 1) (taken ++ (l ∷ []))
  matched p taken l m k = record { as_many = length-append taken (l ∷ []) ∙ ap (λ (n : ℕ). n + 1) m.as_many; each = λ i b. go i b (ℕ_discrete i p) }
    where
      go : (i : ℕ) → i < p + 1 → Dec (i ≡ p) → GrantedAt e.headers buckets registry (binding_at keys i) (bucket_at keys i) (hold_at (taken ++ (l ∷ [])) i)
      go i b (yes q) =
          let z : i ≡ length taken = q ∙ sym m.as_many in
          subst (λ n. GrantedAt e.headers buckets registry (binding_at keys n) (bucket_at keys n) (hold_at (taken ++ (l ∷ [])) n)) (sym q)
          (subst (GrantedAt e.headers buckets registry (binding_at keys p) (bucket_at keys p))
          (sym (ap (λ (n : ℕ). hold_at (taken ++ (l ∷ [])) n) (sym m.as_many) ∙ get_or-append_seam taken l [] no_hold)) k)
      go i b (no q) =
          subst (GrantedAt e.headers buckets registry (binding_at keys i) (bucket_at keys i))
          (sym (get_or-append taken (l ∷ []) no_hold i (omega (arith, m.as_many)))) (m.each i (omega arith))

  locks_match : (left p n : ℕ) (taken : List Hold) (r : Run) (t g : List ℕ) → n ≡ p + left → Matches e.headers buckets registry keys p taken
      → Good n (locks_of left p e buckets boot registry keys taken r t g grants).seen
  unfolding locks_of rollback_of
  locks_match zero p n taken r t g s m = λ q. (taken, refl, subst (λ k. Matches e.headers buckets registry keys k taken) (let z : p ≡ n = omega arith in z) m)
  locks_match (suc left) p n taken r t g s m =
      let k = (retry_of attempt_limit 0 none_yet (protecting e taken) buckets registry (binding_at keys p) (bucket_at keys p) r t g).seen in
      go k.0.outcome k.0.run k.1.0 k.1.1 (retry_key (protecting e taken) buckets registry (binding_at keys p) (bucket_at keys p) attempt_limit 0 none_yet r t g)
      (λ l x. locks_match left (p + 1) n (taken ++ (l ∷ [])) k.0.run k.1.0 k.1.1 (omega arith) (matched p taken l m x))
    where
      go : (o : Outcome) (run : Run) (u v : List ℕ)
          → ((l : Hold) → o ≡ outcome.Granted l → GrantedAt e.headers buckets registry (binding_at keys p) (bucket_at keys p) l)
          → ((l : Hold) → GrantedAt e.headers buckets registry (binding_at keys p) (bucket_at keys p) l
          → Good n (locks_of left (p + 1) e buckets boot registry keys (taken ++ (l ∷ [])) run u v grants).seen)
          → Good n (after_key o e taken p run u v grants (λ l. locks_of left (p + 1) e buckets boot registry keys (taken ++ (l ∷ [])) run u v grants)).seen
      go (outcome.Granted l) run u v k on = on l (k l refl)
      go (outcome.Busy why) run u v k on = λ q. absurd (omega (arith, ap kind_of q))
      go (outcome.Refused x) run u v k on = λ q. absurd (omega (arith, ap kind_of q))

-- a binding past the registry: 5 with the first position
past_first : (registry keys : List ℕ) (left n i : ℕ) → i < left → ((j : ℕ) → j < i → binding_at keys (n + j) < length registry) → length registry ≤ binding_at keys (n + i)
    → first (bad_bindings left n registry keys) ≡ Err (BadBinding (n + i))
unfolding bad_bindings
past_first registry keys zero n i l before at = absurd (omega arith)
past_first registry keys (suc left) n zero l before at =
    let z : n + 0 ≡ n = omega arith in
    first_hit (bad_binding registry n (binding_at keys n)) _ (le-leb (length registry) (binding_at keys n) (rw z at at)) ∙ rw z
past_first registry keys (suc left) n (suc i) l before at =
    let z : n + 1 + i ≡ n + suc i = omega arith in
    let b : binding_at keys n < length registry = (let y : n + 0 ≡ n = omega arith in rw y at (before 0 (omega arith))) in
    first_skip (bad_binding registry n (binding_at keys n)) _ (lt-leb (length registry) (binding_at keys n) b)
    ∙ past_first registry keys left (n + 1) i (omega arith) (λ j p. let y : n + 1 + j ≡ n + suc j = omega arith in rw y (before (suc j) (omega arith))) (rw z at) ∙ rw z

first_clear : (xs ys : List Rule) → Clear xs → first (xs ++ ys) ≡ first ys
first_clear [] ys c = refl
first_clear (x ∷ xs) ys c = first_skip x (xs ++ ys) c.0 ∙ first_clear xs ys c.1

module _ (w : Authority) (registry script : List ℕ) (place : ℕ) (held keys grants : List ℕ) where
  abbrev call : Call
  call = acquire_locks registry script place held keys grants

  -- the guards that are handed over: the leases in the grant buffer
  abbrev guards : List Guard
  guards = holds_of (perform w call).seen.1.grants

  abbrev Before : List Rule
  Before = bad_shape w.head w.table ∷ bad_health w.head w.health ∷ bad_registry registry ∷ bad_script script place ∷ bad_held w.head w.table held

  -- keys_valid(driver.registry(), keys@): 5, with the first position
  pub acquire_index_locks_r1 : (i : ℕ) → Clear Before → (too_many_keys held keys grants).applies ≡ false → i < count_in keys
      → ((j : ℕ) → j < i → (key_at keys j).0 < length registry) → length registry ≤ (key_at keys i).0 → perform w call ≡ unchanged w call (BadBinding i)
  unfolding locks_rules
  acquire_index_locks_r1 i k m l before at =
      refused_so w call (BadBinding i)
      (first_clear Before _ k ∙ first_skip (too_many_keys held keys grants) _ m
      ∙ past_first registry keys (count_in keys) 0 i l (λ j p. let y : 0 + j ≡ j = omega arith in rw y (before j p)) (let z : 0 + i ≡ i = omega arith in rw z at)
      ∙ ap {B = Check} (λ n. Err (BadBinding n)) (let z : 0 + i ≡ i = omega arith in z))

  all_match : answers w call ≡ AllGranted → Matches w.head.headers w.head.buckets registry keys (count_in keys) guards
  all_match =
      by_checks (λ m. m.seen.1.answer ≡ AllGranted → Matches w.head.headers w.head.buckets registry keys (count_in keys) (holds_of m.seen.1.grants)) w call
      (λ r e q. absurd (omega (arith, ap kind_of q)))
      (λ e k q.
      let x = locks_match (given w.head script (holds_of held)) w.head.buckets w.head.boot registry keys grants (count_in keys) 0 (count_in keys) [] (starting w.head place) w.table w.health
      (omega arith) (record { as_many = refl; each = λ i l. absurd (omega arith) }) q in
      subst (Matches w.head.headers w.head.buckets registry keys (count_in keys)) (sym (ap holds_of x.1 ∙ words_back w.head.boot x.0)) x.2)

  pub acquire_index_locks_e1 : answers w call ≡ AllGranted → guards_match w.head.buckets registry keys guards
  acquire_index_locks_e1 q = let m = all_match q in (m.as_many, λ i l. ((m.each i l).cell_is, (m.each i l).bucket_inside))

  pub acquire_index_locks_e2 : answers w call ≡ AllGranted → all_guards_in guards w
  acquire_index_locks_e2 q i l =
      let m = all_match q in
      let k = m.each i (omega (arith, m.as_many)) in
      rw k.cell_is (place_inside w.head.headers w.head.buckets (get_or registry (binding_at keys i) 0) (bucket_at keys i) k.header_inside k.bucket_inside)

  pub acquire_index_locks_e3 : answers w call ≡ AllGranted → (i : ℕ) → i < count_in keys → (key_at keys i).1 < w.head.buckets
  acquire_index_locks_e3 q i l = ((all_match q).each i l).bucket_inside

  -- so the guards are on the physical places of the keys, and (`members_only`) on no others
  pub members_match : answers w call ≡ AllGranted → (p : Pair) → physical_members registry keys p → guard_members w.head.buckets guards p
  members_match q p x = let m = acquire_index_locks_e1 q in (x.0, omega (arith, m.0, x.1), subst (guards_place w.head.buckets (hold_at guards x.0)) (sym x.2) (m.1 x.0 x.1))

  pub members_only : answers w call ≡ AllGranted → (p : Pair) → guard_members w.head.buckets guards p → physical_members registry keys p
  members_only q p x =
      let m = acquire_index_locks_e1 q in
      let i = x.0 in
      let k = m.1 i (omega (arith, m.0, x.1)) in
      let h = get_or registry (binding_at keys i) 0 in
      let e = pair_of w.head.buckets p.0 p.1 h (bucket_at keys i) x.2.1 k.1 (sym x.2.0 ∙ k.0) in
      (i, omega (arith, m.0, x.1), ap {B = Pair} (λ (z : ℕ). (z, p.1)) e.0 ∙ ap {B = Pair} (λ (z : ℕ). (h, z)) e.1)
