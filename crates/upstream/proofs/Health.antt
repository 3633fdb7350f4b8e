-- 000 and 001: what a key comes to, said of the call's answer (`publication_header`, `poisoned`, `bucket`). An attempt reads header, health and bucket
-- first (`Resolve`); document 02, L3, has it read the health again after the third boundary, when it has the cell.
use Prim.Native.Nat.{ℕ, zero, suc, ◌+◌, ◌≤◌, ◌<◌}
use Rattle.std.specs.Prelude.{◌≡◌, List, [], ◌∷◌, true, ◌↔◌, ◌⊎◌, eqb, Ok}
use Rattle.std.proofs.Math.Path.{refl, sym, ap, subst}
use Rattle.std.proofs.Common.{◌∙◌, arith}
use Rattle.std.proofs.Math.Logic.{inl, inr}
use Rattle.std.proofs.Math.Decide.{dec_lt}
use borrow.Author.Tests.{eqb-true, eq-eqb, ne_eqb, ltb-true, lt-ltb, not-true}
use Rattle.std.proofs.Math.ListN.{get_or}
use Rattle.types.specs.Checks.{Found}
use Rattle.choice.specs.Pick.{if_both}
use Rattle.model.specs.Log.{Made}
use Rattle.model.specs.Arena.{last_serial, serial_remains, cell_number, header_of, is_poisoned, hold_of, hold_in, holds_of, bit_at, owner_at, waiters_at, set_cell, state_at}
use Rattle.model.specs.Answers.{kind_of}
use Rattle.model.specs.Refusals.{first}
use Rattle.model.specs.Foreign.{Setting, protecting, flow_of, boundary_of}
use Rattle.model.specs.Lock.{take_in, take_of, late_stage_of, after_take, second_stage_of, lock_of, find_of, attempt_at, attempt_of, answer_of, settled, is_busy, pause_of, retry_of, attempt_limit, none_yet}
use Rattle.model.specs.Calls.{given, starting}
use Rattle.types.specs.declared.Answer.{Answer}
use Rattle.types.specs.declared.Answer.TheVariants.{Granted, Refused}
use Rattle.types.specs.declared.Flow.{Flow}
use Rattle.types.specs.declared.Lease.{Lease}
use Rattle.types.specs.declared.Locked.{Locked}
use Rattle.types.specs.declared.Outcome.{Outcome}
use Rattle.types.specs.declared.Outcome.TheVariants as outcome
use Rattle.types.specs.declared.Reason.{Reason}
use Rattle.types.specs.declared.Refusal.{Refusal}
use Rattle.types.specs.declared.Refusal.TheVariants.{BadHeader, Poisoned, InvalidBucket, SerializationFailure}
use Rattle.types.specs.declared.Run.{Run}
use Rattle.types.specs.declared.State.{State}
use Rattle.types.specs.declared.Took.{Took}
use Rattle.types.specs.declared.Tried.{Tried}
use Rattle.laws.specs.Keys.{header_of_key_lem}
use Rattle.laws.specs.Outcomes as locked
use Rattle.laws.specs.Outcomes.{Comes, lock_comes}
use Rattle.history.specs.Items.{Call, transactional, acquire_bucket, rules}
use Rattle.history.specs.Statements.{answers, leaves}
use Rattle.history.specs.Steps.{With}
use Rattle.history.specs.Tests.{Stands, is_free_lem, is_held_lem, is_damaged, stands, state_free, if_cases, differ}
use Rattle.upstream.specs.Vocabulary.{Authority, lease_key, next_serial, contains_key, key_of, bucket_request_valid, guards_place}
use Rattle.upstream.proofs.Bridge.{by_checks}
use Rattle.upstream.proofs.TryAcquire.{fine_fault}
use Rattle.upstream.specs.Keys.{Finds, bad_header, poisoned, bad_bucket, at, finds}
use Rattle.upstream.proofs.Buckets.{guards_transactional_e1, guards_transactional_e2}
use Rattle.upstream.specs.Resolve.{apart}

answer_refused : (boot : ℕ) (o : Outcome) (r : Refusal) → answer_of boot o ≡ Refused r → o ≡ outcome.Refused r
answer_refused boot (outcome.Granted k) r e = absurd (omega (arith, ap kind_of e))
answer_refused boot (outcome.Busy why) r e = absurd (omega (arith, ap kind_of e))
answer_refused boot (outcome.Refused x) r e = cc

-- ---- the second reading, in a lock of one cell

module _ (e : Setting) (buckets : ℕ) (f : Flow) (t g : List ℕ) (c : ℕ) where
  abbrev one : With Flow
  one = (boundary_of e f t g).seen

  abbrev two : With Flow
  two = (boundary_of e one.0 one.1.0 one.1.1).seen

  -- the third boundary, protecting the new lease
  abbrev three : With Flow
  three =
      let taken = set_cell two.1.0 c 1 two.0.next in
      let on = flow_of (two.0.next + 1) two.0.place two.0.dropped in
      (boundary_of (protecting e (hold_of c two.0.next ∷ [])) on taken two.1.1).seen

  -- no waiters after the first boundary, the cell free and a serial left after the second, and after the third the
  -- header is not healthy
  pub record SickAgain : Type 0 where
    pub unwaited : waiters_at one.1.0 c ≡ 0
    pub unlocked : bit_at two.1.0 c ≡ 0
    pub nobody : owner_at two.1.0 c ≡ 0
    pub serial : two.0.next < last_serial
    pub sick : get_or three.1.1 (header_of buckets c) 0 ≡ 0 → ⊥

  module _ (h : ℕ) where
    abbrev Tells : Made (With Locked) → Type 0
    Tells m = m.seen.0.answer ≡ outcome.Refused (Poisoned h) → (h ≡ header_of buckets c) × SickAgain

    late_tells : waiters_at one.1.0 c ≡ 0 → bit_at two.1.0 c ≡ 0 → owner_at two.1.0 c ≡ 0 → two.0.next < last_serial
        → Tells (late_stage_of e buckets (flow_of (two.0.next + 1) two.0.place two.0.dropped) (set_cell two.1.0 c 1 two.0.next) two.1.1 c two.0.next)
    unfolding late_stage_of
    late_tells p q r l =
        if_cases Tells (is_poisoned three.1.1 (header_of buckets c))
        (λ x y. (
          let z : header_of buckets c ≡ h = cc in sym z,
          record { unwaited = p; unlocked = q; nobody = r; serial = l; sick = λ z. differ (sym (not-true _ x) ∙ eq-eqb (get_or three.1.1 (header_of buckets c) 0) 0 z) },
        ))
        (λ x. if_both Tells (eqb (waiters_at three.1.0 c) 0) (λ y. apart cc) (λ y. apart cc))

    abbrev Second : Made (Took × List ℕ) → Type 0
    Second m = Tells (after_take m.seen.0.answer e buckets (flow_of m.seen.0.next two.0.place two.0.dropped) m.seen.1 two.1.1 c)

    second_tells : waiters_at one.1.0 c ≡ 0 → {s : State} → Stands two.0.next (bit_at two.1.0 c) (owner_at two.1.0 c) s → Second (take_in s two.0.next two.1.0 c)
    second_tells p (is_free_lem q r) = if_cases Second (serial_remains two.0.next) (λ x. late_tells p q r (ltb-true _ _ x)) (λ x y. apart cc)
    second_tells p (is_held_lem q r s) = λ y. apart cc
    second_tells p (is_damaged q r) = λ y. apart cc

    lock_tells : Tells (lock_of e buckets f t g c)
    unfolding lock_of second_stage_of take_of state_at
    lock_tells =
        if_cases Tells (eqb (waiters_at one.1.0 c) 0)
        (λ x. second_tells (eqb-true _ _ x) (stands two.0.next (bit_at two.1.0 c) (owner_at two.1.0 c)))
        (λ x y. apart cc)

  lock_sick : SickAgain → (lock_of e buckets f t g c).seen.0.answer ≡ outcome.Refused (Poisoned (header_of buckets c))
  unfolding lock_of second_stage_of take_of state_at late_stage_of
  lock_sick k =
      rw (
        eq-eqb (waiters_at one.1.0 c) 0 k.unwaited,
        state_free two.0.next (bit_at two.1.0 c) (owner_at two.1.0 c) k.unlocked k.nobody,
        lt-ltb two.0.next last_serial k.serial,
        ne_eqb (get_or three.1.1 (header_of buckets c) 0) 0 k.sick,
      )

-- ---- a lock answers neither 6 nor 8

comes_6 : {buckets c : ℕ} {g : List ℕ} {o : Outcome} (h : ℕ) → Comes buckets c g o → o ≡ outcome.Refused (BadHeader h) → ⊥
comes_6 h (locked.granted s x) e = apart cc
comes_6 h (locked.busy why) e = apart cc
comes_6 h (locked.poisoned x) e = apart cc
comes_6 h locked.damaged e = apart cc
comes_6 h locked.spent e = apart cc

comes_8 : {buckets c : ℕ} {g : List ℕ} {o : Outcome} (b : ℕ) → Comes buckets c g o → o ≡ outcome.Refused (InvalidBucket b) → ⊥
comes_8 b (locked.granted s x) e = apart cc
comes_8 b (locked.busy why) e = apart cc
comes_8 b (locked.poisoned x) e = apart cc
comes_8 b locked.damaged e = apart cc
comes_8 b locked.spent e = apart cc

comes_7 : {buckets c : ℕ} {g : List ℕ} {o : Outcome} (h : ℕ) → Comes buckets c g o → o ≡ outcome.Refused (Poisoned h) → (h ≡ header_of buckets c) × (get_or g (header_of buckets c) 0 ≡ 0 → ⊥)
comes_7 h (locked.granted s x) e = apart cc
comes_7 h (locked.busy why) e = apart cc
comes_7 {buckets} {c} h (locked.poisoned x) e = (let z : header_of buckets c ≡ h = cc in sym z, x)
comes_7 h locked.damaged e = apart cc
comes_7 h locked.spent e = apart cc

-- ---- an attempt: 7 exactly if the key's header is not healthy, at the first reading or at the second

module _ (e : Setting) (buckets : ℕ) (registry : List ℕ) (binding bucket : ℕ) where
  abbrev head_of_lem : ℕ
  head_of_lem = get_or registry binding 0

  abbrev attempted : Run → List ℕ → List ℕ → With Tried
  attempted r t g = (attempt_of e buckets registry binding bucket r t g).seen

  -- what an attempt that begins so reads
  abbrev pub Sick : Run → List ℕ → List ℕ → Type 0
  Sick r t g =
      (head_of_lem < e.headers)
      × ((get_or g head_of_lem 0 ≡ 0 → ⊥)
      ⊎ ((bucket < buckets) × SickAgain e buckets r.flow t g (cell_number buckets head_of_lem bucket)))

  attempt_tells : (r : Run) (t g : List ℕ) (h : ℕ) → (attempted r t g).0.outcome ≡ outcome.Refused (Poisoned h) → (h ≡ head_of_lem) × Sick r t g
  unfolding attempt_of
  attempt_tells r t g h = go (finds e.headers buckets g registry binding bucket)
    where
      go : {x : Found} → Finds e.headers buckets g registry binding bucket x
          → (attempt_at x e buckets r t g).seen.0.outcome ≡ outcome.Refused (Poisoned h) → (h ≡ head_of_lem) × Sick r t g
      go (bad_header p) q = apart cc
      go (poisoned p s) q = (let z : head_of_lem ≡ h = cc in sym z, (p, inl s))
      go (bad_bucket p s k) q = apart cc
      go (at p s k) q =
          let x = lock_tells e buckets r.flow t g (cell_number buckets head_of_lem bucket) h q in
          (x.0 ∙ header_of_key_lem buckets head_of_lem bucket k, (p, inr (k, x.1)))

  attempt_sick : (r : Run) (t g : List ℕ) → Sick r t g → (attempted r t g).0.outcome ≡ outcome.Refused (Poisoned head_of_lem)
  unfolding attempt_of
  attempt_sick r t g k = go (finds e.headers buckets g registry binding bucket) k.0 k.1
    where
      go : {x : Found} → Finds e.headers buckets g registry binding bucket x → head_of_lem < e.headers
          → (get_or g head_of_lem 0 ≡ 0 → ⊥) ⊎ ((bucket < buckets) × SickAgain e buckets r.flow t g (cell_number buckets head_of_lem bucket))
          → (attempt_at x e buckets r t g).seen.0.outcome ≡ outcome.Refused (Poisoned head_of_lem)
      go (bad_header p) l y = absurd (omega arith)
      go (poisoned p q) l y = refl
      go (bad_bucket p q s) l (inl n) = absurd (n q)
      go (bad_bucket p q s) l (inr y) = absurd (omega (arith, y.0))
      go (at p q s) l (inl n) = absurd (n q)
      go (at p q s) l (inr y) =
          lock_sick e buckets r.flow t g (cell_number buckets head_of_lem bucket) y.1
          ∙ ap {B = Outcome} (λ k. outcome.Refused (Poisoned k)) (header_of_key_lem buckets head_of_lem bucket s)

  -- 7 leaves the header not healthy
  attempt_leaves : (r : Run) (t g : List ℕ) (h : ℕ) → (attempted r t g).0.outcome ≡ outcome.Refused (Poisoned h) → get_or (attempted r t g).1.1 h 0 ≡ 0 → ⊥
  unfolding attempt_of
  attempt_leaves r t g h = go (finds e.headers buckets g registry binding bucket)
    where
      go : {x : Found} → Finds e.headers buckets g registry binding bucket x
          → (attempt_at x e buckets r t g).seen.0.outcome ≡ outcome.Refused (Poisoned h) → get_or (attempt_at x e buckets r t g).seen.1.1 h 0 ≡ 0 → ⊥
      go (bad_header p) q = apart cc
      go (poisoned p s) q = let z : head_of_lem ≡ h = cc in subst (λ (i : ℕ). get_or g i 0 ≡ 0 → ⊥) z s
      go (bad_bucket p s k) q = apart cc
      go (at p s k) q =
          let c = cell_number buckets head_of_lem bucket in
          let m = (lock_of e buckets r.flow t g c).seen in
          let x = comes_7 h (lock_comes e buckets c r.flow t g) q in
          subst (λ (i : ℕ). get_or m.1.1 i 0 ≡ 0 → ⊥) (sym x.0) x.1

  -- ---- up to 4,096 attempts: one of them reads so, and all before it were Busy

  abbrev paused : ℕ → Run → List ℕ → List ℕ → With Run
  paused i r t g = let m = attempted r t g in (pause_of e i m.0.run m.1.0 m.1.1).seen

  -- `left` attempts from number i on
  pub data SickWithin : (left i : ℕ) (r : Run) (t g : List ℕ) → Type 0 where
    now : {left i : ℕ} {r : Run} {t g : List ℕ} → Sick r t g → SickWithin (suc left) i r t g
    later : {left i : ℕ} {r : Run} {t g : List ℕ} → is_busy (attempted r t g).0.outcome ≡ true
        → SickWithin left (i + 1) (paused i r t g).0 (paused i r t g).1.0 (paused i r t g).1.1 → SickWithin (suc left) i r t g

  retry_tells : (left i : ℕ) (last : Reason) (r : Run) (t g : List ℕ) (h : ℕ)
      → (retry_of left i last e buckets registry binding bucket r t g).seen.0.outcome ≡ outcome.Refused (Poisoned h) → (h ≡ head_of_lem) × SickWithin left i r t g
  unfolding retry_of
  retry_tells zero i last r t g h = λ q. apart cc
  retry_tells (suc left) i last r t g h =
      let p = paused i r t g in
      if_cases (λ (x : Made (With Tried)). x.seen.0.outcome ≡ outcome.Refused (Poisoned h) → (h ≡ head_of_lem) × SickWithin (suc left) i r t g)
      (is_busy (attempted r t g).0.outcome)
      (λ b q. let x = retry_tells left (i + 1) _ p.0 p.1.0 p.1.1 h q in (x.0, later b x.1))
      (λ b q. let x = attempt_tells r t g h q in (x.0, now x.1))

  retry_sick : (left i : ℕ) (last : Reason) (r : Run) (t g : List ℕ) → SickWithin left i r t g
      → (retry_of left i last e buckets registry binding bucket r t g).seen.0.outcome ≡ outcome.Refused (Poisoned head_of_lem)
  unfolding retry_of
  retry_sick (suc left) i last r t g (now k) =
      let q = attempt_sick r t g k in
      if_cases (λ (x : Made (With Tried)). x.seen.0.outcome ≡ outcome.Refused (Poisoned head_of_lem)) (is_busy (attempted r t g).0.outcome)
      (λ b. absurd (differ (sym (ap is_busy q) ∙ b))) (λ b. q)
  retry_sick (suc left) i last r t g (later b k) =
      let p = paused i r t g in
      if_cases (λ (x : Made (With Tried)). x.seen.0.outcome ≡ outcome.Refused (Poisoned head_of_lem)) (is_busy (attempted r t g).0.outcome)
      (λ c. retry_sick left (i + 1) _ p.0 p.1.0 p.1.1 k) (λ c. absurd (differ (sym c ∙ b)))
  retry_sick zero i last r t g x' = elim x' [ ]

  retry_leaves : (left i : ℕ) (last : Reason) (r : Run) (t g : List ℕ) (h : ℕ)
      → let m = (retry_of left i last e buckets registry binding bucket r t g).seen in
      m.0.outcome ≡ outcome.Refused (Poisoned h) → get_or m.1.1 h 0 ≡ 0 → ⊥
  unfolding retry_of
  retry_leaves zero i last r t g h = λ q. apart cc
  retry_leaves (suc left) i last r t g h =
      let p = paused i r t g in
      if_both (λ (x : Made (With Tried)). x.seen.0.outcome ≡ outcome.Refused (Poisoned h) → get_or x.seen.1.1 h 0 ≡ 0 → ⊥)
      (is_busy (attempted r t g).0.outcome) (retry_leaves left (i + 1) _ p.0 p.1.0 p.1.1 h) (attempt_leaves r t g h)

settled_poisoned : (boot : ℕ) (o : Outcome) (h : ℕ) → answer_of boot (settled o) ≡ Refused (Poisoned h) → o ≡ outcome.Refused (Poisoned h)
settled_poisoned boot (outcome.Granted k) h e = absurd (omega (arith, ap kind_of e))
settled_poisoned boot (outcome.Busy why) h e = let q : SerializationFailure why ≡ Poisoned h = cc in apart cc
settled_poisoned boot (outcome.Refused x) h e = cc

-- ---- the calls

module _ (w : Authority) (registry script : List ℕ) (place : ℕ) (held : List ℕ) (binding bucket : ℕ) where
  abbrev call : Call
  call = transactional registry script place held binding bucket

  abbrev many : Call
  many = acquire_bucket registry script place held binding bucket

  abbrev header : ℕ
  header = get_or registry binding 0

  abbrev byte : ℕ
  byte = get_or w.health header 0

  abbrev acting : Setting
  acting = given w.head script (holds_of held)

  abbrev begun : Run
  begun = starting w.head place

  -- the second reading finds the key's header poisoned
  abbrev pub ReadAgain : Type 0
  ReadAgain =
      SickAgain acting w.head.buckets (flow_of (next_serial w) place 0) w.table w.health (key_of w header bucket)

  abbrev attempt : Found → Outcome
  attempt x = (attempt_at x acting w.head.buckets (starting w.head place) w.table w.health).seen.0.outcome

  abbrev Find : Found → Type 0
  Find = Finds w.head.headers w.head.buckets w.health registry binding bucket

  found_find : Find (find_of w.head.headers w.head.buckets w.health registry binding bucket)
  found_find = finds w.head.headers w.head.buckets w.health registry binding bucket

  -- self.poisoned(header), of the call: 7 with the key's header, exactly if its health is not 0 at the first reading or at the second
  pub poisoned_n1 : first (rules w call) ≡ Ok tt → (h : ℕ)
      → (answers w call ≡ Refused (Poisoned h)) ↔ ((h ≡ header) × (header < w.head.headers) × ((byte ≡ 0 → ⊥) ⊎ ((bucket < w.head.buckets) × ReadAgain)))
  poisoned_n1 f h = (
    by_checks (λ m. m.seen.1.answer ≡ Refused (Poisoned h) → (h ≡ header) × (header < w.head.headers) × ((byte ≡ 0 → ⊥) ⊎ ((bucket < w.head.buckets) × ReadAgain))) w call
        (λ r e q. absurd (fine_fault f e))
        (λ e k q. let x = attempt_tells acting w.head.buckets registry binding bucket begun w.table w.health h (answer_refused _ _ _ q) in (x.0, x.1.0, x.1.1)),
    λ y. by_checks (λ m. m.seen.1.answer ≡ Refused (Poisoned h)) w call (λ r e. absurd (fine_fault f e))
        (λ e k. ap (answer_of w.head.boot) (attempt_sick acting w.head.buckets registry binding bucket begun w.table w.health (y.1, y.2))
        ∙ ap (λ (n : ℕ). Refused (Poisoned n)) (sym y.0)),
  )

  -- of the retrying call: 7 with the key's header, exactly if one of the 4,096 attempts reads so and all before it were
  -- Busy
  abbrev pub ReadsPoison : Type 0
  ReadsPoison =
      SickWithin acting w.head.buckets registry binding bucket attempt_limit 0 begun w.table w.health

  pub poisoned_many : first (rules w many) ≡ Ok tt → (h : ℕ) → (answers w many ≡ Refused (Poisoned h)) ↔ ((h ≡ header) × ReadsPoison)
  poisoned_many f h = (
    by_checks (λ m. m.seen.1.answer ≡ Refused (Poisoned h) → (h ≡ header) × ReadsPoison) w many (λ r e q. absurd (fine_fault f e))
        (λ e k q. retry_tells acting w.head.buckets registry binding bucket attempt_limit 0 none_yet begun w.table w.health h (settled_poisoned _ _ h q)),
    λ y. by_checks (λ m. m.seen.1.answer ≡ Refused (Poisoned h)) w many (λ r e. absurd (fine_fault f e))
        (λ e k. ap {B = Answer} (λ o. answer_of w.head.boot (settled o))
        (retry_sick acting w.head.buckets registry binding bucket attempt_limit 0 none_yet begun w.table w.health y.1)
        ∙ ap (λ (n : ℕ). Refused (Poisoned n)) (sym y.0)),
  )

  -- and the header is not healthy in what the call leaves
  pub poisoned_left : first (rules w many) ≡ Ok tt → (h : ℕ) → answers w many ≡ Refused (Poisoned h) → get_or (leaves w many).health h 0 ≡ 0 → ⊥
  poisoned_left f h =
      by_checks (λ m. m.seen.1.answer ≡ Refused (Poisoned h) → get_or m.seen.0.health h 0 ≡ 0 → ⊥) w many (λ r e q. absurd (fine_fault f e))
      (λ e k q. retry_leaves acting w.head.buckets registry binding bucket attempt_limit 0 none_yet begun w.table w.health h (settled_poisoned _ _ h q))

  -- ---- 6 and 8, of the call

  six : {x : Found} → Find x → (h : ℕ) → attempt x ≡ outcome.Refused (BadHeader h) → (h ≡ header) × (w.head.headers ≤ header)
  six (bad_header p) h e = (let z : header ≡ h = cc in sym z, p)
  six (poisoned p q) h e = apart cc
  six (bad_bucket p q s) h e = apart cc
  six (at p q s) h e = absurd (comes_6 h (lock_comes acting w.head.buckets (key_of w header bucket) (flow_of (next_serial w) place 0) w.table w.health) e)

  is_six : {x : Found} → Find x → w.head.headers ≤ header → attempt x ≡ outcome.Refused (BadHeader header)
  is_six (bad_header p) l = refl
  is_six (poisoned p q) l = absurd (omega arith)
  is_six (bad_bucket p q s) l = absurd (omega arith)
  is_six (at p q s) l = absurd (omega arith)

  eight : {x : Found} → Find x → (b : ℕ) → attempt x ≡ outcome.Refused (InvalidBucket b) → (b ≡ bucket) × (header < w.head.headers) × (byte ≡ 0) × (w.head.buckets ≤ bucket)
  eight (bad_header p) b e = apart cc
  eight (poisoned p q) b e = apart cc
  eight (bad_bucket p q s) b e = (let z : bucket ≡ b = cc in sym z, p, q, s)
  eight (at p q s) b e = absurd (comes_8 b (lock_comes acting w.head.buckets (key_of w header bucket) (flow_of (next_serial w) place 0) w.table w.health) e)

  is_eight : {x : Found} → Find x → header < w.head.headers → byte ≡ 0 → w.head.buckets ≤ bucket → attempt x ≡ outcome.Refused (InvalidBucket bucket)
  is_eight (bad_header p) l g b = absurd (omega arith)
  is_eight (poisoned p q) l g b = absurd (q g)
  is_eight (bad_bucket p q s) l g b = refl
  is_eight (at p q s) l g b = absurd (omega arith)

  pub header_answer : first (rules w call) ≡ Ok tt → (h : ℕ) → (answers w call ≡ Refused (BadHeader h)) ↔ ((h ≡ header) × (w.head.headers ≤ header))
  unfolding attempt_of
  header_answer f h = (
    by_checks (λ m. m.seen.1.answer ≡ Refused (BadHeader h) → (h ≡ header) × (w.head.headers ≤ header)) w call
        (λ r e q. absurd (fine_fault f e)) (λ e k q. six found_find h (answer_refused _ _ _ q)),
    λ y. by_checks (λ m. m.seen.1.answer ≡ Refused (BadHeader h)) w call (λ r e. absurd (fine_fault f e))
        (λ e k. ap (answer_of w.head.boot) (is_six found_find y.1) ∙ ap (λ (n : ℕ). Refused (BadHeader n)) (sym y.0)),
  )

  pub bucket_e1 : first (rules w call) ≡ Ok tt → (b : ℕ)
      → (answers w call ≡ Refused (InvalidBucket b)) ↔ ((b ≡ bucket) × (header < w.head.headers) × (byte ≡ 0) × (w.head.buckets ≤ bucket))
  unfolding attempt_of
  bucket_e1 f b = (
    by_checks (λ m. m.seen.1.answer ≡ Refused (InvalidBucket b) → (b ≡ bucket) × (header < w.head.headers) × (byte ≡ 0) × (w.head.buckets ≤ bucket)) w call
        (λ r e q. absurd (fine_fault f e)) (λ e k q. eight found_find b (answer_refused _ _ _ q)),
    λ y. by_checks (λ m. m.seen.1.answer ≡ Refused (InvalidBucket b)) w call (λ r e. absurd (fine_fault f e))
        (λ e k. ap (answer_of w.head.boot) (is_eight found_find y.1 y.2 y.3) ∙ ap (λ (n : ℕ). Refused (InvalidBucket n)) (sym y.0)),
  )

  -- bucket_request_valid: the bucket is too large, or its cell is in the map; else 6
  pub bucket_r1 : first (rules w call) ≡ Ok tt → (bucket_request_valid w.head.buckets header bucket w → ⊥) → answers w call ≡ Refused (BadHeader header)
  bucket_r1 f n = (header_answer f header).1 (refl, go (dec_lt header w.head.headers) (dec_lt bucket w.head.buckets))
    where
      go : Dec (header < w.head.headers) → Dec (bucket < w.head.buckets) → w.head.headers ≤ header
      go (yes p) (yes q) = absurd (n (inr (p, q)))
      go (yes p) (no q) = absurd (n (inl (omega arith)))
      go (no p) q = omega arith

  -- what is granted is the key's own cell, and it is in the arena
  pub publication_header_e1 : (l : Lease) → answers w call ≡ Granted l → ((lease_key (hold_in l) ≡ key_of w header bucket) × (bucket < w.head.buckets)) × contains_key w (lease_key (hold_in l))
  publication_header_e1 l e =
      (guards_transactional_e1 w registry script place held binding bucket l e, guards_transactional_e2 w registry script place held binding bucket l e)

  -- 001: r.is_some() <==> bucket < self.bucket_count(), and r.unwrap() == (header, bucket)
  pub guards_bucket_e1 : first (rules w call) ≡ Ok tt → (b : ℕ)
      → (answers w call ≡ Refused (InvalidBucket b)) ↔ ((b ≡ bucket) × (header < w.head.headers) × (byte ≡ 0) × (w.head.buckets ≤ bucket))
  guards_bucket_e1 = bucket_e1

  pub guards_bucket_e2 : (l : Lease) → answers w call ≡ Granted l → guards_place w.head.buckets (hold_in l) (header, bucket)
  guards_bucket_e2 = guards_transactional_e1 w registry script place held binding bucket
