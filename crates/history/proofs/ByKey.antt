-- Which cells grants name: the cell that was asked for, by key the key's own; in the grant buffer, at each position that of the key there.
-- which order leases are given back. What stands in quotes is of document 01.
-- ---- which cell a grant names
use Prim.Native.Nat.{ℕ, zero, suc, ◌+◌, ◌*◌, ◌<◌}
use Rattle.std.proofs.Math.Path.{◌≡◌}
use Rattle.std.specs.Prelude.{refl, leb, length, Ok, Err}
use Rattle.std.proofs.Common.{sym, ap, ◌∙◌, arith}
use mathlib.Core.List.{List, [], ◌∷◌, ◌++◌}
use Rattle.std.proofs.Math.Decide.{ℕ_discrete}
use Rattle.std.proofs.Math.ListN.{get_or, length-append, get_or-append}
use Rattle.std.proofs.Math.Seq.{get_or-append_seam}
use Rattle.types.specs.Checks.{Found}
use Rattle.model.specs.Log.{Made}
use Rattle.model.specs.Arena.{is_poisoned, hold_of, holds_of, set_cell, lease_under}
use Rattle.model.specs.Foreign.{Setting, protecting, flow_of}
use Rattle.model.specs.Lock.{take_of, lock_of, outcome_of, answer_of, settled, find_of, attempt_at, attempt_of, pause_of, is_busy, retry_of, attempt_limit, none_yet, no_hold, hold_at, rollback_of, after_key, binding_at, bucket_at, locks_of}
use Rattle.model.specs.Checks.{count_in}
use Rattle.model.specs.Calls.{starting, acquire_of}
use Rattle.model.specs.Sorted.{cells_sorted, sorted_keys, first_key, asked_first}
use Rattle.types.specs.declared.Answer.{Answer}
use Rattle.types.specs.declared.Answer.TheVariants.{Done, Cell, Granted, AllGranted, Busy, Refused, RefusedAt}
use Rattle.types.specs.declared.Head.{Head}
use Rattle.types.specs.declared.Hold.{Hold}
use Rattle.types.specs.declared.Lease.{Lease}
use Rattle.types.specs.declared.Outcome.{Outcome}
use Rattle.types.specs.declared.Outcome.TheVariants as outcome
use Rattle.types.specs.declared.Reason.{Reason}
use Rattle.types.specs.declared.Run.{Run}
use Rattle.types.specs.declared.Take.{Take}
use Rattle.types.specs.declared.Take.TheVariants as taking
use Rattle.types.specs.declared.Tried.{Tried}
use Rattle.choice.specs.Pick.{if_both}
use Rattle.laws.specs.Checks.{lease_in}
use Rattle.laws.specs.Lists.{length_words, words_back}
use Rattle.laws.specs.Outcomes.{Comes, granted, busy, poisoned, damaged, spent, lock_comes}
use Rattle.history.specs.World.{World}
use Rattle.history.specs.Items.{Call, Says, try_acquire, drop_lease, read_permission, competing_acquire, release_then_handoff, foreign_release, drop_preserving, acquire_preserving, environment, try_lock, transactional, acquire_bucket, release_all, acquire_locks, acquire_sorted, crew, crew_at_work, perform, asked, cell_of, key_cell}
use Rattle.history.specs.Statements.{GrantIs}
use Rattle.history.specs.Tests.{words_boot}
use Rattle.history.specs.Judged.{acting, past_checks, performed, judged_at}
use Rattle.history.specs.Steps.{With}
use Rattle.history.specs.ByKey.{Names, FoundAt}

take_names : (c : ℕ) (x : Take) → Names c (outcome_of c x)
take_names c (taking.Granted s) l e = let y : hold_of c s ≡ l = cc in sym (ap (λ (k : Hold). k.cell) y)
take_names c (taking.Busy owner) l e = let z : ◌≡◌ {A = ℕ} 0 1 = cc in absurd (omega arith)
take_names c taking.Damaged l e = let z : ◌≡◌ {A = ℕ} 0 1 = cc in absurd (omega arith)
take_names c taking.Spent l e = let z : ◌≡◌ {A = ℕ} 0 1 = cc in absurd (omega arith)

lock_names : {buckets c : ℕ} {g : List ℕ} {o : Outcome} → Comes buckets c g o → Names c o
lock_names {c = c} (granted s h) l e = let y : hold_of c s ≡ l = cc in sym (ap (λ (k : Hold). k.cell) y)
lock_names (busy why) l e = let z : ◌≡◌ {A = ℕ} 0 1 = cc in absurd (omega arith)
lock_names (poisoned h) l e = let z : ◌≡◌ {A = ℕ} 0 1 = cc in absurd (omega arith)
lock_names damaged l e = let z : ◌≡◌ {A = ℕ} 0 1 = cc in absurd (omega arith)
lock_names spent l e = let z : ◌≡◌ {A = ℕ} 0 1 = cc in absurd (omega arith)

module _ (e : Setting) (buckets : ℕ) (registry : List ℕ) (binding bucket : ℕ) where
  abbrev own : ℕ
  own = cell_of buckets registry binding bucket

  -- it is the key's own
  pub found_own : (g : List ℕ) → FoundAt own (find_of e.headers buckets g registry binding bucket)
  unfolding find_of
  found_own g =
      let header = get_or registry binding 0 in
      if_both (FoundAt own) (leb e.headers header) tt (if_both (FoundAt own) (is_poisoned g header) tt (if_both (FoundAt own) (leb buckets bucket) tt refl))

  attempt_names : (r : Run) (t g : List ℕ) → Names own (attempt_of e buckets registry binding bucket r t g).seen.0.outcome
  unfolding attempt_of
  attempt_names r t g = go (find_of e.headers buckets g registry binding bucket) (found_own g)
    where
      go : (x : Found) → FoundAt own x → Names own (attempt_at x e buckets r t g).seen.0.outcome
      go (Err x) h l a = let z : ◌≡◌ {A = ℕ} 0 1 = cc in absurd (omega arith)
      go (Ok c) h l a = lock_names (lock_comes e buckets c r.flow t g) l a ∙ h

  pub retry_names : (left i : ℕ) (last : Reason) (r : Run) (t g : List ℕ) → Names own (retry_of left i last e buckets registry binding bucket r t g).seen.0.outcome
  unfolding retry_of
  retry_names zero i last r t g = λ l a. let z : ◌≡◌ {A = ℕ} 0 1 = cc in absurd (omega arith)
  retry_names (suc left) i last r t g =
      let m = (attempt_of e buckets registry binding bucket r t g).seen in
      let p = (pause_of e i m.0.run m.1.0 m.1.1).seen in
      if_both (λ (x : Made (With Tried)). Names own x.seen.0.outcome) (is_busy m.0.outcome)
      (retry_names left (i + 1) _ p.0 p.1.0 p.1.1) (attempt_names r t g)

answer_names : (boot c : ℕ) (o : Outcome) → Names c o → (l : Lease) → answer_of boot o ≡ Granted l → (l.cell ≡ c) × (l.boot ≡ boot)
answer_names boot c (outcome.Granted k) n l a =
    let y : lease_under boot k ≡ l = cc in
    (sym (ap (λ (x : Lease). x.cell) y) ∙ n k refl, sym (ap (λ (x : Lease). x.boot) y))
answer_names boot c (outcome.Busy why) n l a = let z : ◌≡◌ {A = ℕ} 0 1 = cc in absurd (omega arith)
answer_names boot c (outcome.Refused r) n l a = let z : ◌≡◌ {A = ℕ} 0 1 = cc in absurd (omega arith)

settled_names : (boot c : ℕ) (o : Outcome) → Names c o → (l : Lease) → answer_of boot (settled o) ≡ Granted l → (l.cell ≡ c) × (l.boot ≡ boot)
settled_names boot c (outcome.Granted k) n l a =
    let y : lease_under boot k ≡ l = cc in
    (sym (ap (λ (x : Lease). x.cell) y) ∙ n k refl, sym (ap (λ (x : Lease). x.boot) y))
settled_names boot c (outcome.Busy why) n l a = let z : ◌≡◌ {A = ℕ} 0 1 = cc in absurd (omega arith)
settled_names boot c (outcome.Refused r) n l a = let z : ◌≡◌ {A = ℕ} 0 1 = cc in absurd (omega arith)

acquire_names : (n : ℕ) (h : Head) (t : List ℕ) (c : ℕ) (l : Lease) → (acquire_of n h t c).seen.0.answer ≡ Granted l → (l.cell ≡ c) × (l.boot ≡ h.boot)
unfolding acquire_of
acquire_names n h t c l = let x = (take_of h.next t c).seen.0.answer in answer_names h.boot c (outcome_of c x) (take_names c x) l

-- multi-lock grants all, or nothing
locks_all : (left p : ℕ) (e : Setting) (buckets boot : ℕ) (registry keys : List ℕ) (taken : List Hold) (r : Run) (t g grants : List ℕ) (l : Lease)
    → (locks_of left p e buckets boot registry keys taken r t g grants).seen.0.answer ≡ Granted l → ⊥
unfolding locks_of rollback_of
locks_all zero p e buckets boot registry keys taken r t g grants l a = let y : AllGranted ≡ Granted l = a in let z : ◌≡◌ {A = ℕ} 0 1 = cc in omega arith
locks_all (suc left) p e buckets boot registry keys taken r t g grants l a =
    let m = (retry_of attempt_limit 0 none_yet (protecting e taken) buckets registry (binding_at keys p) (bucket_at keys p) r t g).seen in
    go m.0.outcome m.0.run m.1.0 m.1.1
    (λ k. locks_all left (p + 1) e buckets boot registry keys (taken ++ (k ∷ [])) m.0.run m.1.0 m.1.1 grants l) a
  where
    go : (o : Outcome) (s : Run) (u y : List ℕ)
        → ((k : Hold) → (locks_of left (p + 1) e buckets boot registry keys (taken ++ (k ∷ [])) s u y grants).seen.0.answer ≡ Granted l → ⊥)
        → (after_key o e taken p s u y grants (λ k. locks_of left (p + 1) e buckets boot registry keys (taken ++ (k ∷ [])) s u y grants)).seen.0.answer ≡ Granted l → ⊥
    go (outcome.Granted k) s u y on = on k
    go (outcome.Busy why) s u y on = λ a. let z : ◌≡◌ {A = ℕ} 0 1 = cc in omega arith
    go (outcome.Refused x) s u y on = λ a. let z : ◌≡◌ {A = ℕ} 0 1 = cc in omega arith

past_checks_names : (w : World) (k : Call) (l : Lease) → (past_checks w k).seen.1.answer ≡ Granted l → (l.cell ≡ asked w k) × (l.boot ≡ w.head.boot)
unfolding acquire_of
past_checks_names w (try_acquire c) l a = acquire_names 1 w.head w.table c l a
past_checks_names w (drop_lease m) l a = let z : ◌≡◌ {A = ℕ} 0 1 = cc in absurd (omega arith)
past_checks_names w (read_permission m) l a = let z : ◌≡◌ {A = ℕ} 0 1 = cc in absurd (omega arith)
past_checks_names w (competing_acquire m) l a = acquire_names 1 w.head w.table m.cell l a
past_checks_names w (release_then_handoff m) l a = acquire_names 1 w.head (set_cell w.table m.cell 0 0) m.cell l a
past_checks_names w (foreign_release held m) l a =
    let x = (acquire_of 1 w.head w.table m.cell).seen in
    acquire_names 2 x.0.head (set_cell x.1 m.cell 0 0) m.cell l a
past_checks_names w (drop_preserving held m) l a = let z : ◌≡◌ {A = ℕ} 0 1 = cc in absurd (omega arith)
past_checks_names w (acquire_preserving held c) l a = acquire_names 1 w.head w.table c l a
past_checks_names w (environment script place held) l a = let z : ◌≡◌ {A = ℕ} 0 1 = cc in absurd (omega arith)
past_checks_names w (try_lock script place held c) l a =
    let e = acting w (try_lock script place held c) in
    let f = flow_of w.head.next place 0 in
    answer_names w.head.boot c (lock_of e w.head.buckets f w.table w.health c).seen.0.answer (lock_names (lock_comes e w.head.buckets c f w.table w.health)) l a
past_checks_names w (transactional registry script place held binding bucket) l a =
    let e = acting w (transactional registry script place held binding bucket) in
    answer_names w.head.boot _ (attempt_of e w.head.buckets registry binding bucket (starting w.head place) w.table w.health).seen.0.outcome
    (attempt_names e w.head.buckets registry binding bucket (starting w.head place) w.table w.health) l a
past_checks_names w (acquire_bucket registry script place held binding bucket) l a =
    let e = acting w (acquire_bucket registry script place held binding bucket) in
    settled_names w.head.boot _ (retry_of attempt_limit 0 none_yet e w.head.buckets registry binding bucket (starting w.head place) w.table w.health).seen.0.outcome
    (retry_names e w.head.buckets registry binding bucket attempt_limit 0 none_yet (starting w.head place) w.table w.health) l a
past_checks_names w (release_all script place leases) l a = let z : ◌≡◌ {A = ℕ} 0 1 = cc in absurd (omega arith)
past_checks_names w (acquire_locks registry script place held keys grants) l a =
    let e = acting w (acquire_locks registry script place held keys grants) in
    absurd (locks_all (count_in keys) 0 e w.head.buckets w.head.boot registry keys [] (starting w.head place) w.table w.health grants l a)
past_checks_names w (acquire_sorted registry script place held keys grants) l a =
    absurd (judged_at (λ (m : Made (World × Says)). m.seen.1.answer ≡ Granted l → ⊥) (first_key (count_in keys) 0 w.head registry keys)
    (λ r p _ a. let z : ◌≡◌ {A = ℕ} 0 1 = cc in omega arith) (λ _. none _ _ _ (locks_all (length (cells_sorted w.head.buckets registry keys)) 0 (acting w k) w.head.buckets w.head.boot registry (sorted_keys w.head.buckets registry keys) [] (starting w.head place) w.table w.health grants l)) a)
  where
    k : Call
    k = acquire_sorted registry script place held keys grants

    -- seen by the keys as typed, it is no single grant either
    none : (asked sorted : List ℕ) (x : Answer) → (x ≡ Granted l → ⊥) → asked_first x asked sorted ≡ Granted l → ⊥
    none asked sorted Done n a = let z : ◌≡◌ {A = ℕ} 0 1 = cc in omega arith
    none asked sorted (Cell c) n a = let z : ◌≡◌ {A = ℕ} 0 1 = cc in omega arith
    none asked sorted (Granted m) n a = n a
    none asked sorted AllGranted n a = let z : ◌≡◌ {A = ℕ} 0 1 = cc in omega arith
    none asked sorted (Busy why) n a = let z : ◌≡◌ {A = ℕ} 0 1 = cc in omega arith
    none asked sorted (Refused r) n a = let z : ◌≡◌ {A = ℕ} 0 1 = cc in omega arith
    none asked sorted (RefusedAt r p) n a = let z : ◌≡◌ {A = ℕ} 0 1 = cc in omega arith
past_checks_names w (crew counts cells turns) l a = let z : ◌≡◌ {A = ℕ} 0 1 = cc in absurd (omega arith)
past_checks_names w (crew_at_work counts cells turns counters) l a = let z : ◌≡◌ {A = ℕ} 0 1 = cc in absurd (omega arith)

pub grants_name : GrantIs perform
grants_name w k l =
    performed (λ m. m.seen.1.answer ≡ Granted l → (l.cell ≡ asked w k) × (l.boot ≡ w.head.boot)) w k (λ r a. let z : ◌≡◌ {A = ℕ} 0 1 = cc in absurd (omega arith)) (λ _. past_checks_names w k l)

-- ---- what multi-lock's buffer holds

module _ (buckets boot : ℕ) (registry keys : List ℕ) where
  pub record Filled (n : ℕ) (b : List ℕ) : Type 0 where
    pub long : length b ≡ 3 * n
    pub many : length (holds_of b) ≡ n
    pub filled : (i : ℕ) → i < n → (hold_at (holds_of b) i).cell ≡ key_cell buckets registry keys i
    pub boot_is : (i : ℕ) → i < n → (lease_in b i).boot ≡ boot

  one_more : (p : ℕ) (taken : List Hold) (l : Hold) → length taken ≡ p → ((i : ℕ) → i < p → (hold_at taken i).cell ≡ key_cell buckets registry keys i) → l.cell ≡ key_cell buckets registry keys p
      → (i : ℕ) → i < p + 1 → (hold_at (taken ++ (l ∷ [])) i).cell ≡ key_cell buckets registry keys i
  one_more p taken l n all c i k = go (ℕ_discrete i (length taken))
    where
      go : Dec (i ≡ length taken) → (hold_at (taken ++ (l ∷ [])) i).cell ≡ key_cell buckets registry keys i
      go (yes e) =
          let q : i ≡ p = omega arith in
          let x : hold_at (taken ++ (l ∷ [])) i ≡ l = rw e (get_or-append_seam taken l [] no_hold) in
          ap (λ (k : Hold). k.cell) x ∙ c ∙ ap (key_cell buckets registry keys) (sym q)
      go (no e) =
          let b : i < length taken = omega arith in
          ap (λ (k : Hold). k.cell) (get_or-append taken (l ∷ []) no_hold i b) ∙ all i (omega arith)

  pub locks_filled : (total left p : ℕ) → p + left ≡ total → (e : Setting) (taken : List Hold) (r : Run) (t g grants : List ℕ)
      → length taken ≡ p → ((i : ℕ) → i < p → (hold_at taken i).cell ≡ key_cell buckets registry keys i)
      → let m = (locks_of left p e buckets boot registry keys taken r t g grants).seen in m.0.answer ≡ AllGranted → Filled total m.1.1.1
  unfolding locks_of rollback_of
  locks_filled total zero p h e taken r t g grants n all a =
      record {
        long = omega (arith, length_words boot taken);
        many = rw (words_back boot taken) (omega arith);
        filled = λ i k. rw (words_back boot taken) (all i (omega arith));
        boot_is = λ i k. words_boot boot taken i (omega arith);
      }
  locks_filled total (suc left) p h e taken r t g grants n all a =
      let m = (retry_of attempt_limit 0 none_yet (protecting e taken) buckets registry (binding_at keys p) (bucket_at keys p) r t g).seen in
      go m.0.outcome m.0.run m.1.0 m.1.1 (retry_names (protecting e taken) buckets registry (binding_at keys p) (bucket_at keys p) attempt_limit 0 none_yet r t g)
      (λ l c. locks_filled total left (p + 1) (omega arith) e (taken ++ (l ∷ [])) m.0.run m.1.0 m.1.1 grants (omega (arith, length-append taken (l ∷ []))) (one_more p taken l n all c)) a
    where
      go : (o : Outcome) (s : Run) (u y : List ℕ) → Names (key_cell buckets registry keys p) o
          → ((l : Hold) → l.cell ≡ key_cell buckets registry keys p → let m = (locks_of left (p + 1) e buckets boot registry keys (taken ++ (l ∷ [])) s u y grants).seen in
          m.0.answer ≡ AllGranted → Filled total m.1.1.1)
          → let m = (after_key o e taken p s u y grants (λ l. locks_of left (p + 1) e buckets boot registry keys (taken ++ (l ∷ [])) s u y grants)).seen in
          m.0.answer ≡ AllGranted → Filled total m.1.1.1
      go (outcome.Granted l) s u y c on = on l (c l refl)
      go (outcome.Busy why) s u y c on = λ a. let z : ◌≡◌ {A = ℕ} 0 1 = cc in absurd (omega arith)
      go (outcome.Refused x) s u y c on = λ a. let z : ◌≡◌ {A = ℕ} 0 1 = cc in absurd (omega arith)
