-- Ours meets `Meets`, and two builds that meet it are one: what it says of a call leaves one answer, one world and one log.
use Prim.Native.Nat.{ℕ, zero, suc, ◌+◌, ◌*◌, ◌/◌}
use Rattle.std.specs.Prelude.{◌≡◌, refl, List, [], ◌∷◌, ◌++◌, length, get_or, replicate}
use Rattle.std.proofs.Common.{sym, ap, ◌∙◌, subst, inl, inr, arith, length-append}
use Rattle.std.proofs.Math.Path.{fun_ext}
use Rattle.model.specs.Log.{Made}
use Rattle.model.specs.Arena.{lease_under}
use Rattle.types.specs.declared.Answer.{Answer}
use Rattle.types.specs.declared.Answer.TheVariants.{Done, Cell, Granted, AllGranted, Busy, Refused, RefusedAt}
use Rattle.types.specs.declared.Hold.{Hold}
use Rattle.types.specs.declared.Lease.{Lease}
use Rattle.types.specs.declared.Reason.TheVariants as reason
use Rattle.history.specs.Judged.{refused_so, made_so}
use Rattle.history.specs.World.{World}
use Rattle.history.specs.Items.{Build, Says, rules, Call, try_acquire, drop_lease, read_permission, competing_acquire, release_then_handoff, foreign_release, drop_preserving, acquire_preserving, environment, try_lock, transactional, acquire_bucket, release_all, acquire_locks, acquire_sorted, crew, crew_at_work, place_of, buffer, perform, Clear}
use Rattle.pinned.specs.Words.{holds, words, logged, counted, says}
use Rattle.pinned.specs.Checks.{checks}
use Rattle.pinned.specs.Steps.{at, gathered}
use Rattle.pinned.specs.Statements.{Beyond, Meets, plainly, attempted, bounded, left_by, place_by, dropping, between, locking, GivesBack, all_back, one_back, AfterKey, Keys, cells_asked_lem, Told, BySorted, AnyOrder, as_given}
use Rattle.pinned.proofs.Decided.{decided, matched, first_is, passed_clear}
use Rattle.pinned.proofs.Ours.{acquire_is, drop_is, competing_is, acquire_held_is, drop_held_is, handoff_is, between_is, environment_is, try_lock_is, crew_is, work_is, transactional_is, bucket_is, locks_is}
use Rattle.pinned.proofs.BackCalls.{release_all_is}
use Rattle.pinned.proofs.SortedCall.{sorted_call_is}
use Rattle.pinned.specs.Same.{Same, is_same, is_both, if_same, with_same, noting_same, seen_same, takes_same, runs_same, locks_same, turns_same, asks_same, keys_same, shared_same, sorted_same, joined_same, retries_same}

beyond_is : (w : World) (k : Call) → Clear (rules w k) → Beyond perform w k (perform w k)
beyond_is w (try_acquire c) k = acquire_is w c k
beyond_is w (drop_lease l) k = drop_is w l k
beyond_is w (read_permission l) k = made_so w (read_permission l) k
beyond_is w (competing_acquire l) k = competing_is w l k
beyond_is w (release_then_handoff l) k = handoff_is w l k
beyond_is w (foreign_release held l) k = between_is w held l k
beyond_is w (drop_preserving held l) k = drop_held_is w held l k
beyond_is w (acquire_preserving held c) k = acquire_held_is w held c k
beyond_is w (environment script place held) k = environment_is w script place held k
beyond_is w (try_lock script place held c) k = try_lock_is w script place held c k
beyond_is w (transactional registry script place held binding bucket) k = transactional_is w registry script place held binding bucket k
beyond_is w (acquire_bucket registry script place held binding bucket) k = bucket_is w registry script place held binding bucket k
beyond_is w (release_all script place leases) k = release_all_is w script place leases k
beyond_is w (acquire_locks registry script place held keys grants) k = locks_is w registry script place held keys grants k
beyond_is w (acquire_sorted registry script place held keys grants) k = sorted_call_is w registry script place held keys grants k
beyond_is w (crew counts cells turns) k = crew_is w counts cells turns k
beyond_is w (crew_at_work counts cells turns counters) k = work_is w counts cells turns counters k

-- what a call was given, as crate `history` reads it off the call
given_same : (k : Call) → (place_of k ≡ (as_given k).0) × (buffer k ≡ (as_given k).1)
given_same (try_acquire c) = (refl, refl)
given_same (drop_lease l) = (refl, refl)
given_same (read_permission l) = (refl, refl)
given_same (competing_acquire l) = (refl, refl)
given_same (release_then_handoff l) = (refl, refl)
given_same (foreign_release held l) = (refl, refl)
given_same (drop_preserving held l) = (refl, refl)
given_same (acquire_preserving held c) = (refl, refl)
given_same (environment script place held) = (refl, refl)
given_same (try_lock script place held c) = (refl, refl)
given_same (transactional registry script place held binding bucket) = (refl, refl)
given_same (acquire_bucket registry script place held binding bucket) = (refl, refl)
given_same (release_all script place leases) = (refl, refl)
given_same (acquire_locks registry script place held keys grants) = (refl, refl)
given_same (acquire_sorted registry script place held keys grants) = (refl, refl)
given_same (crew counts cells turns) = (refl, refl)
given_same (crew_at_work counts cells turns counters) = (refl, refl)

pub meets : Meets perform
meets =
    record {
      refused = λ w k r f.
          refused_so w k r (first_is (rules w k) (checks w k) r (matched w k) f)
          ∙ (ap (λ (p : ℕ). logged (w, says (Refused r) (counted 0 0 0 0) p (buffer k)) []) (given_same k).0
          ∙ ap (λ (g : List ℕ). logged (w, says (Refused r) (counted 0 0 0 0) (as_given k).0 g) []) (given_same k).1);
      beyond = λ w k p. beyond_is w k (passed_clear (rules w k) (checks w k) (matched w k) p);
    }

-- ---- two builds that meet it

snoc_length : {A : Type 0} (xs : List A) (x : A) → [] ≡ xs ++ (x ∷ []) → ⊥
snoc_length xs x e = let z = ap length e ∙ length-append xs (x ∷ []) in omega arith

snoc_both : (xs ys : List Hold) (x y : Hold) → xs ++ (x ∷ []) ≡ ys ++ (y ∷ []) → (xs ≡ ys) × (x ≡ y)
snoc_both [] [] x y e = (refl, cc)
snoc_both [] (k ∷ ys) x y e = let z : [] ≡ ys ++ (y ∷ []) = cc in absurd (snoc_length ys y z)
snoc_both (k ∷ xs) [] x y e = let z : xs ++ (x ∷ []) ≡ [] = cc in absurd (snoc_length xs x (sym z))
snoc_both (k ∷ xs) (l ∷ ys) x y e =
    let z : xs ++ (x ∷ []) ≡ ys ++ (y ∷ []) = cc in
    let i = snoc_both xs ys x y z in
    let h : k ≡ l = cc in
    (rw (h, i.0), i.1)

module _ (a b : Build) (first_meets : Meets a) (then_meets : Meets b) where
  agree : (w : World) (k : Call) → (Beyond a w k (a w k) → Beyond b w k (b w k) → a w k ≡ b w k) → a w k ≡ b w k
  agree w k f =
      elim (decided (rules w k) (checks w k) (matched w k)) [
        | inl r ↦ first_meets.refused w k r.0 r.1 ∙ sym (then_meets.refused w k r.0 r.1)
        | inr c ↦ f (first_meets.beyond w k c) (then_meets.beyond w k c)
      ]

  acquire : (w : World) (c : ℕ) → a w (try_acquire c) ≡ b w (try_acquire c)
  acquire w c = agree w (try_acquire c) (noting_same (seen_same attempted (takes_same w c)) _ _)

  release : (w : World) (l : Lease) → a w (drop_lease l) ≡ b w (drop_lease l)
  release w l = agree w (drop_lease l) (is_same _ _)

  bound : (w : World) (script : List ℕ) (place : ℕ) (held : List ℕ) → a w (environment script place held) ≡ b w (environment script place held)
  bound w script place held = agree w (environment script place held) (seen_same bounded (noting_same (runs_same _ script (holds held) (at w place 0))) _ _)

  lock : (w : World) (script : List ℕ) (place : ℕ) (held : List ℕ) (c : ℕ) → a w (try_lock script place held c) ≡ b w (try_lock script place held c)
  lock w script place held c = agree w (try_lock script place held c) (locks_same script (holds held) (at w place 0) c _ _)

  attempt : (w : World) (registry script : List ℕ) (place : ℕ) (held : List ℕ) (binding bucket : ℕ)
      → a w (transactional registry script place held binding bucket) ≡ b w (transactional registry script place held binding bucket)
  attempt w registry script place held binding bucket =
      agree w (transactional registry script place held binding bucket)
      (if_same is_same (if_same is_same (if_same is_same (is_both (lock w script place held (get_or registry binding 0 * w.head.buckets + bucket))))) _ _)

  retry : (w : World) (registry script : List ℕ) (place : ℕ) (held : List ℕ) (binding bucket : ℕ)
      → a w (acquire_bucket registry script place held binding bucket) ≡ b w (acquire_bucket registry script place held binding bucket)
  retry w registry script place held binding bucket =
      agree w (acquire_bucket registry script place held binding bucket)
      (retries_same (λ v p. a v (transactional registry script p held binding bucket)) (λ v p. b v (transactional registry script p held binding bucket))
      (λ v p. a v (environment script p held)) (λ v p. b v (environment script p held))
      (λ v p. attempt v registry script p held binding bucket) (λ v p. bound v script p held) 4096 0 reason.Before w place _ _)

  module _ (boot : ℕ) (script held : List ℕ) where
    abbrev G : List Hold → World → ℕ → Made (World × Says) → Type 0
    G = GivesBack a boot script held

    abbrev H : List Hold → World → ℕ → Made (World × Says) → Type 0
    H = GivesBack b boot script held

    dropping_at : {l k : Hold} {w v : World} → l ≡ k → w ≡ v → dropping a boot script held l w ≡ dropping b boot script held k v
    dropping_at {l} {k} {w} {v} e f = release w (lease_under boot l) ∙ (ap (λ (x : Hold). b w (drop_lease (lease_under boot x))) e ∙ ap (λ (x : World). b x (drop_lease (lease_under boot k))) f)

    between_like : {ls ks : List Hold} {w v : World} {p q : ℕ} → ls ≡ ks → w ≡ v → p ≡ q
        → between a boot script held ls w p ≡ between b boot script held ks v q
    between_like {ls} {ks} {w} {v} {p} e f g =
        bound w script p (held ++ words boot ls)
        ∙ (ap (λ (x : List Hold). b w (environment script p (held ++ words boot x))) e
        ∙ (ap (λ (x : World). b x (environment script p (held ++ words boot ks))) f
        ∙ ap (λ (x : ℕ). b v (environment script x (held ++ words boot ks))) g))

    back_same : {ls ks : List Hold} {w v : World} {p q : ℕ} {m n : Made (World × Says)} → G ls w p m → H ks v q n → ls ≡ ks → w ≡ v → p ≡ q → m ≡ n
    back_same all_back all_back e f g = rw (f, g)
    back_same all_back (one_back {ls} l y) e f g = absurd (snoc_length ls l e)
    back_same (one_back {ls} l x) all_back e f g = absurd (snoc_length ls l (sym e))
    back_same (one_back {ls} l x) (one_back {ls = ks} k y) e f g =
        let s = snoc_both ls ks l k e in
        let d = dropping_at s.1 f in
        let t = between_like s.0 (ap (λ (z : Made (World × Says)). left_by z) d) g in
        joined_same d (joined_same t (back_same x y s.0 (ap (λ (z : Made (World × Says)). left_by z) t) (ap (λ (z : Made (World × Says)). place_by z) t)))

  module _ (boot : ℕ) (registry script held keys grants : List ℕ) where
    module _ (p : ℕ) (taken : List Hold) (m : Made (World × Says)) (more next : Hold → Made (World × Says) → Type 0) (same : (l : Hold) → Same (more l) (next l)) where
      after_key_same : (x : Answer)
          → Same (AfterKey a boot registry script held keys grants p taken m more x) (AfterKey b boot registry script held keys grants p taken m next x)
      after_key_same (Granted l) = with_same (same _) (λ n. is_same)
      after_key_same (Refused r) = with_same (λ x y i j. back_same boot script held i j refl refl refl) (λ n. is_same)
      after_key_same (Busy why) = λ x y i j. absurd i
      after_key_same Done = λ x y i j. absurd i
      after_key_same (Cell c) = λ x y i j. absurd i
      after_key_same AllGranted = λ x y i j. absurd i
      after_key_same (RefusedAt r q) = λ x y i j. absurd i

    by_key_same : (left p : ℕ) (taken : List Hold) (w : World) (place : ℕ)
        → Same (Keys a boot registry script held keys grants left p taken w place) (Keys b boot registry script held keys grants left p taken w place)
    unfolding Keys
    by_key_same zero p taken w place x y i j = is_same x y i j
    by_key_same (suc left) p taken w place x y i j =
        let m = locking a boot registry script held keys grants p taken w place in
        let e = retry w registry script place (held ++ words boot taken) (get_or keys (2 * p) 0) (get_or keys (2 * p + 1) 0) in
        after_key_same p taken m (λ l. Keys a boot registry script held keys grants left (p + 1) (taken ++ (l ∷ [])) (left_by m) (place_by m))
        (λ l. Keys b boot registry script held keys grants left (p + 1) (taken ++ (l ∷ [])) (left_by m) (place_by m))
        (λ l. by_key_same left (p + 1) (taken ++ (l ∷ [])) (left_by m) (place_by m)) m.seen.1.answer x y i
        (subst (λ (z : Made (World × Says)). AfterKey b boot registry script held keys grants p taken z (λ l. Keys b boot registry script held keys grants left (p + 1) (taken ++ (l ∷ [])) (left_by z) (place_by z)) z.seen.1.answer y) (sym e) j)

  many : (w : World) (registry script : List ℕ) (place : ℕ) (held keys grants : List ℕ)
      → a w (acquire_locks registry script place held keys grants) ≡ b w (acquire_locks registry script place held keys grants)
  many w registry script place held keys grants =
      agree w (acquire_locks registry script place held keys grants) (by_key_same w.head.boot registry script held keys grants (length keys / 2) 0 [] w place _ _)

  module _ (w : World) (registry script : List ℕ) (place : ℕ) (held keys grants : List ℕ) where
    told_same : (cs ss : List ℕ) (m : Made (World × Says)) (x : Answer) → Same (Told a w registry script place held keys grants cs ss m x) (Told b w registry script place held keys grants cs ss m x)
    told_same cs ss m AllGranted = with_same (shared_same (holds m.seen.1.grants) cs) (λ ls. is_same)
    told_same cs ss m (RefusedAt r q) = with_same (asks_same cs (get_or ss q 0)) (λ ls. is_same)
    told_same cs ss m (Granted l) = is_same
    told_same cs ss m (Refused r) = is_same
    told_same cs ss m (Busy why) = is_same
    told_same cs ss m Done = is_same
    told_same cs ss m (Cell c) = is_same

    sorted_calls : (cs : List ℕ) → Same (BySorted a w registry script place held keys grants cs) (BySorted b w registry script place held keys grants cs)
    sorted_calls cs = with_same (sorted_same cs) (λ ss. with_same (keys_same keys cs ss) (λ ks. own ss ks))
      where
        own : (ss ks : List ℕ)
            → let m = a w (acquire_locks registry script place held ks (replicate (3 * length ss) 0)) in
            let n = b w (acquire_locks registry script place held ks (replicate (3 * length ss) 0)) in
            Same (Told a w registry script place held keys grants cs ss m m.seen.1.answer) (Told b w registry script place held keys grants cs ss n n.seen.1.answer)
        own ss ks x y i j =
            let m = a w (acquire_locks registry script place held ks (replicate (3 * length ss) 0)) in
            told_same cs ss m m.seen.1.answer x y i
            (subst (λ (z : Made (World × Says)). Told b w registry script place held keys grants cs ss z z.seen.1.answer y) (sym (many w registry script place held ks (replicate (3 * length ss) 0))) j)

    first_same : (left p : ℕ) → Same (AnyOrder a w registry script place held keys grants left p) (AnyOrder b w registry script place held keys grants left p)
    unfolding AnyOrder
    first_same zero p = sorted_calls (cells_asked_lem (length keys / 2) 0 w.head.buckets registry keys)
    first_same (suc left) p = if_same is_same (if_same is_same (first_same left (p + 1)))

  pub same : (w : World) (k : Call) → a w k ≡ b w k
  same w (try_acquire c) = acquire w c
  same w (drop_lease l) = release w l
  same w (read_permission l) = agree w (read_permission l) (is_same _ _)
  same w (competing_acquire l) = agree w (competing_acquire l) (is_both (acquire w l.cell) _ _)
  same w (release_then_handoff l) =
      let x = release w l in
      let y = acquire (left_by (a w (drop_lease l))) l.cell in
      agree w (release_then_handoff l)
      (is_both (joined_same x (y ∙ ap (λ (z : Made (World × Says)). b (left_by z) (try_acquire l.cell)) x)) _ _)
  same w (foreign_release held l) =
      let x = acquire w l.cell in
      let y = release (left_by (a w (try_acquire l.cell))) l ∙ ap (λ (z : Made (World × Says)). b (left_by z) (drop_lease l)) x in
      let z = acquire (left_by (a (left_by (a w (try_acquire l.cell))) (drop_lease l))) l.cell ∙ ap (λ (z : Made (World × Says)). b (left_by z) (try_acquire l.cell)) y in
      agree w (foreign_release held l) (is_both (joined_same x (joined_same y z)) _ _)
  same w (drop_preserving held l) = agree w (drop_preserving held l) (is_both (release w l) _ _)
  same w (acquire_preserving held c) = agree w (acquire_preserving held c) (is_both (acquire w c) _ _)
  same w (environment script place held) = bound w script place held
  same w (try_lock script place held c) = lock w script place held c
  same w (transactional registry script place held binding bucket) = attempt w registry script place held binding bucket
  same w (acquire_bucket registry script place held binding bucket) = retry w registry script place held binding bucket
  same w (release_all script place leases) = agree w (release_all script place leases) (λ x y. back_same w.head.boot script [] x y refl refl refl)
  same w (acquire_locks registry script place held keys grants) = many w registry script place held keys grants
  same w (acquire_sorted registry script place held keys grants) =
      agree w (acquire_sorted registry script place held keys grants) (first_same w registry script place held keys grants (length keys / 2) 0 _ _)
  same w (crew counts cells turns) =
      agree w (crew counts cells turns) (seen_same (λ v. plainly v.world Done) (turns_same (λ n. 0) counts cells (gathered w []) turns) _ _)
  same w (crew_at_work counts cells turns counters) =
      agree w (crew_at_work counts cells turns counters) (seen_same (λ v. plainly v.world Done) (turns_same (λ n. n) counts cells (gathered w counters) turns) _ _)

-- two builds that meet it say the same, leave the same world and have the same log
pub one_build : (a b : Build) → Meets a → Meets b → (w : World) (k : Call) → a w k ≡ b w k
one_build a b p q = same a b p q

pub no_other_build : (b : Build) → Meets b → (w : World) (k : Call) → b w k ≡ perform w k
no_other_build b m = one_build b perform m meets

pub is_ours : (b : Build) → Meets b → b ≡ perform
is_ours b m = fun_ext (λ w. fun_ext (λ k. no_other_build b m w k))
