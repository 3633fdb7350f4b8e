-- Ours meets what is said of `acquire_sorted_locks`.
use Prim.Native.Nat.{ℕ, zero, suc, ◌+◌, ◌*◌, ◌/◌}
use Rattle.std.specs.Prelude.{◌≡◌, List, [], ◌∷◌, true, false, leb, eqb, length, get_or, replicate, if◌then◌else◌, Ok, Err}
use Rattle.std.proofs.Math.Path.{refl}
use Rattle.std.proofs.Common.{sym, ap, ◌∙◌, subst, inl, inr, arith, eqb-true, leb-true, leb-false}
use Rattle.std.proofs.Math.Bool.{Bool}
use Rattle.std.proofs.lemmas.List.{length-replicate}
use Rattle.std.proofs.lemmas.Bool.{eqb-false}
use Rattle.types.specs.Checks.{KeyCheck}
use Rattle.model.specs.Log.{Made, Event}
use Rattle.model.specs.Arena.{holds_of}
use Rattle.model.specs.Refusals.{first}
use Rattle.model.specs.Sorted.{cells_from, cells_asked, cells_sorted, sorted_of, sorted_keys, first_asking, keys_for, hold_on, shared_of, asked_first, first_key, fault_at, judge_at, header_of_key}
use Rattle.model.specs.Lock.{bucket_at}
use Rattle.types.specs.declared.Answer.{Answer}
use Rattle.types.specs.declared.Answer.TheVariants.{Done, Cell, Granted, AllGranted, Busy, Refused, RefusedAt}
use Rattle.types.specs.declared.Counts.{Counts}
use Rattle.types.specs.declared.Hold.{Hold}
use Rattle.types.specs.declared.Refusal.{Refusal}
use Rattle.types.specs.declared.Refusal.TheVariants.{BadHeader, InvalidBucket}
use Rattle.laws.specs.Sorting.{sorted_is}
use Rattle.laws.specs.Sorting as law
use Rattle.history.specs.World.{World}
use Rattle.history.specs.Items.{Says, says, Clear, rules, perform, acquire_locks, acquire_sorted, unchanged_at}
use Rattle.history.specs.Judged.{seen_as, as_asked, sorted_locks, made_so}
use Rattle.history.specs.Statements.{answer_in, buffer_in}
use Rattle.sorted_theory.specs.Statements.{AsLocks}
use Rattle.sorted_theory.specs.Runs.{as_multilock}
use Rattle.pinned.specs.Words.{logged, counted}
use Rattle.pinned.specs.Statements.{cells_asked_lem, Rising, Sorted, AsksFirst, KeysFor, LeaseOn, Shared, Told, BySorted, AnyOrder}
use Rattle.pinned.proofs.Decided.{holds_same}
use Rattle.pinned.specs.Same.{among, is_among_lem}
use Rattle.pinned.proofs.Ours.{words_same}

asked_same : (left p buckets : ℕ) (registry keys : List ℕ) → cells_asked_lem left p buckets registry keys ≡ cells_from left p buckets registry keys
unfolding cells_asked_lem cells_from
asked_same zero p buckets registry keys = refl
asked_same (suc left) p buckets registry keys = ap {B = List ℕ} (λ cs. (get_or registry (get_or keys (2 * p) 0) 0 * buckets + get_or keys (2 * p + 1) 0) ∷ cs) (asked_same left (p + 1) buckets registry keys)

asks_is : (cs : List ℕ) (c : ℕ) → AsksFirst cs c (first_asking cs c)
unfolding AsksFirst first_asking
asks_is [] c = refl
asks_is (x ∷ xs) c = go (eqb x c) refl (asks_is xs c)
  where
    go : (b : Bool) → eqb x c ≡ b → AsksFirst xs c (first_asking xs c) → AsksFirst (x ∷ xs) c (if b then 0 else suc (first_asking xs c))
    go true e r = inl (eqb-true x c e, refl)
    go false e r = inr (eqb-false x c e, (first_asking xs c, r, refl))

keys_are : (keys cs ss : List ℕ) → KeysFor keys cs ss (keys_for keys cs ss)
unfolding KeysFor keys_for
keys_are keys cs [] = refl
keys_are keys cs (c ∷ ss) = (first_asking cs c, asks_is cs c, (keys_for keys cs ss, keys_are keys cs ss, refl))

lease_is : (ls : List Hold) (c : ℕ) → LeaseOn ls c (hold_on ls c)
unfolding LeaseOn hold_on
lease_is [] c = refl
lease_is (l ∷ ls) c = go (eqb l.cell c) refl (lease_is ls c)
  where
    go : (b : Bool) → eqb l.cell c ≡ b → LeaseOn ls c (hold_on ls c) → LeaseOn (l ∷ ls) c (if b then l else hold_on ls c)
    go true e r = inl (eqb-true l.cell c e, refl)
    go false e r = inr (eqb-false l.cell c e, r)

shared_is : (ls : List Hold) (cs : List ℕ) → Shared ls cs (shared_of ls cs)
unfolding Shared shared_of
shared_is ls [] = refl
shared_is ls (c ∷ cs) = (hold_on ls c, lease_is ls c, (shared_of ls cs, shared_is ls cs, refl))

rising_back : (low : ℕ) (xs : List ℕ) → law.Rising low xs → Rising low xs
rising_back low [] r = tt
rising_back low (x ∷ xs) r = (r.0, rising_back (x + 1) xs r.1)

sorted_so : (cs : List ℕ) → Sorted cs (sorted_of cs)
sorted_so cs =
    let s = sorted_is cs in
    (rising_back 0 (sorted_of cs) s.rises, λ c. ((λ a. among c cs (sym (s.members c) ∙ is_among_lem c (sorted_of cs) a)), (λ a. among c (sorted_of cs) (s.members c ∙ is_among_lem c cs a))))

alike : (s : Made (World × Says)) {v : World} {a : Answer} {c : Counts} {p : ℕ} {g : List ℕ} {es : List Event}
    → s.seen.0 ≡ v → s.seen.1.answer ≡ a → s.seen.1.counts ≡ c → s.seen.1.place ≡ p → s.seen.1.grants ≡ g → s.log ≡ es → s ≡ logged (v, says a c p g) es
alike s {v} {a} {c} {p} {g} e f i h j k =
    ap (λ (z : World). logged (z, s.seen.1) s.log) e
    ∙ (ap (λ (z : Answer). logged (v, says z s.seen.1.counts s.seen.1.place s.seen.1.grants) s.log) f
    ∙ (ap (λ (z : Counts). logged (v, says a z s.seen.1.place s.seen.1.grants) s.log) i
    ∙ (ap (λ (z : ℕ). logged (v, says a c z s.seen.1.grants) s.log) h ∙ (ap (λ (z : List ℕ). logged (v, says a c p z) s.log) j ∙ ap (logged (v, says a c p g)) k))))

module _ (w : World) (registry script : List ℕ) (place : ℕ) (held keys grants : List ℕ) where
  abbrev S : Made (World × Says)
  S = perform w (acquire_sorted registry script place held keys grants)

  by_sorted : Clear (rules w (acquire_sorted registry script place held keys grants)) → first_key (length keys / 2) 0 w.head registry keys ≡ Ok tt
      → BySorted perform w registry script place held keys grants (cells_asked w.head.buckets registry keys) S
  by_sorted k f =
      let cs = cells_asked w.head.buckets registry keys in
      let ss = cells_sorted w.head.buckets registry keys in
      let ks = sorted_keys w.head.buckets registry keys in
      let other : List ℕ = replicate (3 * length ss) 0 in
      let t = as_multilock w registry script place held keys grants other (k, f) (length-replicate {0} {A = ℕ} (3 * length ss) 0) in
      (ss, sorted_so cs, (ks, keys_are keys cs ss, go (perform w (acquire_locks registry script place held ks other)) t.1 (answer_in (perform w (acquire_locks registry script place held ks other))) refl))
    where
      go : (n : Made (World × Says)) → AsLocks w.head.buckets w.head.boot registry keys grants (perform w (acquire_sorted registry script place held keys grants)) n
          → (a : Answer) → answer_in n ≡ a
          → Told perform w registry script place held keys grants (cells_asked w.head.buckets registry keys) (cells_sorted w.head.buckets registry keys) n a S
      go n m AllGranted e =
          let cs = cells_asked w.head.buckets registry keys in (
            shared_of (holds_of (buffer_in n)) cs,
            subst (λ (ls : List Hold). Shared ls cs (shared_of (holds_of (buffer_in n)) cs)) (sym (holds_same (buffer_in n))) (shared_is (holds_of (buffer_in n)) cs),
            alike S m.world (m.answer ∙ ap (λ (x : Answer). asked_first x cs (cells_sorted w.head.buckets registry keys)) e) m.counts m.place (m.handed e ∙ sym (words_same w.head.boot (shared_of (holds_of (buffer_in n)) cs))) m.log,
          )
      go n m (RefusedAt r q) e =
          let cs = cells_asked w.head.buckets registry keys in
          let ss = cells_sorted w.head.buckets registry keys in (
            first_asking cs (get_or ss q 0),
            asks_is cs (get_or ss q 0),
            alike S m.world (m.answer ∙ ap (λ (x : Answer). asked_first x cs ss) e) m.counts m.place (m.kept (λ i. let j = sym e ∙ i in let z : ◌≡◌ {A = ℕ} 0 1 = cc in omega arith)) m.log,
          )
      go n m (Granted l) e =
          alike S m.world (m.answer ∙ ap (λ (x : Answer). asked_first x (cells_asked w.head.buckets registry keys) (cells_sorted w.head.buckets registry keys)) e) m.counts m.place (m.kept (λ i. let j = sym e ∙ i in let z : ◌≡◌ {A = ℕ} 0 1 = cc in omega arith)) m.log
      go n m (Refused r) e =
          alike S m.world (m.answer ∙ ap (λ (x : Answer). asked_first x (cells_asked w.head.buckets registry keys) (cells_sorted w.head.buckets registry keys)) e) m.counts m.place (m.kept (λ i. let j = sym e ∙ i in let z : ◌≡◌ {A = ℕ} 0 1 = cc in omega arith)) m.log
      go n m (Busy why) e =
          alike S m.world (m.answer ∙ ap (λ (x : Answer). asked_first x (cells_asked w.head.buckets registry keys) (cells_sorted w.head.buckets registry keys)) e) m.counts m.place (m.kept (λ i. let j = sym e ∙ i in let z : ◌≡◌ {A = ℕ} 0 1 = cc in omega arith)) m.log
      go n m Done e =
          alike S m.world (m.answer ∙ ap (λ (x : Answer). asked_first x (cells_asked w.head.buckets registry keys) (cells_sorted w.head.buckets registry keys)) e) m.counts m.place (m.kept (λ i. let j = sym e ∙ i in let z : ◌≡◌ {A = ℕ} 0 1 = cc in omega arith)) m.log
      go n m (Cell c) e =
          alike S m.world (m.answer ∙ ap (λ (x : Answer). asked_first x (cells_asked w.head.buckets registry keys) (cells_sorted w.head.buckets registry keys)) e) m.counts m.place (m.kept (λ i. let j = sym e ∙ i in let z : ◌≡◌ {A = ℕ} 0 1 = cc in omega arith)) m.log

  -- position by position: what is left decides, as the definition's own tests do
  first_so : (left p : ℕ) (x : Made (World × Says))
      → ((r : Refusal) (q : ℕ) → first_key left p w.head registry keys ≡ Err (r, q) → x ≡ logged (w, says (RefusedAt r q) (counted 0 0 0 0) place grants) [])
      → (first_key left p w.head registry keys ≡ Ok tt → BySorted perform w registry script place held keys grants (cells_asked_lem (length keys / 2) 0 w.head.buckets registry keys) x)
      → AnyOrder perform w registry script place held keys grants left p x
  unfolding AnyOrder first_key first
  first_so zero p x f g = g refl
  first_so (suc left) p x f g =
      go (leb w.head.headers (header_of_key registry keys p)) (leb w.head.buckets (bucket_at keys p)) refl refl (first_key left (p + 1) w.head registry keys) refl (first_so left (p + 1) x) f g
    where
      next_of : Bool → Bool → KeyCheck → KeyCheck
      next_of a b more =
          fault_at (if a then Err (BadHeader (header_of_key registry keys p)) else if b then Err (InvalidBucket (bucket_at keys p)) else (Ok tt)) p more

      go : (a b : Bool) → leb w.head.headers (header_of_key registry keys p) ≡ a → leb w.head.buckets (bucket_at keys p) ≡ b
          → (more : KeyCheck) → first_key left (p + 1) w.head registry keys ≡ more
          → (((r : Refusal) (q : ℕ) → first_key left (p + 1) w.head registry keys ≡ Err (r, q) → x ≡ logged (w, says (RefusedAt r q) (counted 0 0 0 0) place grants) [])
          → (first_key left (p + 1) w.head registry keys ≡ Ok tt → BySorted perform w registry script place held keys grants (cells_asked_lem (length keys / 2) 0 w.head.buckets registry keys) x)
          → AnyOrder perform w registry script place held keys grants left (p + 1) x)
          → ((r : Refusal) (q : ℕ) → next_of a b more ≡ Err (r, q) → x ≡ logged (w, says (RefusedAt r q) (counted 0 0 0 0) place grants) [])
          → (next_of a b more ≡ Ok tt → BySorted perform w registry script place held keys grants (cells_asked_lem (length keys / 2) 0 w.head.buckets registry keys) x)
          → AnyOrder perform w registry script place held keys grants (suc left) p x
      go true b e i more m r f g = inl (leb-true w.head.headers (header_of_key registry keys p) e, f (BadHeader (header_of_key registry keys p)) p refl)
      go false true e i more m r f g =
          inr ((λ l. let z = leb-false w.head.headers (header_of_key registry keys p) e in omega arith), inl (leb-true w.head.buckets (bucket_at keys p) i, f (InvalidBucket (bucket_at keys p)) p refl))
      go false false e i more m r f g =
          inr (
            (λ l. let z = leb-false w.head.headers (header_of_key registry keys p) e in omega arith),
            inr (
              (λ l. let z = leb-false w.head.buckets (bucket_at keys p) i in omega arith),
              r (λ y q j. f y q (sym m ∙ j)) (λ j. g (sym m ∙ j)),
            ),
          )

  pub sorted_call_is : Clear (rules w (acquire_sorted registry script place held keys grants)) → AnyOrder perform w registry script place held keys grants (length keys / 2) 0 S
  sorted_call_is k =
      first_so (length keys / 2) 0 S
      (λ r q e. made_so w (acquire_sorted registry script place held keys grants) k
      ∙ ap (λ (x : KeyCheck). judge_at x (unchanged_at w (acquire_sorted registry script place held keys grants)) (seen_as (as_asked w registry keys) (sorted_locks w registry script place held keys grants))) e)
      (λ e. subst (λ (cs : List ℕ). BySorted perform w registry script place held keys grants cs S) (sym (asked_same (length keys / 2) 0 w.head.buckets registry keys)) (by_sorted k e))
