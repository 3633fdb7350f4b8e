-- A call in quiet: one attempt and three boundaries for each distinct cell.
use Rattle.std.specs.Prelude.{ℕ, zero, suc, ◌+◌, ◌*◌, ◌<◌, ◌≡◌, refl, List, length, replicate}
use Rattle.std.proofs.Common.{sym, ap, ◌∙◌, subst, arith}
use Rattle.std.proofs.lemmas.List.{length-replicate}
use Rattle.model.specs.Arena.{holds_of, words_of}
use Rattle.model.specs.Lock.{binding_at, bucket_at}
use Rattle.model.specs.Checks.{count_in}
use Rattle.model.specs.Calls.{counts_of}
use Rattle.model.specs.Sorted.{first_asking, shared_of, asked_first}
use Rattle.types.specs.declared.Answer.{Answer}
use Rattle.types.specs.declared.Answer.TheVariants.{AllGranted}
use Rattle.types.specs.declared.Counts.{Counts}
use Rattle.types.specs.declared.Hold.{Hold}
use Rattle.laws.specs.Lists.{words_back}
use Rattle.history.specs.World.{World, now}
use Rattle.history.specs.Items.{Says, says, acquire_locks, acquire_sorted, key_cell, perform}
use Rattle.history.proofs.Shared.{asked_cells, sorted_cells, chosen_keys, sorted_rises, rising_place, first_place, first_place_at, chosen_count, chosen_cell, chosen_binding, chosen_bucket}
use Rattle.history_exact.specs.Statements.{IsFree, Unwaited, Names, leases_from, takes_of}
use Rattle.history_exact.specs.Theorems.{locks_quiet}
use Rattle.sorted_theory.specs.Statements.{sorted_cell, SortedQuiet}
use Rattle.sorted_theory.specs.Keys.{all_inside}
use Rattle.sorted_theory.specs.Runs.{as_multilock}

-- leases on the same cells
same_from : (f g : ℕ → ℕ) (left p s : ℕ) → ((i : ℕ) → i < p + left → f i ≡ g i) → leases_from f left p s ≡ leases_from g left p s
unfolding leases_from
same_from f g zero p s e = refl
same_from f g (suc left) p s e =
    let a : f p ≡ g p = e p (omega arith) in
    let b : leases_from f left (p + 1) (s + 1) ≡ leases_from g left (p + 1) (s + 1) = same_from f g left (p + 1) (s + 1) (λ i l. e i (omega arith)) in
    rw (a, b)

module _ (w : World) (registry keys : List ℕ)
    (ready : (p : ℕ) → p < count_in keys → Names w registry (binding_at keys p) (bucket_at keys p) × Unwaited w (key_cell w.head.buckets registry keys p) × IsFree w (key_cell w.head.buckets registry keys p)) where
  abbrev b : ℕ
  b = w.head.buckets

  abbrev sorted : List ℕ
  sorted = sorted_cells b registry keys

  abbrev chosen : List ℕ
  chosen = chosen_keys b registry keys

  chosen_ready : (i : ℕ) → i < length sorted → Names w registry (binding_at chosen i) (bucket_at chosen i) × Unwaited w (key_cell b registry chosen i) × IsFree w (key_cell b registry chosen i)
  chosen_ready i l =
      let f = first_place_at b registry keys i l in
      let a = ready (first_place b registry keys i) f.0 in
      let e = f.1 ∙ sym (chosen_cell b registry keys i l) in
      (rw (chosen_binding b registry keys i l, chosen_bucket b registry keys i l) a.0, subst (Unwaited w) e a.1, subst (IsFree w) e a.2)

  chosen_apart : (i j : ℕ) → i < length sorted → j < length sorted → key_cell b registry chosen i ≡ key_cell b registry chosen j → i ≡ j
  chosen_apart i j k l e =
      sym (rising_place sorted (sorted_rises b registry keys) i k) ∙ ap (first_asking sorted) (sym (chosen_cell b registry keys i k) ∙ e ∙ chosen_cell b registry keys j l)
      ∙ rising_place sorted (sorted_rises b registry keys) j l

-- a world and what was said, by their parts
whole : (m : World × Says) (v : World) (a : Answer) (c : Counts) (p : ℕ) (g : List ℕ) → m.0 ≡ v → m.1.answer ≡ a → m.1.counts ≡ c → m.1.place ≡ p → m.1.grants ≡ g → m ≡ (v, says a c p g)
whole m v a c p g e f h i j = rw (← e, ← f, ← h, ← i, ← j)

pub sorted_quiet : SortedQuiet perform
sorted_quiet w registry script place held keys grants fine end ready few =
    let b = w.head.buckets in
    let s = w.head.next in
    let sorted = sorted_cells b registry keys in
    let asked = asked_cells b registry keys in
    let n = length sorted in
    let chosen = chosen_keys b registry keys in
    let other : List ℕ = replicate (3 * n) 0 in
    let k = acquire_locks registry script place held chosen other in
    let cell = key_cell b registry chosen in
    let leases = leases_from (sorted_cell b registry keys) n 0 s in
    let inside = all_inside w.head registry keys (λ q l. let a = (ready q l).0 in (a.0, a.2)) in
    let x = as_multilock w registry script place held keys grants other (fine, inside) (length-replicate {A = ℕ} (3 * n) 0) in
    let y = x.1 in
    let count = chosen_count b registry keys in
    let q = locks_quiet w registry script place held chosen other x.0 end (λ p l. chosen_ready w registry keys ready p (omega (arith, l, count)))
    (λ p q i j e. chosen_apart w registry keys ready p q (omega (arith, i, count)) (omega (arith, j, count)) e) (omega (arith, few, count)) in
    let by_count : (perform w k).seen ≡ (now w (takes_of (leases_from cell n 0 s)), says AllGranted (counts_of n (3 * n) 0 0) place (words_of w.head.boot (leases_from cell n 0 s)))
    = subst (λ (j : ℕ). (perform w k).seen ≡ (now w (takes_of (leases_from cell j 0 s)), says AllGranted (counts_of j (3 * j) 0 0) place (words_of w.head.boot (leases_from cell j 0 s)))) count q in
    let seen : (perform w k).seen ≡ (now w (takes_of leases), says AllGranted (counts_of n (3 * n) 0 0) place (words_of w.head.boot leases))
    = subst (λ (ls : List Hold). (perform w k).seen ≡ (now w (takes_of ls), says AllGranted (counts_of n (3 * n) 0 0) place (words_of w.head.boot ls)))
    (same_from cell (sorted_cell b registry keys) n 0 s (λ i l. chosen_cell b registry keys i (omega arith))) by_count in
    let buffer = ap (λ (m : World × Says). words_of w.head.boot (shared_of (holds_of m.1.grants) asked)) seen ∙ ap (λ (ls : List Hold). words_of w.head.boot (shared_of ls asked)) (words_back w.head.boot leases) in
    whole (perform w (acquire_sorted registry script place held keys grants)).seen _ _ _ _ _ (y.world ∙ ap (λ (m : World × Says). m.0) seen)
    (y.answer ∙ ap (λ (m : World × Says). asked_first m.1.answer asked sorted) seen) (y.counts ∙ ap (λ (m : World × Says). m.1.counts) seen) (y.place ∙ ap (λ (m : World × Says). m.1.place) seen)
    (y.handed (ap (λ (m : World × Says). m.1.answer) seen) ∙ buffer)
