-- What multi-lock promises of health, of the call: by the place of a key's cell in the sorted list.
use Rattle.std.specs.Prelude.{ℕ, ◌+◌, ◌*◌, ◌≤◌, ◌<◌, ◌≡◌, List, ◌++◌, length, get_or, replicate}
use Rattle.std.proofs.Common.{sym, ap, ◌∙◌, subst, arith}
use Rattle.std.proofs.Math.Decide.{dec_lt}
use Rattle.std.proofs.lemmas.List.{length-replicate}
use Rattle.model.specs.Log.{Event}
use Rattle.model.specs.Arena.{holds_of}
use Rattle.model.specs.Lock.{hold_at}
use Rattle.model.specs.Checks.{count_in}
use Rattle.model.specs.Sorted.{shared_of}
use Rattle.types.specs.declared.Hold.{Hold}
use Rattle.history.specs.World.{World, Healthy, now}
use Rattle.history.specs.Items.{acquire_locks, acquire_sorted, in_order, key_cell, perform}
use Rattle.history.specs.Statements.{answer_in, buffer_in, world_in}
use Rattle.history.specs.Answers.{GrantPoint}
use Rattle.history.proofs.Calls.{words_leases}
use Rattle.history.proofs.Healthy.{locks_grant_healthy}
use Rattle.history.proofs.Shared.{asked_cells, sorted_cells, chosen_keys, sorted_rises, rising_at, sorted_place, sorted_place_at, first_place, first_place_at, chosen_count, chosen_cell, handed_back_lem, all_inner, buffers_name}
use Rattle.laws.specs.Lists.{holds_few, words_back}
use Rattle.sorted_theory.specs.Statements.{SortedHealthy}
use Rattle.sorted_theory.specs.Runs.{goes, granted_beyond, as_multilock}

-- the highest cell is the last of the sorted list
highest_last : (b : ℕ) (registry keys : List ℕ) (p : ℕ) → p < count_in keys → ((q : ℕ) → q < count_in keys → key_cell b registry keys q ≤ key_cell b registry keys p)
    → sorted_place b registry keys p + 1 ≡ length (sorted_cells b registry keys)
highest_last b registry keys p l high = go (dec_lt (i + 1) (length (sorted_cells b registry keys)))
  where
    i : ℕ
    i = sorted_place b registry keys p

    at : (i < length (sorted_cells b registry keys)) × (get_or (sorted_cells b registry keys) i 0 ≡ key_cell b registry keys p)
    at = sorted_place_at b registry keys p l

    go : Dec (i + 1 < length (sorted_cells b registry keys)) → i + 1 ≡ length (sorted_cells b registry keys)
    go (yes k) =
        let f = first_place_at b registry keys (i + 1) k in
        absurd (omega (arith, rising_at 0 (sorted_cells b registry keys) (sorted_rises b registry keys) i (i + 1) (omega arith) k, at.1, f.1, high (first_place b registry keys (i + 1)) f.0))
    go (no k) = omega (arith, k, at.0)

pub sorted_healthy : SortedHealthy perform
sorted_healthy w registry script place held keys grants p a l =
    let b = w.head.buckets in
    let asked = asked_cells b registry keys in
    let sorted = sorted_cells b registry keys in
    let chosen = chosen_keys b registry keys in
    let other : List ℕ = replicate (3 * length sorted) 0 in
    let k = acquire_locks registry script place held chosen other in
    let m = perform w (acquire_sorted registry script place held keys grants) in
    let n = perform w k in
    let i = sorted_place b registry keys p in
    let count = chosen_count b registry keys in
    let x = as_multilock w registry script place held keys grants other (granted_beyond w registry script place held keys grants (goes w registry script place held keys grants) a) (length-replicate {A = ℕ} (3 * length sorted) 0) in
    let y = x.1 in
    let all = all_inner asked sorted (answer_in n) (sym y.answer ∙ a) in
    let full = buffers_name w k registry chosen (in_order registry script place held chosen other) all in
    let ls = holds_of (buffer_in n) in
    let back = handed_back_lem b registry keys ls (omega (arith, full.0, count, words_leases (buffer_in n), holds_few (buffer_in n)))
    (λ j d. full.1 j (omega (arith, d, count)) ∙ chosen_cell b registry keys j d) in
    let same : hold_at ls i ≡ hold_at (holds_of (buffer_in m)) p
    = sym (ap (λ (ws : List ℕ). hold_at (holds_of ws) p) (y.handed all) ∙ ap (λ (ks : List Hold). hold_at ks p) (words_back w.head.boot (shared_of ls asked)) ∙ back.each p l) in
    let at = sorted_place_at b registry keys p l in
    let h = locks_grant_healthy w registry script place held chosen other i all (omega (arith, at.0, count)) in
    let g = h.0 in (
      subst (λ (z : Hold). (before after : List Event) × (m.log ≡ before ++ after) × GrantPoint z before after × Healthy (now w before) z.cell) same (g.0, g.1, y.log ∙ g.2, g.3, g.4),
      λ high.
          subst (λ (v : World). Healthy v (hold_at (holds_of (buffer_in m)) p).cell) (sym y.world)
          (subst (λ (z : Hold). Healthy (world_in n) z.cell) same (h.1 (omega (arith, highest_last b registry keys p l high, count)))),
    )
