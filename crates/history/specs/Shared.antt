-- The sorted call, key by key: the place of a key's cell in the sorted list, and the lease that the key is handed back. Document 02, L4: "hand back
-- one lease per key in the caller's order, doubled keys sharing one."
-- ---- a strictly rising list, by its places
use Rattle.std.specs.Prelude.{ℕ, zero, suc, ◌+◌, ◌*◌, ◌≤◌, ◌<◌, ◌≡◌, refl, List, [], ◌∷◌, Bool, true, false, eqb, length, get_or, if◌then◌else◌}
use Rattle.std.proofs.Common.{sym, ap, ◌∙◌, subst, arith}
use Rattle.std.proofs.Math.Decide.{dec_lt}
use Rattle.std.proofs.Math.Seq.{take-length}
use Rattle.model.specs.Log.{Made}
use Rattle.model.specs.Arena.{holds_of}
use Rattle.model.specs.Lock.{no_hold, hold_at, binding_at, bucket_at}
use Rattle.model.specs.Checks.{count_in}
use Rattle.model.specs.Calls.{given, starting}
use Rattle.model.specs.Sorted.{cell_of_key, cells_from, cells_asked, cells_sorted, first_asking, keys_for, sorted_keys, first_key, hold_on, shared_of, asked_first, handed_back}
use Rattle.types.specs.declared.Answer.{Answer}
use Rattle.types.specs.declared.Answer.TheVariants.{Done, Cell, Granted, AllGranted, Busy, Refused, RefusedAt}
use Rattle.types.specs.declared.Hold.{Hold}
use Rattle.laws.specs.Checks.{lease_in}
use Rattle.laws.specs.Lists.{length_words, words_back}
use Rattle.laws.specs.Sorting.{Rising, is_among, sorted_is, first_asking_lem, stands_at, length_cells, length_keys, keys_among}
use Rattle.history.specs.World.{World}
use Rattle.history.specs.Items.{Says, acquire_locks, acquire_sorted, in_order, any_order, key_cell, perform}
use Rattle.history.specs.Statements.{HandsOver, BufferIs}
use Rattle.history.specs.Tests.{In, in_take, in_index, words_boot}
use Rattle.history.specs.Judged.{judged_at, sorted_locks, performed}

-- ---- the lease of a cell

abbrev pub cells_in : List Hold → List ℕ
cells_in [] = []
cells_in (l ∷ ls) = l.cell ∷ cells_in ls

-- ---- the buffer of a granted multi-lock, in either order

abbrev pub Whole : World → (registry keys : List ℕ) → Made (World × Says) → Type 0
Whole w registry keys m =
    m.seen.1.answer ≡ AllGranted
    → (length m.seen.1.grants ≡ 3 * count_in keys)
    × ((p : ℕ) → p < count_in keys → (hold_at (holds_of m.seen.1.grants) p).cell ≡ key_cell w.head.buckets registry keys p)
    × ((p : ℕ) → p < count_in keys → (lease_in m.seen.1.grants p).boot ≡ w.head.boot)
