-- `sorted::back::share` meets its contract.
use Prim.Native.Nat.{◌≤◌, ◌*◌}
use mathlib.Core.Path.{◌≡◌}
use lib.ListN.{length, take}
use Rattle.model.specs.Sorted.{shared_of}
use Rattle.model.specs.Arena.{holds_of, words_of}
use Rattle.sorted.proofs.back.share.Given as goal

abbrev pub invariant-loop-i : goal.invariant-loop-i
invariant-loop-i l =
    (l.i ≤ length l.asked) × ((length l.grants ≡ length l.initial.grants) × (take (3 * l.i) l.grants ≡ words_of l.boot (shared_of (holds_of l.leases) (take l.i l.asked))))
