-- `multilock::keys::grant` meets its contract.
use Prim.Native.Nat.{◌≤◌, ◌*◌}
use mathlib.Core.Path.{◌≡◌}
use mathlib.Core.List.{◌++◌}
use lib.ListN.{drop, length}
use Rattle.model.specs.Arena.{words_of}
use Rattle.foreign.specs.Model.{pairs_of}
use Rattle.multilock.proofs.keys.grant.Given as goal

abbrev pub invariant-loop-i : goal.invariant-loop-i
invariant-loop-i l =
    (l.i ≤ l.n) × ((l.grants ≡ words_of l.boot (pairs_of l.i 0 l.taken) ++ drop (3 * l.i) l.initial.grants) × (length l.grants ≡ length l.initial.grants))
