-- `multilock::free::take_free` meets its contract.
use Prim.Native.Nat.{◌+◌}
use mathlib.Core.Path.{◌≡◌}
use Rattle.multilock.specs.Free.{Freed}
use Rattle.multilock.proofs.free.take_free.Given as goal

abbrev pub invariant-loop-p : goal.invariant-loop-p
invariant-loop-p l =
    Freed l.scope l.next l.n l.registry l.keys l.initial.table l.health l.p l.taken l.table × (l.serial ≡ l.next + l.p)
