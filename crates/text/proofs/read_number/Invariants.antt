-- `text::read_number` meets its contract.
use Prim.Native.Nat.{◌≤◌, ◌+◌}
use mathlib.Core.Path.{◌≡◌}
use lib.ListN.{drop}
use Rattle.text.specs.Text.{value_from, digits_in}
use Rattle.text.proofs.read_number.Given as goal

abbrev pub invariant-loop-digits : goal.invariant-loop-digits
invariant-loop-digits l = (l.value ≤ 4294967295) × (value_from l.value (drop l.digits l.rest) ≡ value_from 0 l.rest) × (l.digits + digits_in (drop l.digits l.rest) ≡ digits_in l.rest)
