-- `wave_write::put_digits` meets its contract.
use Rattle.std.proofs.Common.{◌≡◌, ◌-◌, ◌≤◌, [], ◌∷◌, ◌++◌, length, drop, get_or}
use Rattle.io.specs.Digits.{last_digits}
use Rattle.text.specs.Decimal.{decimal_of}
use Rattle.wave_write.proofs.put_digits.Given as goal

-- the digits that are to come, and those that stand there
abbrev pub invariant-loop-i : goal.invariant-loop-i
invariant-loop-i g l = (1 ≤ l.i) × (length l.text ≡ g.row.N) × (get_or l.text 0 0 ≡ 35) × (last_digits 10 (l.i - 1) l.rest ++ drop l.i l.text ≡ decimal_of l.fn.t ++ 10 ∷ [])
