-- `wave_write::put_var` meets its contract.
use Prim.Native.Nat.{◌+◌}
use mathlib.Core.List.{[], ◌∷◌, ◌++◌, append_assoc}
use native.Mathlib.Omega.{arith}
use Rattle.text.specs.Decimal.{decimal_of, length_decimal}
use Rattle.wave_rules.specs.Lines.{joined}
use Rattle.wave_rules.specs.Dump.{var_line}
use Rattle.print.specs.Laws.{put_join, put_place}
use Rattle.wave_write.proofs.put_var.Goals as goal

pub put_number-b-requires : goal.put_number-b-requires
put_number-b-requires c = omega (arith, put_place _ _ _ _ _ c.put-a.ensures, c.put-a.auto)

pub put-requires : goal.put-requires
put-requires c = omega (arith, put_place _ _ _ _ _ c.put-a.ensures, c.put-a.auto, put_place _ _ _ _ _ c.put_number-b.ensures, c.put_number-b.auto, length_decimal c.args.cell)

pub returns : goal.returns
unfolding joined var_line
returns c =
    let cell = c.args.cell in
    rw (append_assoc (decimal_of cell) (32 ∷ 36 ∷ 101 ∷ 110 ∷ 100 ∷ []) (10 ∷ []))
    (put_join _ _ _ _ _ _ (36 ∷ 118 ∷ 97 ∷ 114 ∷ 32 ∷ 119 ∷ 105 ∷ 114 ∷ 101 ∷ 32 ∷ 49 ∷ 32 ∷ (33 + cell) ∷ 32 ∷ 99 ∷ []) (decimal_of cell ++ (32 ∷ 36 ∷ 101 ∷ 110 ∷ 100 ∷ 10 ∷ [])) c.put-a.ensures
    (put_join _ _ _ _ _ _ (decimal_of cell) (32 ∷ 36 ∷ 101 ∷ 110 ∷ 100 ∷ 10 ∷ []) c.put_number-b.ensures c.put.ensures))
