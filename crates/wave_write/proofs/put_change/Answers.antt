-- `wave_write::put_change` meets its contract.
use mathlib.Core.List.{[], ◌∷◌}
use native.Mathlib.Omega.{arith}
use Rattle.wave_rules.specs.Lines.{joined}
use Rattle.wave_rules.specs.Dump.{time_line, bit_line}
use Rattle.print.specs.Laws.{put_join, put_place}
use Rattle.wave_write.specs.Laws.{joined_line, length_line, length_time}
use Rattle.wave_write.proofs.put_change.Goals as goal

pub put_bit-requires : goal.put_bit-requires
unfolding joined
put_bit-requires c =
    let t = c.args.t in
    omega (arith, put_place _ _ _ _ _ c.put_time-a.ensures, c.put_time-a.auto, length_line (time_line t) [], length_time t)

pub returns : goal.returns
returns c =
    let a = c.args in
    rw (joined_line (time_line a.t) (bit_line a.bit a.cell ∷ []))
    (put_join _ _ _ _ _ _ (joined (time_line a.t ∷ [])) (joined (bit_line a.bit a.cell ∷ [])) c.put_time-a.ensures c.put_bit.ensures)
