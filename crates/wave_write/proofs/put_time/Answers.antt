-- `wave_write::put_time` meets its contract.
use Rattle.std.proofs.Common.{◌≡◌, arith}
use Rattle.text.specs.Decimal.{digit_count}
use Rattle.wave_write.specs.Laws.{five_digits, some_digits}
use Rattle.wave_write.proofs.put_time.Goals as goal

pub put_digits-requires-in_default : goal.put_digits-requires-in_default
put_digits-requires-in_default c =
    let t = c.args.t in
    let e : digit_count t ≡ 5 = omega (arith, five_digits t c.requires.0, some_digits t, c.digit_count.ensures) in
    (c.requires.0, omega (arith, e), omega (arith, e))
