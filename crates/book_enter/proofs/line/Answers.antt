-- `book_enter::line` meets its contract.
use Rattle.std.proofs.Common.{◌≡◌, ◌/◌, ◌%◌, arith}
use Rattle.book_rules.specs.Layout.{line_of}
use Rattle.book_enter.proofs.line.Goals as goal

pub returns : goal.returns
unfolding line_of
returns c =
    let high : c.args.place / 256 % 256 ≡ c.args.place / 256 = omega (arith, c.requires) in
    let top : c.args.version / 16777216 % 256 ≡ c.args.version / 16777216 = omega (arith, c.ranges.version.fits) in
    rw (c.to_le_bytes.ensures, c.to_le_bytes-2.ensures, high, top)
