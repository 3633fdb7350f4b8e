use mathlib.Core.Path.{◌≡◌}
use lib.ListN.{get_or}
use native.Mathlib.Omega.{arith}
use Rattle.text.specs.Decimal.{digit_count_most}
use Rattle.print.specs.Print.{piece_of}
use borrow.Author.Tests.{eq-eqb, ne_eqb}
use Rattle.std.proofs.lemmas.Option.{gets}
use Rattle.std.proofs.Common.{rules}
use Rattle.print.proofs.put_piece.Goals as goal

pub put_number-requires : goal.put_number-requires
put_number-requires c = omega (arith, digit_count_most c.unwrap_or.result)

pub returns-then-byte-eq35 : goal.returns-then-byte-eq35
unfolding piece_of
returns-then-byte-eq35 c =
    let n : c.unwrap_or.result ≡ get_or c.args.numbers.now c.args.k 0 = search (rules, gets) in
    rw (eq-eqb _ _ c.if-byte-eq35.true, ← n, ← c.put_number.ensures)

pub returns : goal.returns
unfolding piece_of
returns c = rw (ne_eqb _ _ c.if-byte-eq35.false, ← c.put.ensures)
