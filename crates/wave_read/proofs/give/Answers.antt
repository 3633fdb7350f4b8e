-- `wave_read::give` meets its contract.
use mathlib.Core.Path.{ap}
use native.Mathlib.Omega.{arith}
use lib.ListN.{length}
use Rattle.wave_rules.specs.Lines.{split_of}
use Rattle.wave_rules.specs.Dump.{no_bits}
use Rattle.wave_rules.proofs.Stages.{words_count}
use Rattle.wave_read.specs.Laws.{give_none, give_some}
use Rattle.wave_read.proofs.give.Goals as goal

pub returns-then-out-last : goal.returns-then-out-last
returns-then-out-last c = let a = c.args in give_none a.text.now a.out.now a.n a.last c.requires.fine c.if-out-last.true

pub fill-requires : goal.fill-requires
fill-requires c =
    let a = c.args in
    let p = c.requires in
    (p.few, p.within, p.right, omega (arith, ap length p.words, words_count (split_of a.text.now) a.n a.last no_bits p.fine, c.if-out-last.false))

pub returns : goal.returns
returns c =
    let a = c.args in
    let p = c.requires in
    give_some a.text.now a.out.now _ a.n a.last p.fine c.if-out-last.false (rw p.words at c.fill.ensures)
