-- `book_enter::put_bytes` meets its contract.
use mathlib.Core.Path.{sym, ◌∙◌}
use Rattle.book_enter.specs.Stores.{stores_start, stores_more, stores_end}
use Rattle.std.proofs.Common.{rules, arith}
use Rattle.book_enter.proofs.put_bytes.Goals as goal

pub loop-i-init : goal.loop-i-init
loop-i-init c = (stores_start c.args.book.now c.args.bytes.now c.args.at, search rules)

pub loop-i-preserved : goal.loop-i-preserved
loop-i-preserved c =
    let l = c.loop-i in
    let a = c.args in
    (sym (stores_more l.book a.bytes.now a.at l.i (omega arith)) ∙ l.invariant.0, search rules)

pub returns : goal.returns
returns c =
    let l = c.loop-i in
    let a = c.args in
    sym (stores_end l.book a.bytes.now a.at l.i (omega arith)) ∙ l.invariant.0
