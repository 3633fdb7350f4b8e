-- `wave_read::read` meets its contract.
use Rattle.std.proofs.Common.{sym, ◌∙◌}
use Rattle.std.proofs.lemmas.Result.{err_from_is_err_and}
use Rattle.wave_rules.specs.Reader.{read_of}
use Rattle.wave_rules.specs.Calls.{read_into_of}
use Rattle.wave_read.specs.Laws.{handed_err, handed_ok, refused_at}
use Rattle.wave_read.proofs.read.Goals as goal

pub returns-in_err-head : goal.returns-in_err-head
returns-in_err-head c =
    let p = err_from_is_err_and c.from_residual.result c.from_residual.ensures.1 in
    let q = handed_err c.read_header.result c.map_err.result c.map_err.ensures.cases _ c.in_err-head.was in
    refused_at c.args.text.now c.args.out.now q.0 _ _ p.1 (p.2 ∙ q.2) (rw q.1 at c.read_header.ensures)

pub returns-in_err-n : goal.returns-in_err-n
returns-in_err-n c =
    let o = rw (handed_ok c.read_header.result c.map_err.result c.map_err.ensures.cases _ c.in_ok-head.was) at c.read_header.ensures in
    let p = err_from_is_err_and c.from_residual-in_err-n.result c.from_residual-in_err-n.ensures.1 in
    let q = handed_err c.scan.result c.map_err-2.result c.map_err-2.ensures.cases _ c.in_err-n.was in
    refused_at c.args.text.now c.args.out.now q.0 _ _ p.1 (p.2 ∙ q.2) (sym q.1 ∙ c.scan.ensures.value ∙ o.verdict)

pub returns : goal.returns
unfolding read_into_of read_of
returns c =
    let o = rw (handed_ok c.read_header.result c.map_err.result c.map_err.ensures.cases _ c.in_ok-head.was) at c.read_header.ensures in
    let s = handed_ok c.scan.result c.map_err-2.result c.map_err-2.ensures.cases _ c.in_ok-n.was in
    rw (← o.verdict, ← c.scan.ensures.value, s) c.give.ensures
