use Rattle.report_names.specs.Table.{padded_of, trimmed}
use Rattle.text.specs.Text.{before}
use Rattle.model.specs.Names.{name_of}
use lib.ListN.{take}
use native.Mathlib.Omega.{arith}
use mathlib.Core.Path.{◌≡◌, ◌∙◌}
use Rattle.report_call.proofs.put_name.Goals as goal

pub returns : goal.returns
returns c =
    let n = c.args.number in
    let p : c.padded-padded.result ≡ padded_of (name_of n) = c.padded-padded.ensures.value in
    let e : c.end_of-end.result ≡ before 32 c.padded-padded.result = c.end_of-end.ensures.value ∙ omega arith in
    let t : take c.end_of-end.result c.padded-padded.result ≡ name_of n = rw (e, p) (trimmed n) in
    rw t at c.put.ensures
