-- `salvage::mend_bytes` meets its contract.
use native.Mathlib.Omega.{arith}
use mathlib.Core.Path.{refl, ◌∙◌}
use lib.ListN.{length}
use Rattle.salvage.specs.Laws.{bytes_all, bytes_go, bytes_stop, bytes_fit}
use Rattle.std.proofs.Common.{rules}
use Rattle.salvage.proofs.mend_bytes.Goals as goal

pub loop-i-init : goal.loop-i-init
loop-i-init c = let a = c.args in (search rules, search rules, search rules, bytes_all a.health.now a.place a.report.now a.at)

pub mend_byte-end-requires : goal.mend_byte-end-requires
mend_byte-end-requires c =
    let l = c.loop-i in
    let a = c.args in
    let p = c.requires in
    (search rules, refl, bytes_fit l.health l.i a.place l.report l.end _ _ a.at (length l.report) (search rules) l.invariant.3 (omega (arith, p.1, l.invariant.1)) _ refl)

pub loop-i-preserved : goal.loop-i-preserved
loop-i-preserved c =
    let l = c.loop-i in
    let a = c.args in
    (search rules, search rules, search rules, bytes_go l.health l.i _ a.place l.report l.end (search rules) refl _ c.mend_byte-end.ensures ∙ l.invariant.3)

pub returns : goal.returns
returns c =
    let l = c.loop-i in
    let a = c.args in
    bytes_stop l.health l.i a.place l.report l.end (search rules) ∙ l.invariant.3
