use Rattle.report_call.specs.Laws.{line_good, added_bounded, nothing_bounded, scan_turn, scan_bad, scan_over, scan_end}
use Rattle.report_call.specs.Scan.{scan_of}
use native.Mathlib.Omega.{arith}
use mathlib.Core.Path.{◌≡◌, refl, ◌∙◌}
use Prim.Native.Nat.{◌+◌, ◌<◌, ◌-◌}
use Rattle.report_call.proofs.scan.Goals as goal

pub loop-number-init : goal.loop-number-init
unfolding scan_of
loop-number-init c = rw c.none-sums.ensures (nothing_bounded, refl, omega arith, refl)

pub returns-then-input-at : goal.returns-then-input-at
returns-then-input-at c = let l = c.loop-number in scan_end c.args.input.now (1001 - l.number) l.at l.sums c.if-input-at.true ∙ l.invariant.3

pub returns-in_default : goal.returns-in_default
returns-in_default c =
    let l = c.loop-number in
    let n : l.number ≡ l.sums.trials + 1 = omega arith in
    rw n (scan_bad c.args.input.now l.number l.at l.sums (omega arith) c.if-input-at.false c.in_default.ensures ∙ l.invariant.3)

pub add-requires : goal.add-requires
add-requires c =
    let l = c.loop-number in
    let good = line_good c.args.input.now l.at c.in-Some.line c.in-Some.ensures in
    (l.invariant.0, omega arith, good.small)

pub loop-number-preserved : goal.loop-number-preserved
loop-number-preserved c =
    let l = c.loop-number in
    let good = line_good c.args.input.now l.at c.in-Some.line c.in-Some.ensures in
    let few : l.sums.trials < 1000 = omega arith in
    rw c.add.ensures (
      added_bounded l.sums c.in-Some.line.trial l.invariant.0 few good.small,
      omega arith,
      good.within,
      scan_turn c.args.input.now l.number l.at l.sums c.in-Some.line (omega arith) c.if-input-at.false c.in-Some.ensures ∙ l.invariant.3,
    )

pub returns-then-at-input : goal.returns-then-at-input
returns-then-at-input c =
    let l = c.loop-number in
    let n : 1001 ≡ l.sums.trials + 1 = omega arith in
    rw n (scan_over c.args.input.now l.number l.at l.sums c.loop-number-test.false c.if-at-input.true ∙ l.invariant.3)

pub returns : goal.returns
returns c = let l = c.loop-number in scan_end c.args.input.now (1001 - l.number) l.at l.sums c.if-at-input.false ∙ l.invariant.3
