-- `wave_read::read_header` meets its contract.
use Rattle.std.proofs.Common.{◌≡◌, ◌+◌, ◌-◌, ◌<◌, length, take, drop, Some, ◌∙◌, sym, refl, arith, rules}
use Rattle.text.specs.Text.{before}
use Rattle.wave_rules.specs.Dump.{no_bits}
use Rattle.wave_rules.specs.Reader.{next_of}
use Rattle.wave_rules.proofs.Stages.{reach_next}
use Rattle.wave_line.specs.Laws.{next_early, early_end}
use Rattle.wave_read.specs.Laws.{line_found, scan_end, scan_stop, scan_lost, headed_right, early_scan, early_turn}
use Rattle.wave_read.proofs.read_header.Goals.{In-Some, In-Some-next}
use Rattle.wave_read.proofs.read_header.Goals as goal

pub loop-at-init : goal.loop-at-init
loop-at-init c = (tt, tt, search rules, search rules, refl, refl)

pub returns-in_default : goal.returns-in_default
returns-in_default c =
    let l = c.loop-at in
    let a = c.args in
    scan_stop a.text.now l.at l.k l.stage no_bits c.loop-at-test.true (sym c.in_default.is ∙ c.line_end.ensures.value) ∙ l.invariant.4

-- the line ends before the text does
found : (c : In-Some) → (c.in-Some.end ≡ c.loop-at.at + before 10 (drop c.loop-at.at c.args.text.now)) × (c.in-Some.end < length c.args.text.now)
found c = line_found c.args.text.now c.loop-at.at c.in-Some.end (omega arith) (sym c.in-Some.is ∙ c.line_end.ensures.value)

-- and leads on
leads : (c : In-Some-next) → next_of c.loop-at.stage no_bits (take (c.in-Some.end - c.loop-at.at) (drop c.loop-at.at c.args.text.now)) ≡ Some c.in-Some-next.after
leads c = sym c.next.ensures ∙ c.in-Some-next.is

pub returns-in_default-next : goal.returns-in_default-next
returns-in_default-next c =
    let l = c.loop-at in
    let a = c.args in
    let f = found (goal.at.returns-in_default-next c).In-Some in
    scan_lost a.text.now l.at _ l.k l.stage no_bits f.0 f.1 (sym c.next.ensures ∙ c.in_default-next.is) ∙ l.invariant.4

pub returns-in-Waiting : goal.returns-in-Waiting
returns-in-Waiting c =
    let l = c.loop-at in
    let a = c.args in
    let f = found (goal.at.returns-in-Waiting c).In-Some in
    let n = leads (goal.at.returns-in-Waiting c).In-Some-next in
    headed_right a.text.now l.at _ l.k l.stage _ _ _ l.invariant.0 l.invariant.1 l.invariant.2 f.0 f.1 n c.in-Waiting.is l.invariant.4 l.invariant.5

pub loop-at-preserved : goal.loop-at-preserved
loop-at-preserved c =
    let l = c.loop-at in
    let a = c.args in
    let f = found (goal.at.loop-at-preserved c).In-Some in
    let n = leads (goal.at.loop-at-preserved c).In-Some-next in (
      reach_next l.stage no_bits _ _ n l.invariant.0,
      next_early l.stage no_bits _ l.invariant.1 _ n c.in_default-after.not-Waiting,
      omega (arith, l.invariant.2, f.0),
      omega (arith, f.1),
      early_scan a.text.now l.at _ l.k l.stage _ l.invariant.1 f.0 f.1 n ∙ l.invariant.4,
      early_turn a.text.now l.at _ l.stage _ l.invariant.1 f.0 f.1 n ∙ l.invariant.5,
    )

pub returns : goal.returns
returns c =
    let l = c.loop-at in
    let a = c.args in
    early_end l.stage l.k l.invariant.1 ∙ scan_end a.text.now l.at l.k l.stage no_bits (search rules) ∙ l.invariant.4
