-- `wave_read::line_end` meets its contract.
use Rattle.std.proofs.Common.{◌≡◌, ◌+◌, ◌-◌, ◌≤◌, drop, take, arith, length-drop, length-take-le}
use Rattle.text.specs.Text.{before}
use Rattle.wave_read.specs.Laws.{line_some, line_none}
use Rattle.wave_read.proofs.line_end.Goals.{After-end_of-n}
use Rattle.wave_read.proofs.line_end.Goals as goal

-- what was looked through
front : (c : After-end_of-n) → c.end_of-n.result ≡ before 10 (take c.min-m.result (drop c.args.at c.args.text.now))
front c =
    let m : c.args.at + c.min-m.result - c.args.at ≡ c.min-m.result = omega arith in
    omega (arith, rw m at c.end_of-n.ensures.value)

pub returns-then-n-m-clause-value : goal.returns-then-n-m-clause-value
returns-then-n-m-clause-value c =
    let a = c.args in
    line_some a.text.now a.at c.min-m.result _ (front (goal.at.returns-then-n-m-clause-value c).After-end_of-n) (omega (arith, c.min-m.ensures)) (omega (arith, c.min-m.ensures, length-drop a.at a.text.now)) c.if-n-m.true

pub returns-else-n-m-clause-value : goal.returns-else-n-m-clause-value
returns-else-n-m-clause-value c =
    let a = c.args in
    let e = c.end_of-n.ensures in
    let few : c.end_of-n.result ≤ c.min-m.result = omega (arith, e.lower_bound, length-take-le c.min-m.result (drop a.at a.text.now) (omega (arith, c.min-m.ensures, length-drop a.at a.text.now))) in
    line_none a.text.now a.at c.min-m.result _ (front (goal.at.returns-else-n-m-clause-value c).After-end_of-n) (λ h. omega (arith, c.min-m.ensures, length-drop a.at a.text.now)) (omega (arith, c.if-n-m.false))
