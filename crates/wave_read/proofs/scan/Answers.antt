-- `wave_read::scan` meets its contract.
use Rattle.std.proofs.Common.{◌≡◌, ◌+◌, refl, sym, ◌∙◌, arith, rules}
use Rattle.wave_rules.specs.declared.Stage.TheVariants.{Waiting}
use Rattle.wave_rules.specs.Dump.{no_bits, flip_of}
use Rattle.wave_line.specs.Fronts.{change_told}
use Rattle.wave_read.specs.Laws.{scan_end, wait_past, wait_far, wait_right, change_wrong, change_right}
use Rattle.wave_read.proofs.scan.Goals.{then-time-last-via-then-time-last, then-time-last-via-else-time-last+then-time-gt32768}
use Rattle.wave_read.proofs.scan.Goals as goal

pub loop-at-init : goal.loop-at-init
unfolding no_bits
loop-at-init c = (c.requires.2, c.requires.1, refl)

pub returns-in_default-clause-value : goal.returns-in_default-clause-value
returns-in_default-clause-value c =
    let l = c.loop-at in
    let a = c.args in
    wait_past a.text.now l.at a.n l.last l.bits l.k 0 c.loop-at-test.true c.in_default.ensures (omega arith) ∙ l.invariant.2

pub returns-then-time-last-clause-value : goal.returns-then-time-last-clause-value
returns-then-time-last-clause-value c =
    let l = c.loop-at in
    let a = c.args in
    let s = c.in-Some.ensures in
    elim c.then-time-last.branch [
      | then-time-last-via-then-time-last w ↦ wait_past a.text.now l.at a.n l.last l.bits l.k _ c.loop-at-test.true s.told w.if-time-last.true ∙ l.invariant.2
      | then-time-last-via-else-time-last+then-time-gt32768 w ↦ wait_far a.text.now l.at a.n l.last l.bits l.k _ c.loop-at-test.true s.told w.if-time-gt32768.true ∙ l.invariant.2
    ]

pub returns-then-not-is_change_at-clause-value : goal.returns-then-not-is_change_at-clause-value
returns-then-not-is_change_at-clause-value c =
    let l = c.loop-at in
    let a = c.args in
    let s = c.in-Some.ensures in
    let t = c.in-Some.time in
    change_wrong a.text.now t.behind a.n l.last t.value l.bits (l.k + 1) (sym c.is_change_at.ensures ∙ c.if-not-is_change_at.true) ∙ wait_right a.text.now l.at a.n l.last l.bits t.value s.told c.if-time-last.false c.if-time-gt32768.false l.k t.behind s.next.0 ∙ l.invariant.2

pub bounds-text-i : goal.bounds-text-i
bounds-text-i c =
    let l = c.loop-at in
    let a = c.args in
    let d = change_told a.text.now c.in-Some.time.behind a.n l.bits (sym c.is_change_at.ensures ∙ c.if-not-is_change_at.false) in
    omega (arith, d.1)

pub overflow_sub-text : goal.overflow_sub-text
overflow_sub-text c =
    let l = c.loop-at in
    let a = c.args in
    let d = change_told a.text.now c.in-Some.time.behind a.n l.bits (sym c.is_change_at.ensures ∙ c.if-not-is_change_at.false) in
    d.2

pub bounds-bits-cell : goal.bounds-bits-cell
bounds-bits-cell c =
    let l = c.loop-at in
    let a = c.args in
    let d = change_told a.text.now c.in-Some.time.behind a.n l.bits (sym c.is_change_at.ensures ∙ c.if-not-is_change_at.false) in
    omega (arith, d.3, c.from-cell.ensures, c.requires.0)

pub bounds-bits-cell-in-loop-at : goal.bounds-bits-cell-in-loop-at
bounds-bits-cell-in-loop-at c =
    let l = c.loop-at in
    let a = c.args in
    let d = change_told a.text.now c.in-Some.time.behind a.n l.bits (sym c.is_change_at.ensures ∙ c.if-not-is_change_at.false) in
    omega (arith, d.3, c.from-cell.ensures, c.requires.0)

pub loop-at-preserved : goal.loop-at-preserved
unfolding flip_of
loop-at-preserved c =
    let l = c.loop-at in
    let a = c.args in
    let t = c.in-Some.time in
    let d = change_told a.text.now c.in-Some.time.behind a.n l.bits (sym c.is_change_at.ensures ∙ c.if-not-is_change_at.false) in
    let s = c.in-Some.ensures in
    let two : l.k + 2 ≡ l.k + 1 + 1 = omega arith in (
      omega (arith, d.1, s.next.0, l.invariant.0),
      d.1,
      rw (two, c.turned.ensures, c.from-cell.ensures)
          (change_right a.text.now t.behind a.n l.last t.value l.bits (sym c.is_change_at.ensures ∙ c.if-not-is_change_at.false) _ refl (l.k + 1) ∙ wait_right a.text.now l.at a.n l.last l.bits t.value s.told c.if-time-last.false c.if-time-gt32768.false l.k t.behind s.next.0 ∙ l.invariant.2),
    )

pub returns-clause-value : goal.returns-clause-value
returns-clause-value c =
    let l = c.loop-at in
    let a = c.args in
    scan_end a.text.now l.at l.k (Waiting a.n l.last) l.bits (search rules) ∙ l.invariant.2
