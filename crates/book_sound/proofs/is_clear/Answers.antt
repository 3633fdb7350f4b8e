-- `book_sound::is_clear` meets its contract.
use Rattle.std.proofs.Common.{sym, ◌∙◌, eq-eqb, ne_eqb}
use Rattle.choice.specs.Pick.{false_not}
use Rattle.book_sound.specs.Scan.{is_clear}
use Rattle.book_sound.proofs.is_clear.Goals as goal
use Rattle.book_sound.proofs.is_clear.Goals.{then-marks-c-eq0, else-marks-c-eq0}

pub returns-then-marks-c-eq0-2 : goal.returns-then-marks-c-eq0-2
unfolding is_clear
returns-then-marks-c-eq0-2 c = elim c.if-marks-c-eq0.branch [
  | then-marks-c-eq0 w ↦ rw (eq-eqb _ _ w.if-marks-c-eq0.true, sym w.value-is ∙ c.if-marks-c.true, eq-eqb _ _ c.if-marks-c-eq0-2.true)
  | else-marks-c-eq0 w ↦ absurd (false_not (sym (ne_eqb _ _ w.if-marks-c-eq0.false) ∙ sym w.value-is ∙ c.if-marks-c.true))
]

pub returns-else-marks-c-eq0-2 : goal.returns-else-marks-c-eq0-2
unfolding is_clear
returns-else-marks-c-eq0-2 c = elim c.if-marks-c-eq0.branch [
  | then-marks-c-eq0 w ↦ rw (eq-eqb _ _ w.if-marks-c-eq0.true, sym w.value-is ∙ c.if-marks-c.true, ne_eqb _ _ c.if-marks-c-eq0-2.false)
  | else-marks-c-eq0 w ↦ absurd (false_not (sym (ne_eqb _ _ w.if-marks-c-eq0.false) ∙ sym w.value-is ∙ c.if-marks-c.true))
]

pub returns-else-marks-c : goal.returns-else-marks-c
unfolding is_clear
returns-else-marks-c c = elim c.if-marks-c-eq0.branch [
  | then-marks-c-eq0 w ↦ rw (eq-eqb _ _ w.if-marks-c-eq0.true, sym w.value-is ∙ c.if-marks-c.false) c.if-marks-c.false
  | else-marks-c-eq0 w ↦ rw (ne_eqb _ _ w.if-marks-c-eq0.false) c.if-marks-c.false
]
