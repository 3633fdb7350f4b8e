-- `text::ended` meets its contract.
use borrow.Author.Tests.{eq-eqb, ne_eqb, lt-ltb}
use Rattle.text.specs.Text.{ended_number_of}
use Rattle.text.specs.Laws.{unpadded_is}
use Rattle.text.proofs.ended.Goals as goal

pub returns-then-digits-eq0 : goal.returns-then-digits-eq0
unfolding ended_number_of
returns-then-digits-eq0 c = rw (eq-eqb _ _ c.if-digits-eq0.true)

pub returns-then-digits-gt1 : goal.returns-then-digits-gt1
unfolding ended_number_of
returns-then-digits-gt1 c = rw (ne_eqb _ _ c.if-digits-eq0.false, eq-eqb _ _ c.if-bytes-eq48.true, lt-ltb _ _ c.if-digits-gt1.true)

pub returns : goal.returns
unfolding ended_number_of
returns c = rw (ne_eqb _ _ c.if-digits-eq0.false, unpadded_is _ _ c.else-bytes-eq48.either)
