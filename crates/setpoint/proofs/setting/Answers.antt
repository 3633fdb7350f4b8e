-- `setpoint::setting` meets its contract.
use borrow.Author.Tests.{le-ltb, lt-ltb, ne_eqb}
use Rattle.setpoint.specs.Codec.{setting_of}
use Rattle.setpoint.specs.Float32.{from_bits}
use Rattle.setpoint.proofs.setting.Goals as goal

pub float_from_bits-x : goal.float_from_bits-x
float_from_bits-x c = from_bits _ (lt-ltb _ _ c.if-word-lt2139095040.true)

pub returns-in-1-default : goal.returns-in-1-default
unfolding setting_of
returns-in-1-default c = rw (c.in-1-default.is-0, lt-ltb _ _ c.if-word-lt2139095040.true)

pub returns-in-2-default : goal.returns-in-2-default
unfolding setting_of
returns-in-2-default c = rw c.in-2-default.is-0

pub returns-in-3-eq0 : goal.returns-in-3-eq0
unfolding setting_of
returns-in-3-eq0 c = rw (c.in-3-eq0.is-0, c.in-3-eq0.is-1)

pub returns-in-3-eq1 : goal.returns-in-3-eq1
unfolding setting_of
returns-in-3-eq1 c = rw (c.in-3-eq1.is-0, c.in-3-eq1.is-1)

pub returns-in_default : goal.returns-in_default
unfolding setting_of
returns-in_default c = rw (c.in-1-default.is-0, le-ltb _ _ c.if-word-lt2139095040.false)

pub returns-in_default-2 : goal.returns-in_default-2
unfolding setting_of
returns-in_default-2 c = rw (c.in_default.is-0, ne_eqb _ _ c.in_default.is-1.0.1, ne_eqb _ _ c.in_default.is-1.1)

pub returns-in_default-3 : goal.returns-in_default-3
unfolding setting_of
returns-in_default-3 c = rw (ne_eqb _ _ c.in_default.is-0.0.0.1, ne_eqb _ _ c.in_default.is-0.0.1, ne_eqb _ _ c.in_default.is-0.1)
