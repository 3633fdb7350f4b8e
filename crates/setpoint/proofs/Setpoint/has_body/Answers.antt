-- `setpoint::Setpoint::has_body` meets its contract.
use Rattle.setpoint.proofs.Setpoint.has_body.Goals as goal

pub returns-in-Pressure : goal.returns-in-Pressure
returns-in-Pressure c = rw (c.in-Pressure.is, ← c.is_finite.ensures)
