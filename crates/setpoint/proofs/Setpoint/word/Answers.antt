-- `setpoint::Setpoint::word` meets its contract.
use Rattle.setpoint.specs.Float32.{pressure_no_nan}
use Rattle.setpoint.proofs.Setpoint.word.Goals as goal

pub float_to_bits-result : goal.float_to_bits-result
float_to_bits-result c = pressure_no_nan _ _ c.in-Pressure.is c.requires
