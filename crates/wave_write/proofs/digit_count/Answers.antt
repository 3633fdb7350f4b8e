-- `wave_write::digit_count` meets its contract.
use Rattle.std.proofs.Common.{arith}
use Rattle.text.specs.Decimal.{digit_count_is}
use Rattle.wave_write.proofs.digit_count.Goals as goal

pub returns-then-t-ge10000 : goal.returns-then-t-ge10000
returns-then-t-ge10000 c = digit_count_is c.args.t 5 (omega arith) (omega arith, omega arith, λ e. omega arith)

pub returns-then-t-ge1000 : goal.returns-then-t-ge1000
returns-then-t-ge1000 c = digit_count_is c.args.t 4 (omega arith) (omega arith, omega arith, λ e. omega arith)

pub returns-then-t-ge100 : goal.returns-then-t-ge100
returns-then-t-ge100 c = digit_count_is c.args.t 3 (omega arith) (omega arith, omega arith, λ e. omega arith)

pub returns-then-t-ge10 : goal.returns-then-t-ge10
returns-then-t-ge10 c = digit_count_is c.args.t 2 (omega arith) (omega arith, omega arith, λ e. omega arith)

pub returns-else-t-ge10 : goal.returns-else-t-ge10
returns-else-t-ge10 c = digit_count_is c.args.t 1 (omega arith) (omega arith, omega arith, λ e. omega arith)
