-- `multilock::free::free_first` meets its contract.
use Rattle.multilock.specs.Free.{none_begun}
use Rattle.std.proofs.Common.{rules}
use Rattle.multilock.proofs.free.free_first.Goals as goal

pub returns-then-flow-scope : goal.returns-then-flow-scope
returns-then-flow-scope c = let a = c.args in none_begun a.scope a.start a.n a.registry.now a.keys.now a.table.now a.health.now a.taken.now (search rules) c.requires.1.1
