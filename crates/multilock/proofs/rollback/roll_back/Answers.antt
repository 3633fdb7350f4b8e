-- `multilock::rollback::roll_back` meets its contract.
use Rattle.multilock.specs.Locks.{length_pairs, roll_back_of}
use Rattle.multilock.proofs.rollback.roll_back.Goals as goal

pub returns : goal.returns
unfolding roll_back_of
returns c = rw (length_pairs c.args.n 0 c.args.taken, ← c.give_pairs-after.ensures)
