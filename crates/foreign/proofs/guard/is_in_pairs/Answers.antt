-- `foreign::guard::is_in_pairs` meets its contract.
use Rattle.model.specs.Arena.{is_in, same_hold}
use Rattle.foreign.specs.Laws.{pairs_at, pairs_end}
use Rattle.std.proofs.Common.{rules}
use Rattle.foreign.proofs.guard.is_in_pairs.Goals as goal

pub returns-then-eq : goal.returns-then-eq
unfolding is_in same_hold
returns-then-eq c = let l = c.loop-i in let a = c.args in
    rw (← l.invariant, pairs_at a.taken.now a.n l.i (search rules)) (search rules)

pub loop-i-preserved : goal.loop-i-preserved
unfolding is_in same_hold
loop-i-preserved c = let l = c.loop-i in let a = c.args in
    rw (← l.invariant, pairs_at a.taken.now a.n l.i (search rules)) (search rules)

pub returns : goal.returns
unfolding is_in same_hold
returns c = let l = c.loop-i in let a = c.args in
    rw (← l.invariant, pairs_end a.taken.now a.n l.i (search rules))
