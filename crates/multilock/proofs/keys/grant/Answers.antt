-- `multilock::keys::grant` meets its contract.
use lib.ListN.{length-set}
use Rattle.multilock.specs.Locks.{words_more}
use Rattle.std.proofs.Common.{rules}
use Rattle.multilock.proofs.keys.grant.Goals as goal

pub loop-i-preserved : goal.loop-i-preserved
loop-i-preserved c =
    let l = c.loop-i in
    let a = c.args in
    (search rules, (rw l.invariant.1.0 (words_more a.boot l.i a.taken a.grants.now (search rules)), simp length-set (search rules)))
