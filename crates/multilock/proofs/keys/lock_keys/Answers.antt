-- `multilock::keys::lock_keys` meets its contract.
use Prim.Native.Nat.{ℕ, ◌<◌, ◌-◌}
use mathlib.Core.Path.{◌≡◌}
use mathlib.Core.List.{[]}
use native.Mathlib.Omega.{arith}
use lib.ListN.{length, length-set, get_or}
use Rattle.model.specs.Arena.{holds_of}
use Rattle.model.specs.Lock.{locks_of}
use Rattle.bucket.specs.Bounds.{call_most}
use Rattle.bucket.specs.Laws.{RunBound, more_run_bound}
use Rattle.foreign.specs.Model.{RoomIn, pairs_of, in_scope}
use Rattle.multilock.specs.Locks.{retry_goes, locks_at, locks_end, rolled, pairs_push, inside_push, grant_inside}
use Rattle.std.proofs.Common.{rules}
use Rattle.multilock.proofs.keys.lock_keys.Goals as goal
use Rattle.multilock.proofs.keys.lock_keys.Goals.{At-loop-p, After-try_key-tried}

-- what remains at a turn is what the whole comes to
begun : (c : At-loop-p) → let a = c.args in
    let l = c.loop-p in
    let e = in_scope a.scope a.script.now (holds_of a.held.now) in
    (locks_of a.n 0 e a.scope.buckets a.scope.boot a.registry.now a.keys.now [] a.start a.table.now a.health.now a.grants.now).seen ≡ (locks_of (a.n - l.p) l.p e a.scope.buckets a.scope.boot a.registry.now a.keys.now (pairs_of l.p 0 l.taken) l.run l.table l.health a.grants.now).seen
begun c =
    let a = c.args in
    rw (← c.free_first-free.ensures.rest a.script.now (holds_of a.held.now) a.grants.now c.requires.0.key.room.steps_are, ← c.freed-run.ensures, ← c.loop-p.invariant.rest)

-- after a key, what was taken can be given back
can_return : (c : After-try_key-tried) → let a = c.args in
    let o = c.try_key-tried in
    let l = c.loop-p in
    RoomIn a.scope (length o.new.table) (length o.new.health) l.p (length a.script.now) × (RunBound a.scope.steps call_most o.result.run × ((i : ℕ) → i < l.p → get_or (get_or l.taken i []) 0 0 < a.scope.cells))
can_return c =
    let l = c.loop-p in
    let q = c.requires in
    let room = q.0.key.room in
    (record { words_fit = omega (arith, room.words_fit, l.invariant.words, c.free_first-free.ensures.noted.words, c.try_key-tried.auto); bytes_fit = search rules; few_taken = omega (arith, l.invariant.few, q.1.1.0); steps_are = room.steps_are }, (more_run_bound _ _ _ _ (omega (arith, l.invariant.few, q.1.1.0)) (retry_goes _ _ _ _ _ _ _ _ _ _ _ _ _ _ room.steps_are c.try_key-tried.ensures l.invariant.run_bound), l.invariant.inside))

pub roll_back-requires : goal.roll_back-requires
roll_back-requires c = can_return (goal.at.roll_back-requires c).After-try_key-tried

pub roll_back-requires-in-Refused : goal.roll_back-requires-in-Refused
roll_back-requires-in-Refused c = can_return (goal.at.roll_back-requires-in-Refused c).After-try_key-tried

pub returns-in-Busy : goal.returns-in-Busy
returns-in-Busy c =
    let l = c.loop-p in
    let a = c.args in
    rw (begun (goal.at.returns-in-Busy c).At-loop-p, locks_at a.n l.p _ a.scope.buckets a.scope.boot a.registry.now a.keys.now (pairs_of l.p 0 l.taken) l.run l.table l.health a.grants.now _ (_) c.try_key-tried.ensures c.in-Busy.is (omega (arith, c.loop-p-test.true)), rolled _ _ _ _ _ _ _ _, ← c.roll_back.ensures)

pub returns-in-Refused : goal.returns-in-Refused
returns-in-Refused c =
    let l = c.loop-p in
    let a = c.args in
    rw (begun (goal.at.returns-in-Refused c).At-loop-p, locks_at a.n l.p _ a.scope.buckets a.scope.boot a.registry.now a.keys.now (pairs_of l.p 0 l.taken) l.run l.table l.health a.grants.now _ (_) c.try_key-tried.ensures c.in-Refused.is (omega (arith, c.loop-p-test.true)), rolled _ _ _ _ _ _ _ _, ← c.roll_back-in-Refused.ensures)

pub loop-p-preserved : goal.loop-p-preserved
loop-p-preserved c =
    let l = c.loop-p in
    let a = c.args in
    let q = c.requires in
    let e = in_scope a.scope a.script.now (holds_of a.held.now) in
    let room = q.0.key.room in
    record {
      run_bound = more_run_bound _ _ _ _ (omega arith) (retry_goes _ _ _ _ _ _ _ _ _ _ _ _ _ _ room.steps_are c.try_key-tried.ensures l.invariant.run_bound);
      few = omega (arith, c.loop-p-test.true);
      words = omega (arith, l.invariant.words, c.try_key-tried.auto);
      bytes = omega (arith, l.invariant.bytes, c.try_key-tried.auto);
      size = simp length-set l.invariant.size;
      inside = inside_push l.taken l.p _ _ a.scope.cells (omega (arith, l.invariant.size, c.loop-p-test.true, q.1.1.0)) (omega (arith, q.0.key.cells_are, grant_inside _ _ _ _ _ _ _ _ _ _ _ _ _ c.try_key-tried.ensures c.in-Granted.is)) l.invariant.inside;
      rest = rw (pairs_push l.p l.taken _ _ (omega (arith, l.invariant.size, c.loop-p-test.true, q.1.1.0))) (rw (← l.invariant.rest, locks_at a.n l.p e a.scope.buckets a.scope.boot a.registry.now a.keys.now (pairs_of l.p 0 l.taken) l.run l.table l.health a.grants.now _ (_) c.try_key-tried.ensures c.in-Granted.is (omega (arith, c.loop-p-test.true))));
    }

pub returns : goal.returns
returns c =
    let l = c.loop-p in
    let a = c.args in
    let k : l.p ≡ a.n = omega (arith, l.invariant.few) in
    rw (begun (goal.at.returns c).At-loop-p, locks_end a.n l.p _ a.scope.buckets a.scope.boot a.registry.now a.keys.now (pairs_of l.p 0 l.taken) l.run l.table l.health a.grants.now (omega (arith, c.loop-p-test.false)), k, ← c.grant.ensures)
