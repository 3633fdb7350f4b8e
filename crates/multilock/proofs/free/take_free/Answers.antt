-- `multilock::free::take_free` meets its contract.
use mathlib.Core.Path.{sym, ◌∙◌}
use native.Mathlib.Omega.{arith}
use native.Mathlib.Nat.{mul-le-mul}
use Rattle.multilock.specs.Free.{none_freed, freed_more, open_inside, open_remains}
use Rattle.std.proofs.Common.{rules}
use Rattle.multilock.proofs.free.take_free.Goals as goal

pub loop-p-init : goal.loop-p-init
loop-p-init c = let a = c.args in (none_freed a.scope a.next a.n a.registry.now a.keys.now a.table.now a.health.now a.taken.now (search rules) c.requires.1.1, omega arith)

pub overflow_mul-cell : goal.overflow_mul-cell
overflow_mul-cell c = omega (arith, open_inside c.args.scope _ _ _ _ _ _ _ c.requires.0 (sym c.is_open.ensures ∙ c.if-not-is_open.false), c.requires.0.cells_are, mul-le-mul c.requires.0.fit.few_headers c.requires.0.fit.few_buckets)

pub overflow_add-cell : goal.overflow_add-cell
overflow_add-cell c = omega (arith, open_inside c.args.scope _ _ _ _ _ _ _ c.requires.0 (sym c.is_open.ensures ∙ c.if-not-is_open.false), c.requires.0.cells_are, mul-le-mul c.requires.0.fit.few_headers c.requires.0.fit.few_buckets)

pub set_cell-requires : goal.set_cell-requires
set_cell-requires c =
    omega (arith, open_inside c.args.scope _ _ _ _ _ _ _ c.requires.0 (sym c.is_open.ensures ∙ c.if-not-is_open.false), c.loop-p.invariant.0.noted.words, c.requires.0.words_fit)

pub overflow_add-serial : goal.overflow_add-serial
overflow_add-serial c = omega (arith, open_remains _ _ _ _ _ _ _ (sym c.is_open.ensures ∙ c.if-not-is_open.false))

pub loop-p-preserved : goal.loop-p-preserved
loop-p-preserved c =
    let l = c.loop-p in
    let a = c.args in
    (rw c.set_cell.ensures (freed_more a.scope _ _ c.requires.0 a.next a.n a.registry.now a.keys.now a.table.now a.health.now l.p l.taken l.table l.serial l.invariant.1 c.loop-p-test.true c.requires.1.0.few (sym c.is_open.ensures ∙ c.if-not-is_open.false) l.invariant.0), omega (arith, l.invariant.1))
