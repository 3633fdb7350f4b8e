-- `release::give_back` meets its contract.
use Prim.Native.Nat.{◌-◌}
use mathlib.Core.Path.{sym, ◌∙◌}
use mathlib.Core.List.{[]}
use native.Mathlib.Omega.{arith}
use Rattle.model.specs.Arena.{holds_of}
use Rattle.foreign.specs.Model.{in_scope}
use Rattle.bucket.specs.Laws.{more_run_bound}
use Rattle.release.specs.Release.{give_one_goes, give_list_at, give_back_end}
use Rattle.std.proofs.Common.{rules}
use Rattle.release.proofs.give_back.Goals as goal

pub loop-k-preserved : goal.loop-k-preserved
loop-k-preserved c =
    let l = c.loop-k in
    let a = c.args in
    let p = c.requires in
    let some = c.loop-k-test.true in
    record {
      run_bound = more_run_bound _ _ _ _ (omega (arith, l.invariant.few, some)) (give_one_goes a.scope _ _ p.0.steps_are _ _ _ _ _ _ c.give_one-run.ensures l.invariant.run_bound);
      few = omega (arith, l.invariant.few);
      words = search rules;
      bytes = search rules;
      rest = sym (give_list_at l.k (l.k - 1) a.scope a.script.now a.leases.now _ l.run l.table l.health _ (omega (arith, some)) (omega (arith, l.invariant.few, some)) c.give_one-run.ensures) ∙ l.invariant.rest;
    }

pub returns : goal.returns
returns c =
    let l = c.loop-k in
    let a = c.args in
    rw (← l.invariant.rest, give_back_end l.k (in_scope a.scope a.script.now []) (holds_of a.leases.now) l.run l.table l.health (search rules))
