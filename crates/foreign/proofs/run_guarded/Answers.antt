-- `foreign::run_guarded` meets its contract.
use mathlib.Core.List.{[], ◌∷◌, ◌++◌}
use mathlib.Core.Path.{◌≡◌, refl}
use native.Mathlib.Omega.{arith}
use borrow.Author.Tests.{eq-eqb, ne_eqb}
use Rattle.std.specs.Prelude.{eqb, false}
use Rattle.std.proofs.Common.{rules}
use Rattle.model.specs.Foreign.{setting, kind_at}
use Rattle.foreign.specs.Laws.{steps_at, steps_end, steps_turn, step_unguarded, step_drops}
use Rattle.foreign.specs.Model.{guards_of}
use Rattle.foreign.proofs.run_guarded.Goals as goal

pub loop-place-init : goal.loop-place-init
loop-place-init c = (record { flow_bound = c.requires.1; words = refl; bytes = refl; rest = refl }, refl)

pub returns-then-kind-eq5 : goal.returns-then-kind-eq5
returns-then-kind-eq5 c =
    let l = c.loop-place in
    let a = c.args in
    let here = l.invariant.1 in
    let e = setting a.scope.headers a.scope.cells a.script.now (guards_of a.holds.now.held.now a.holds.now.taken.now a.holds.now.n ++ (a.own ∷ [])) in
    rw (← l.invariant.0.rest, steps_at e l.now l.table l.health a.scope.steps (omega (arith, here)), here, eq-eqb _ _ c.if-kind-eq5.true)

pub run-requires : goal.run-requires
run-requires c =
    let room = c.requires.0 in
    (record { words_fit = search rules; bytes_fit = search rules; few_taken = room.few_taken; steps_are = room.steps_are }, c.loop-place.invariant.0.flow_bound)

pub returns-then-kind-eq2 : goal.returns-then-kind-eq2
returns-then-kind-eq2 c =
    let k = c.new-holding.ensures in
    let made = rw (k.holds.0, k.holds.1, k.holds.2, k.own) at c.run.ensures in
    rw (← c.loop-place.invariant.0.rest) made

pub overflow_add-now-in-loop-place : goal.overflow_add-now-in-loop-place
overflow_add-now-in-loop-place c =
    let d = step_drops _ _ _ _ _ _ _ _ c.step-done.ensures in
    omega (arith, c.loop-place.invariant.0.flow_bound.few, c.loop-place.invariant.1)

pub loop-place-preserved : goal.loop-place-preserved
loop-place-preserved c =
    let l = c.loop-place in
    let a = c.args in
    let here = l.invariant.1 in
    let ps = guards_of a.holds.now.held.now a.holds.now.taken.now a.holds.now.n ++ (a.own ∷ []) in
    let d = step_drops _ _ _ _ _ _ _ _ c.step-done.ensures in
    let walks : eqb (kind_at a.script.now l.now.place) 5 ≡ false = rw here (ne_eqb _ _ c.if-kind-eq5.false) in (
      record {
        flow_bound = record { few = omega (arith, l.invariant.0.flow_bound.few); in_script = omega arith };
        words = search rules;
        bytes = search rules;
        rest =
            rw (← l.invariant.0.rest, steps_turn a.scope.headers a.scope.cells a.script.now ps l.now l.table l.health a.scope.steps (omega (arith, here)) walks, here, step_unguarded a.scope.headers a.scope.cells ps l.now.next l.table l.health _ _ _ c.if-kind-eq2.false, ← c.step-done.ensures);
      },
      refl,
    )

pub returns : goal.returns
returns c =
    let l = c.loop-place in
    let a = c.args in
    let e = setting a.scope.headers a.scope.cells a.script.now (guards_of a.holds.now.held.now a.holds.now.taken.now a.holds.now.n ++ (a.own ∷ [])) in
    rw (← l.invariant.0.rest, steps_end e l.now l.table l.health a.scope.steps (omega (arith, l.invariant.1, c.loop-place-test.false)))
