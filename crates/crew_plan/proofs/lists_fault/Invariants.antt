-- `crew_plan::lists_fault` meets its contract.
use Prim.Native.Nat.{◌≤◌, ◌-◌}
use mathlib.Core.Path.{◌≡◌}
use lib.ListN.{length}
use Rattle.model.specs.Crew.{start_of, bad_lists}
use Rattle.model.specs.Refusals.{first}
use Rattle.crew_plan.proofs.lists_fault.Given as goal

abbrev pub invariant-loop-m : goal.invariant-loop-m
invariant-loop-m l =
    (l.m ≤ length l.counts) × ((l.start ≡ start_of l.counts l.m) × (first (bad_lists (length l.counts - l.m) l.m l.inside l.counts l.cells) ≡ first (bad_lists (length l.counts) 0 l.inside l.counts l.cells)))
