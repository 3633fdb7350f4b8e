-- `crew_plan::starts_of` meets its contract.
use Rattle.crew_plan.specs.Starts.{Beginning}
use Rattle.crew_plan.proofs.starts_of.Given as goal

abbrev pub invariant-loop-m : goal.invariant-loop-m
invariant-loop-m l =
    Beginning l.counts l.starts l.start l.m
