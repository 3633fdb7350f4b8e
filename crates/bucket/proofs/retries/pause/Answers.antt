-- `bucket::retries::pause` meets its contract.
use native.Mathlib.Omega.{arith}
use Rattle.foreign.specs.Laws.{boundary_goes}
use Rattle.std.proofs.Common.{rules}
use Rattle.bucket.proofs.retries.pause.Goals as goal

pub spin-requires : goal.spin-requires
spin-requires c =
    let room = c.requires.0 in
    let run-bound = c.requires.1 in
    (record { words_fit = search rules; bytes_fit = search rules; few_taken = room.few_taken; steps_are = room.steps_are }, record { flow_bound = boundary_goes _ _ _ _ _ _ _ _ _ room.steps_are c.boundary-flow.ensures run-bound.flow_bound; few_attempts = omega (arith, run-bound.few_attempts); few_boundaries = omega (arith, run-bound.few_boundaries); few_yields = omega (arith, run-bound.few_yields) })
