-- `lock::lock` meets its contract.
use Rattle.foreign.specs.Laws.{boundary_goes}
use Rattle.std.proofs.Common.{rules}
use Rattle.lock.proofs.lock.Goals as goal

pub second_stage-requires : goal.second_stage-requires
second_stage-requires c =
    let room = c.requires.0 in
    (record { words_fit = search rules; bytes_fit = search rules; few_taken = room.few_taken; steps_are = room.steps_are }, (boundary_goes _ _ _ _ _ _ _ _ _ room.steps_are c.boundary-after.ensures c.requires.1.0, c.requires.1.1))
