-- Document 01's arena, "H 2, B 4, registry 0, 1, 1, first serial 1", boot number 5: calls that pass their checks, a check that applies first, and what the
-- statements then say of any build that meets them.
use Rattle.std.specs.Prelude.{◌≡◌, refl, [], replicate}
use Rattle.std.proofs.Common.{inl, inr, arith}
use Rattle.types.specs.declared.Answer.TheVariants.{Granted, Refused}
use Rattle.types.specs.declared.Refusal.TheVariants.{InvalidBucket}
use Rattle.history.specs.World.{World}
use Rattle.history.specs.Items.{Build, try_acquire}
use Rattle.pinned.specs.Words.{Gives, Shape, arena, head_of_lem, counted, says}
use Rattle.pinned.specs.Checks.{First, checks}
use Rattle.pinned.specs.Statements.{Passes, Meets}

abbrev pub bench : World
bench = arena (head_of_lem 2 4 1 5) (replicate 24 0) (replicate 2 0)
