-- Document 01's arena, "H 2, B 4, registry 0, 1, 1, first serial 1", boot number 5: calls that pass their checks, a check that applies first, and what the
-- statements then say of any build that meets them.
use Rattle.std.specs.Prelude.{◌≡◌, refl, [], replicate}
use Rattle.std.proofs.Common.{inl, inr, arith}
use Rattle.types.specs.declared.Answer.TheVariants.{Granted, Refused}
use Rattle.types.specs.declared.Refusal.TheVariants.{InvalidBucket}
use Rattle.history.specs.World.{World}
use Rattle.history.specs.Items.{Build, try_acquire}
use Rattle.pinned.specs.Words.{Gives, Shape, arena, head_of_lem, counted, says}
use Rattle.pinned.specs.Checks.{First, checks}
use Rattle.pinned.specs.Statements.{Passes, Meets}
use Rattle.pinned.proofs.Theorems.{takes_exactly}
use Rattle.pinned.specs.Examples.{bench}

shape : Shape (head_of_lem 2 4 1 5) 24
shape = omega arith

pub passes : Passes bench (try_acquire 2)
passes = ((λ n. n shape), ((λ l. omega arith), tt))

-- cell 8 is out of range
pub applies : First (checks bench (try_acquire 8)) (InvalidBucket 8)
applies = inr ((λ n. n shape), inl (omega arith, refl))

-- so any build that meets the statements grants cell 2 with serial 1 and boot number 5, and refuses cell 8 with nothing changed
pub granted : (b : Build) → Meets b → (b bench (try_acquire 2)).seen.1.answer ≡ Granted (record { cell = 2; serial = 1; boot = 5 })
granted b m = (takes_exactly b m bench 2 (record { cell = 2; serial = 1; boot = 5 }) passes).1 ((refl, refl), omega arith, refl)

pub refused : (b : Build) → Meets b → Gives (bench, says (Refused (InvalidBucket 8)) (counted 0 0 0 0) 0 []) (b bench (try_acquire 8))
refused b m = m.refused bench (try_acquire 8) (InvalidBucket 8) applies
