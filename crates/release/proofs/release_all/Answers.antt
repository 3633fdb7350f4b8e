-- `release::release_all` meets its contract.
use mathlib.Core.Path.{sym, ◌∙◌}
use Rattle.release.specs.Release.{release_fine}
use Rattle.release.proofs.release_all.Goals as goal

pub release_once-requires : goal.release_once-requires
release_once-requires c = release_fine _ _ _ _ _ _ (sym c.release_check.ensures ∙ c.in-Ok.is)
