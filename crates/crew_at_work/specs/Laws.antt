-- Laws of the crew at work: its checks.
use Rattle.std.specs.Prelude.{◌≡◌, ℕ, ◌-◌, List, length, Ok}
use Rattle.model.specs.Arena.{cells_of}
use Rattle.model.specs.Refusals.{first}
use Rattle.model.specs.Crew.{crew_at_work_rules}
use Rattle.types.specs.declared.Head.{Head}
use Rattle.laws.specs.Crew.{fine_at_work}
use Rattle.crew_plan.specs.Fine.{CrewFine, crew_fine}

pub work_fine : (h : Head) (t g counts cells turns counters : List ℕ) → first (crew_at_work_rules h t g counts cells turns counters) ≡ Ok tt
    → CrewFine h (length t) (length g) counts cells turns × (length counters ≡ cells_of h)
work_fine h t g counts cells turns counters e =
    let f = fine_at_work h t g counts cells turns counters e in
    (crew_fine h t g counts cells turns f.1, f.0)
