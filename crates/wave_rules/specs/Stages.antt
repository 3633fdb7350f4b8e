-- The stages of the reader that are reached.
-- ---- the stages that are reached
use Rattle.std.specs.Prelude.{ℕ, ◌≤◌, ◌<◌}
pub use Rattle.choice.specs.Pick.{false_not}
use Rattle.wave_rules.specs.declared.Stage.{Stage}
use Rattle.wave_rules.specs.declared.Stage.TheVariants.{Opening, Scope, Variables, Ending, Start, Values, Waiting, Changing}

abbrev pub Reach : Stage → Type 0
Reach Opening = Unit {0}
Reach Scope = Unit {0}
Reach (Variables n) = n ≤ 94
Reach (Ending n) = (1 ≤ n) × (n ≤ 94)
Reach (Start n) = (1 ≤ n) × (n ≤ 94)
Reach (Values n c) = (c < n) × (n ≤ 94)
Reach (Waiting n last) = (1 ≤ n) × (n ≤ 94)
Reach (Changing n last t) = (1 ≤ n) × (n ≤ 94) × (last < t) × (t ≤ 32768)

-- ---- how many words: three for each step up to the last change

-- the time of the last change that a stage has seen
abbrev pub last_in : Stage → ℕ
last_in Opening = 0
last_in Scope = 0
last_in (Variables n) = 0
last_in (Ending n) = 0
last_in (Start n) = 0
last_in (Values n c) = 0
last_in (Waiting n last) = last
last_in (Changing n last t) = last
