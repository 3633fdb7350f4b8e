-- Calls over a script of which stretches were shuffled.
-- ---- a shuffled stretch gives twins
use Prim.Native.Nat.{ℕ, ◌+◌}
use Rattle.std.specs.Prelude.{◌≡◌, length}
use Rattle.std.proofs.Math.Path.{refl}
use Rattle.std.proofs.Common.{◌∙◌, arith}
use mathlib.Core.List.{List, [], ◌++◌}
use Rattle.types.specs.Checks.{Check, KeyCheck}
use Rattle.model.specs.Log.{Made, gives}
use Rattle.model.specs.Arena.{spent_to, serial_remains, state_at, holds_of}
use Rattle.model.specs.Refusals.{first, judge}
use Rattle.model.specs.Foreign.{flow_of}
use Rattle.model.specs.Lock.{take_in, take_of, attempt_limit, none_yet}
use Rattle.model.specs.Checks.{count_in, lease_count, script_rules, lock_rules, bucket_rules, release_rules, locks_rules}
use Rattle.model.specs.Calls.{starting, environment_of, try_lock_of, transactional_of, acquire_bucket_of, release_all_of, acquire_locks_of}
use Rattle.model.specs.Sorted.{cells_sorted, sorted_keys, first_key, judge_at, refused_key_at_once, sorted_locks_of, acquire_sorted_of}
use Rattle.types.specs.declared.Head.{Head}
use Rattle.types.specs.declared.ScriptReply.{ScriptReply}
use Rattle.types.specs.declared.Refusal.{Refusal}
use Rattle.types.specs.declared.State.{State}
use Rattle.types.specs.declared.State.TheVariants as state
use Rattle.types.specs.declared.Took.{Took}
use Rattle.choice.specs.Pick.{if_both}
use Rattle.laws.specs.Words.{length_set_cell}
use Rattle.history.specs.World.{World, world_of, cells}
use Rattle.history.specs.Items.{perform}
use Rattle.history.specs.Tests as tests
use Rattle.history.specs.Events.{older, status_put}
use Rattle.swaps.specs.Steps.{Step, Shuffled}
use Rattle.swaps.specs.Scripts.{script_of, Unended, Respelled, stretch, onward, environments, try_locks, transactionals, acquire_buckets, releases_all, acquires_locks, acquires_sorted}
use Rattle.swaps.specs.Statements.{CallsRescripted}
use Rattle.swaps.specs.Fine.{Fine, fine, freed}
use Rattle.swaps.specs.Boundaries.{Ran}
use Rattle.swaps.specs.Walks.{Twins}

-- two runs of which the same is seen
abbrev pub SeenAlike : (A : Type 0) → Made A → Made A → Type 0
SeenAlike A m n = n.seen ≡ m.seen

abbrev pub Reply : Type 0
Reply = ScriptReply × (List ℕ × List ℕ)
