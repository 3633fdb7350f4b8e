-- Document 02, L4: the order of the checks of `acquire_sorted_locks`.
use Rattle.std.specs.Prelude.{ℕ, zero, suc, ◌+◌, ◌/◌, ◌≡◌, refl, List, [], ◌∷◌, ◌++◌, Bool, true, false, ltb, leb, eqb, length, get_or, take, drop, replicate, if◌then◌else◌}
use Rattle.std.proofs.Common.{ap, ◌∙◌}
use Rattle.types.specs.Checks.{Check, KeyCheck}
use Rattle.model.specs.Log.{Made, gives, ◌>>=◌}
use Rattle.model.specs.Arena.{cell_number, head_of, lease_of, bit_at, owner_at, waiters_at, set_cell, is_free, is_held, state_of, state_at, is_live, leases_of, holds_of, words_of, same_hold, is_in, head_fits, shape_fits, health_fits, registry_fits}
use Rattle.model.specs.Refusals.{Rule, refuse◌carrying◌when◌, first, judge}
use Rattle.model.specs.Answers.{kind_of, refusal_in, values_of}
use Rattle.model.specs.Checks.{count_in, not_live, bad_bindings, locks_rules}
use Rattle.model.specs.Foreign.{run_steps_of, boundary_of}
use Rattle.model.specs.Lock.{take_of, late_stage_of, second_stage_of, lock_of, find_of, attempt_of, spin_of, pause_of, retry_of, no_hold, give_back_of, rollback_of, locks_of, binding_at, bucket_at}
use Rattle.model.specs.Calls.{counts_of, script_reply, starting, refused_at_once, given}
use Rattle.model.proofs.Order.{numbers_of, stale_or, locks_order, numbers_append}
use Rattle.types.specs.declared.Answer.{Answer}
use Rattle.types.specs.declared.Answer.TheVariants.{Done, Cell, Granted, AllGranted, Busy, Refused, RefusedAt}
use Rattle.types.specs.declared.Head.{Head}
use Rattle.types.specs.declared.Hold.{Hold}
use Rattle.types.specs.declared.ScriptReply.{ScriptReply}
use Rattle.types.specs.declared.Refusal.{Refusal}
use Rattle.types.specs.declared.Refusal.TheVariants as refusal
use Rattle.model.specs.Sorted.{bad_keys}

-- n times 6 and 8
abbrev pub header_and_bucket : ℕ → List ℕ
header_and_bucket zero = []
header_and_bucket (suc n) = 6 ∷ 8 ∷ header_and_bucket n

bad_keys_lem : (left p : ℕ) (h : Head) (registry keys : List ℕ) → numbers_of (bad_keys left p h registry keys) ≡ header_and_bucket left
unfolding bad_keys
bad_keys_lem zero p h registry keys = refl
bad_keys_lem (suc left) p h registry keys = ap {B = List ℕ} (λ n. 6 ∷ 8 ∷ n) (bad_keys_lem left (p + 1) h registry keys)

-- all checks of multi-lock, all bindings among them, and then position by position
pub sorted_order : (h : Head) (t g registry script : List ℕ) (place : ℕ) (held keys grants : List ℕ)
    → numbers_of (locks_rules h t g registry script place held keys grants ++ bad_keys (count_in keys) 0 h registry keys)
    ≡ (1 ∷ 1 ∷ 1 ∷ 2 ∷ 3 ∷ (stale_or 3 (length (leases_of held)) ++ (4 ∷ replicate (count_in keys) 5))) ++ header_and_bucket (count_in keys)
sorted_order h t g registry script place held keys grants =
    numbers_append (locks_rules h t g registry script place held keys grants) (bad_keys (count_in keys) 0 h registry keys)
    ∙ rw (bad_keys_lem (count_in keys) 0 h registry keys, locks_order h t g registry script place held keys grants [] (lease_of 0 0 0) 0 0)
