-- The checks that every call by key makes first, and what is known once they are fine.
use Rattle.std.specs.Prelude.{ℕ, ◌≤◌, ◌<◌, ◌≡◌, refl, List, [], ◌∷◌, length, Ok}
use Rattle.std.proofs.Common.{ap, arith, leb-false}
use Rattle.types.specs.Checks.{Found}
use Rattle.model.specs.Arena.{holds_of}
use Rattle.model.specs.Lock.{find_of, attempt_at, attempt_of, none_yet, retry_of, answer_of, settled}
use Rattle.model.specs.Refusals.{Rule, first}
use Rattle.model.specs.Checks.{bad_shape, bad_health, bad_registry, bad_script, bad_held, bad_binding, bucket_rules}
use Rattle.model.specs.Calls.{starting, given, script_reply}
use Rattle.types.specs.declared.Head.{Head}
use Rattle.types.specs.declared.ScriptReply.{ScriptReply}
use Rattle.types.specs.declared.Reason.{Reason}
use Rattle.types.specs.declared.Run.{Run}
use Rattle.laws.specs.Checks.{or_else, first_append, first_two, fine_rest, fine_append, arena_fine}
use Rattle.foreign.specs.declared.Scope.{Scope}
use Rattle.foreign.specs.Model.{scope_of, in_scope}
use Rattle.foreign.specs.Fine.{ScriptFine, place_fine, fine_room, scope_flow_bound, scope_given}
use Rattle.bucket.specs.Model.{KeyFits}
use Rattle.bucket.specs.Laws.{RunBound}

-- 1, 2 and 3 of a call by key
unfoldable pub key_rules : Head → List ℕ → List ℕ → List ℕ → List ℕ → ℕ → List ℕ → List Rule
key_rules h t g registry script place held = bad_shape h t ∷ bad_health h g ∷ bad_registry registry ∷ bad_script script place ∷ bad_held h t held

-- the same without the shape
unfoldable pub list_rules : Head → List ℕ → List ℕ → List ℕ → ℕ → List ℕ → List Rule
list_rules h t registry script place held = bad_registry registry ∷ bad_script script place ∷ bad_held h t held

pub key_then : (h : Head) (t g registry script : List ℕ) (place : ℕ) (held : List ℕ)
    → first (key_rules h t g registry script place held) ≡ or_else (first (bad_shape h t ∷ bad_health h g ∷ [])) (first (list_rules h t registry script place held))
unfolding key_rules list_rules
key_then h t g registry script place held = first_append (bad_shape h t ∷ bad_health h g ∷ []) _

pub lists_then : (h : Head) (t registry script : List ℕ) (place : ℕ) (held : List ℕ)
    → first (list_rules h t registry script place held) ≡ or_else (first (bad_registry registry ∷ [])) (first (bad_script script place ∷ bad_held h t held))
unfolding list_rules
lists_then h t registry script place held = first_two _ _

pub bucket_then : (h : Head) (t g registry script : List ℕ) (place : ℕ) (held : List ℕ) (binding : ℕ)
    → first (bucket_rules h t g registry script place held binding) ≡ or_else (first (key_rules h t g registry script place held)) (first (bad_binding registry 0 binding ∷ []))
unfolding bucket_rules key_rules
bucket_then h t g registry script place held binding = first_append (bad_shape h t ∷ bad_health h g ∷ bad_registry registry ∷ bad_script script place ∷ bad_held h t held) _

pub key_fine : (h : Head) (t g registry script : List ℕ) (place : ℕ) (held : List ℕ) → first (key_rules h t g registry script place held) ≡ Ok tt
    → ScriptFine h (length t) (length g) (length script) place
unfolding key_rules
key_fine h t g registry script place held e =
    let a = fine_append (bad_shape h t ∷ bad_health h g ∷ []) _ e in
    let b = fine_rest _ _ a.1 in
    let c = fine_append (bad_script script place ∷ []) _ b.1 in
    let s = arena_fine h t g a.0 in
    let p = place_fine script place c.0 in
    record { shape = s.0; bytes_are = s.1; in_script = p.0; few_steps = p.1 }

pub record BucketFine (h : Head) (words bytes registry script place binding : ℕ) : Type 0 where
  pub script_ok : ScriptFine h words bytes script place
  pub bound : binding < registry

pub bucket_fine : (h : Head) (t g registry script : List ℕ) (place : ℕ) (held : List ℕ) (binding : ℕ)
    → first (bucket_rules h t g registry script place held binding) ≡ Ok tt
    → BucketFine h (length t) (length g) (length registry) (length script) place binding
unfolding bucket_rules key_rules
bucket_fine h t g registry script place held binding e =
    let a = fine_append (key_rules h t g registry script place held) (bad_binding registry 0 binding ∷ []) e in
    record { script_ok = key_fine h t g registry script place held a.0; bound = leb-false _ _ (fine_rest _ _ a.1).0 }

-- a call that has made no step is run-bound, and its key may be tried
pub start_run_bound : (s : Scope) (h : Head) (words bytes script place : ℕ) → s ≡ scope_of h script → ScriptFine h words bytes script place
    → RunBound s.steps 0 (starting h place)
start_run_bound s h words bytes script place e f =
    record { flow_bound = scope_flow_bound s h words bytes script place 0 e f; few_attempts = omega arith; few_boundaries = omega arith; few_yields = omega arith }

pub fine_key : (s : Scope) (h : Head) (words bytes registry script place binding n : ℕ) → s ≡ scope_of h script
    → ScriptFine h words bytes script place → binding < registry → n ≤ 64 → KeyFits s words bytes n script registry binding
fine_key s h words bytes registry script place binding n e f b m =
    rw e
    (record {
      room = fine_room h words bytes script place n f m;
      fit = record { bytes_fit = omega (arith, f.bytes_are); few_headers = f.shape.few_headers; few_buckets = f.shape.few_buckets };
      cells_are = refl;
      bound = b;
    })

-- what a call that has taken nothing gives its steps is what document 01 gives them
module _ (s : Scope) (h : Head) (script held registry : List ℕ) (binding bucket : ℕ) (r : Run) (t g : List ℕ) (e : s ≡ scope_of h (length script)) where
  pub once_given : (k : Found) → k ≡ find_of s.headers s.buckets g registry binding bucket
      → (attempt_at k (in_scope s script (holds_of held)) s.buckets r t g).seen ≡ (attempt_of (given h script (holds_of held)) h.buckets registry binding bucket r t g).seen
  unfolding attempt_of
  once_given k f =
      rw (f, scope_given s h script (holds_of held) e)
      (ap (λ (x : Scope). (attempt_at (find_of x.headers x.buckets g registry binding bucket) (given h script (holds_of held)) x.buckets r t g).seen) e)

  pub retry_given : (left i : ℕ) (last : Reason)
      → (retry_of left i last (in_scope s script (holds_of held)) s.buckets registry binding bucket r t g).seen ≡ (retry_of left i last (given h script (holds_of held)) h.buckets registry binding bucket r t g).seen
  retry_given left i last =
      rw (scope_given s h script (holds_of held) e)
      (ap (λ (x : Scope). (retry_of left i last (given h script (holds_of held)) x.buckets registry binding bucket r t g).seen) e)

-- the steps of the two calls, once their checks are fine
unfoldable pub once_by_key_of : Head → List ℕ → List ℕ → List ℕ → List ℕ → ℕ → List ℕ → ℕ → ℕ → ScriptReply × (List ℕ × List ℕ)
once_by_key_of h t g registry script place held binding bucket =
    let o = (attempt_of (given h script (holds_of held)) h.buckets registry binding bucket (starting h place) t g).seen in
    (script_reply h o.0.run (answer_of h.boot o.0.outcome), o.1)

unfoldable pub retry_by_key_of : Head → List ℕ → List ℕ → List ℕ → List ℕ → ℕ → List ℕ → ℕ → ℕ → ScriptReply × (List ℕ × List ℕ)
retry_by_key_of h t g registry script place held binding bucket =
    let o = (retry_of 4096 0 none_yet (given h script (holds_of held)) h.buckets registry binding bucket (starting h place) t g).seen in
    (script_reply h o.0.run (answer_of h.boot (settled o.0.outcome)), o.1)
