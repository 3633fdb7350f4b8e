-- What a call with a script knows once its checks are fine.
use Rattle.std.specs.Prelude.{ℕ, ◌-◌, ◌/◌, ◌%◌, ◌≤◌, ◌≡◌, refl, List, [], ◌∷◌, not, ◌||◌, ltb, eqb, length, Ok}
use Rattle.std.proofs.Common.{ap, ◌∙◌, append-nil, arith, ltb-false}
use Rattle.model.specs.Arena.{cells_of, holds_of}
use Rattle.model.specs.Refusals.{Rule, first}
use Rattle.model.specs.Checks.{bad_shape, bad_health, bad_script, script_rules}
use Rattle.model.specs.Foreign.{steps_in, flow_of, setting, run_steps_of, boundary_of}
use Rattle.model.specs.Calls.{given}
use Rattle.types.specs.declared.Flow.{Flow}
use Rattle.types.specs.declared.Head.{Head}
use Rattle.types.specs.declared.Hold.{Hold}
use Rattle.foreign.specs.declared.Scope.{Scope}
use Rattle.choice.specs.Pick.{neither}
use Rattle.laws.specs.Shape.{Shaped}
use Rattle.laws.specs.Checks.{or_else, first_append, fine_rest, fine_append, arena_fine}
use Rattle.foreign.specs.Model.{pairs_of, guards_of, Room, RoomIn, scope_of, in_scope, setting_of}
use Rattle.foreign.specs.Laws.{FlowBound}

pub record ScriptFine (h : Head) (words bytes script place : ℕ) : Type 0 where
  pub shape : Shaped h words
  pub bytes_are : bytes ≡ h.headers
  pub in_script : place ≤ script / 3
  pub few_steps : script / 3 ≤ 32768

-- the rule on the script, in whatever company
pub place_fine : (script : List ℕ) (place : ℕ) → first (bad_script script place ∷ []) ≡ Ok tt → (place ≤ steps_in script) × (steps_in script ≤ 32768)
place_fine script place e =
    let a = neither (not (eqb (length script % 3) 0) || ltb 32768 (steps_in script)) (ltb (steps_in script) place) (fine_rest _ _ e).0 in
    let b = neither (not (eqb (length script % 3) 0)) (ltb 32768 (steps_in script)) a.0 in
    (ltb-false _ _ a.1, ltb-false _ _ b.1)

-- these rules come first in every call with a script
pub script_then : (h : Head) (t g : List ℕ) (ys : List Rule) → first (bad_shape h t ∷ bad_health h g ∷ ys) ≡ or_else (first (bad_shape h t ∷ bad_health h g ∷ [])) (first ys)
script_then h t g ys = first_append (bad_shape h t ∷ bad_health h g ∷ []) ys

pub script_fine : (h : Head) (t g script : List ℕ) (place : ℕ) (held : List ℕ) → first (script_rules h t g script place held) ≡ Ok tt
    → ScriptFine h (length t) (length g) (length script) place
unfolding script_rules
script_fine h t g script place held e =
    let a = fine_append (bad_shape h t ∷ bad_health h g ∷ []) _ e in
    let b = fine_append (bad_script script place ∷ []) _ a.1 in
    let s = arena_fine h t g a.0 in
    let p = place_fine script place b.0 in
    record { shape = s.0; bytes_are = s.1; in_script = p.0; few_steps = p.1 }

-- nothing taken yet
pub guards_none : (held : List ℕ) (taken : List (List ℕ)) → guards_of held taken 0 ≡ holds_of held
unfolding guards_of pairs_of
guards_none held taken = append-nil (holds_of held)

-- room for the steps
pub fine_room : (h : Head) (words bytes script place n : ℕ) → ScriptFine h words bytes script place → n ≤ 64 → Room h.headers (cells_of h) words bytes n (script / 3) script
fine_room h words bytes script place n f b =
    record { words_fit = omega (arith, f.shape.words_are); bytes_fit = omega (arith, f.bytes_are); few_taken = b; steps_are = refl }

pub fine_flow_bound : (h : Head) (words bytes script place : ℕ) → ScriptFine h words bytes script place → FlowBound (script / 3) (flow_of h.next place 0)
fine_flow_bound h words bytes script place f = record { few = omega arith; in_script = f.in_script }

-- ---- the same of the scope that `scope_of` makes

module _ (s : Scope) (h : Head) (words bytes script place n : ℕ) (e : s ≡ scope_of h script) (f : ScriptFine h words bytes script place) where
  pub scope_room : n ≤ 64 → RoomIn s words bytes n script
  scope_room b = rw e (fine_room h words bytes script place n f b)

  pub scope_flow_bound : FlowBound s.steps (flow_of h.next place 0)
  scope_flow_bound = rw e (fine_flow_bound h words bytes script place f)

-- the setting that the steps get is the one of document 01
pub scope_given : (s : Scope) (h : Head) (script : List ℕ) (protected : List Hold) → s ≡ scope_of h (length script) → in_scope s script protected ≡ given h script protected
scope_given s h script protected e = ap (λ (x : Scope). in_scope x script protected) e

-- nothing taken yet
pub scope_none : (s : Scope) (h : Head) (script held : List ℕ) (taken : List (List ℕ)) → s ≡ scope_of h (length script)
    → setting_of s script held taken 0 ≡ given h script (holds_of held)
scope_none s h script held taken e =
    scope_given s h script (guards_of held taken 0) e ∙ ap (given h script) (guards_none held taken)

-- with an empty held list nothing is protected
pub alone_free : (s : Scope) (h : Head) (script held : List ℕ) (f : Flow) (t g : List ℕ) → s ≡ scope_of h (length script) → length held ≡ 0
    → (boundary_of (given h script (holds_of held)) f t g).seen ≡ (run_steps_of (s.steps - f.place) (setting s.headers s.cells script []) f t g).seen
unfolding boundary_of holds_of
alone_free s h script [] f t g e z = rw e
alone_free s h script (x ∷ xs) f t g e z = absurd (omega arith)
