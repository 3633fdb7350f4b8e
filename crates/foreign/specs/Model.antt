-- How the code lends the protected leases: a held list, an array of pairs with a count, and a lease of the call's own.
use Rattle.std.specs.Prelude.{ℕ, zero, suc, ◌+◌, ◌*◌, ◌/◌, ◌≤◌, ◌≡◌, List, [], ◌∷◌, ◌++◌, get_or}
use Rattle.model.specs.Arena.{hold_of, holds_of, cells_of}
use Rattle.model.specs.Foreign.{Setting, setting, flow_of, boundary_of}
use Rattle.model.specs.Lock.{run_of}
use Rattle.model.specs.Calls.{script_reply, given}
use Rattle.types.specs.declared.Answer.TheVariants.{Done}
use Rattle.types.specs.declared.Head.{Head}
use Rattle.types.specs.declared.Hold.{Hold}
use Rattle.types.specs.declared.ScriptReply.{ScriptReply}
use Rattle.foreign.specs.declared.Scope.{Scope}

-- `left` pairs of an array from place i on, as leases
unfoldable pub pairs_of : ℕ → ℕ → List (List ℕ) → List Hold
pairs_of zero i ps = []
pairs_of (suc left) i ps = hold_of (get_or (get_or ps i []) 0 0) (get_or (get_or ps i []) 1 0) ∷ pairs_of left (i + 1) ps

-- the held list, and the leases taken so far
unfoldable pub guards_of : List ℕ → List (List ℕ) → ℕ → List Hold
guards_of held taken n = holds_of held ++ pairs_of n 0 taken

-- what calls have tested before their steps
pub record Room (headers cells words bytes n steps script : ℕ) : Type 0 where
  pub words_fit : 3 * cells ≤ words
  pub bytes_fit : headers ≤ bytes
  pub few_taken : n ≤ 64
  pub steps_are : steps ≡ script / 3

-- ---- a scope: what the steps of a call are given and never change

-- the scope of a call, by its head and the length of its script
abbrev pub scope_of : Head → ℕ → Scope
scope_of h script = record { headers = h.headers; buckets = h.buckets; boot = h.boot; cells = cells_of h; steps = script / 3 }

-- with a script and protected leases it is a setting
abbrev pub in_scope : Scope → List ℕ → List Hold → Setting
in_scope s script protected = setting s.headers s.cells script protected

-- the same, with the protected leases as they are lent
abbrev pub setting_of : Scope → List ℕ → List ℕ → List (List ℕ) → ℕ → Setting
setting_of s script held taken n = in_scope s script (guards_of held taken n)

-- what calls have tested before their steps
abbrev pub RoomIn : Scope → ℕ → ℕ → ℕ → ℕ → Type 0
RoomIn s words bytes n script = Room s.headers s.cells words bytes n s.steps script

-- the boundary of `environment`, once its checks are fine
unfoldable pub run_once_of : Head → List ℕ → List ℕ → List ℕ → ℕ → List ℕ → ScriptReply × (List ℕ × List ℕ)
run_once_of h t g script place held =
    let o = (boundary_of (given h script (holds_of held)) (flow_of h.next place 0) t g).seen in
    (script_reply h (run_of o.0 0 1 0) Done, o.1)
