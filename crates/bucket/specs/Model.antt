-- What the steps by key are given: an arena whose cells can be numbered, and a binding inside the registry.
use Rattle.std.specs.Prelude.{ℕ, ◌*◌, ◌≤◌, ◌<◌, ◌≡◌, List, get_or, if◌then◌else◌, Ok}
use Rattle.std.proofs.Common.{arith}
use Rattle.types.specs.Checks.{Found}
use Rattle.model.specs.Arena.{header_of}
use Rattle.model.specs.Foreign.{Setting}
use Rattle.model.specs.Lock.{attempt_of, pause_of, is_busy, last_of, none_yet}
use Rattle.types.specs.declared.Outcome.{Outcome}
use Rattle.types.specs.declared.Outcome.TheVariants as outcome
use Rattle.types.specs.declared.Reason.{Reason}
use Rattle.types.specs.declared.Run.{Run}
use Rattle.types.specs.declared.Tried.{Tried}
use Rattle.foreign.specs.declared.Scope.{Scope}
use Rattle.foreign.specs.Model.{RoomIn}
use Rattle.lock.specs.Model.{CellIn}
use Rattle.bucket.specs.declared.Target.{Target}
use Rattle.bucket.specs.declared.Attempted.{Attempted}

pub record Fit (headers buckets bytes : ℕ) : Type 0 where
  pub bytes_fit : headers ≤ bytes
  pub few_headers : headers ≤ 64
  pub few_buckets : buckets ≤ 1024

pub record KeyFits (s : Scope) (words bytes n script registry binding : ℕ) : Type 0 where
  pub room : RoomIn s words bytes n script
  pub fit : Fit s.headers s.buckets bytes
  pub cells_are : s.cells ≡ s.headers * s.buckets
  pub bound : binding < registry

-- lengths do not change
pub key_for : {s : Scope} {words words₀ bytes bytes₀ n script registry binding : ℕ} → words ≡ words₀ → bytes ≡ bytes₀
    → KeyFits s words₀ bytes₀ n script registry binding → KeyFits s words bytes n script registry binding
key_for p q k = rw (p, q) k

-- where a key fits, so does one of a registry of its own
pub key_alone : {s : Scope} {words bytes n script registry binding : ℕ} → KeyFits s words bytes n script registry binding → KeyFits s words bytes n script 1 0
key_alone k = record { room = k.room; fit = k.fit; cells_are = k.cells_are; bound = omega arith }

-- the cell that a key was found to name is there, and its header was read healthy
pub record Landed (s : Scope) (g : List ℕ) (c : ℕ) : Type 0 where
  pub there : CellIn s c
  pub healthy : get_or g (header_of s.buckets c) 0 ≡ 0

abbrev pub Lands : Scope → List ℕ → Found → Type 0
Lands s g k = (c : ℕ) → k ≡ Ok c → Landed s g c

-- what a key stands for
abbrev pub target_of : List ℕ → ℕ → ℕ → Target
target_of registry binding bucket = record { header = get_or registry binding 0; bucket = bucket }

-- an outcome without its reason
abbrev pub without_reason_of : Outcome → Outcome
without_reason_of (outcome.Granted l) = outcome.Granted l
without_reason_of (outcome.Busy why) = outcome.Busy none_yet
without_reason_of (outcome.Refused x) = outcome.Refused x

-- an attempt of the retry loop: the reason beside the outcome
abbrev pub trial_with : Run → Outcome → Reason → Attempted
trial_with r o why = record { run = r; outcome = o; why = why }

unfoldable pub reason_apart_of : Tried → Attempted
reason_apart_of k = trial_with k.run (without_reason_of k.outcome) (last_of none_yet k.outcome)

unfoldable pub attempted_of : Tried × (List ℕ × List ℕ) → Attempted × (List ℕ × List ℕ)
attempted_of k = (reason_apart_of k.0, k.1)

-- attempt number i and, if it was Busy, the pause after it
unfoldable pub again_of : ℕ → Setting → ℕ → List ℕ → ℕ → ℕ → Run → List ℕ → List ℕ → Attempted × (List ℕ × List ℕ)
again_of i e buckets registry binding bucket r t g =
    let o = attempted_of (attempt_of e buckets registry binding bucket r t g).seen in
    let p = (pause_of e i o.0.run o.1.0 o.1.1).seen in
    if is_busy o.0.outcome then (trial_with p.0 o.0.outcome o.0.why, p.1) else o
