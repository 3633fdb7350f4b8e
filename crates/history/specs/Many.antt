-- `release_all`, multi-lock and its rollback: the leases they release are live and different, so releasing one leaves the others live.
use Prim.Native.Nat.{ℕ, zero, suc, ◌+◌, ◌≤◌, ◌<◌}
use Rattle.std.specs.Prelude.{◌≡◌}
use Rattle.std.proofs.Common.{sym, ◌∙◌, arith, length-append}
use Rattle.std.proofs.Math.Path.{ap, subst}
use mathlib.Core.List.{List, [], ◌∷◌, ◌++◌}
use Rattle.std.proofs.Math.Decide.{ℕ_discrete}
use Rattle.std.proofs.Math.ListN.{length, take, get_or-append}
use Rattle.std.proofs.Math.Seq.{take-length, get_or-append_seam}
use Rattle.model.specs.Log.{by_caller, released}
use Rattle.model.specs.Arena.{set_cell}
use Rattle.model.specs.Foreign.{boundary_of}
use Rattle.model.specs.Lock.{run_of, no_hold, hold_at, give_back_of, Locks, rollback_of, after_key, attempt_limit, none_yet, binding_at, bucket_at, retry_of, locks_of}
use Rattle.model.specs.Calls.{given}
use Rattle.types.specs.declared.Head.{Head}
use Rattle.types.specs.declared.Hold.{Hold}
use Rattle.types.specs.declared.Outcome.{Outcome}
use Rattle.types.specs.declared.Refusal.{Refusal}
use Rattle.types.specs.declared.Run.{Run}
use Rattle.laws.specs.Lists.{words_back}
use Rattle.history.specs.World.{World, Live}
use Rattle.history.specs.Statements.{HandsOver}
use Rattle.history.specs.Tests.{In, in_left, in_right, in_take, in_index}
use Rattle.history.specs.Events.{Fit, lives}
use Rattle.history.specs.Logs.{Kept}
use Rattle.history.specs.Steps.{world_at, of_run, of_tried, Won, won, none_yet_lem, no_more}

-- the first n of a list are live, and no two of them are the same
pub record Held (w : World) (n : ℕ) (ls : List Hold) : Type 0 where
  pub enough : n ≤ length ls
  pub all_live : (i : ℕ) → i < n → Live w (hold_at ls i)
  pub distinct : (i j : ℕ) → i < n → j < n → hold_at ls i ≡ hold_at ls j → i ≡ j

-- a lease that is none of the first n
abbrev pub Outside : List Hold → ℕ → Hold → Type 0
Outside ls n l = (i : ℕ) → i < n → l ≡ hold_at ls i → ⊥

abbrev pub of_locks : Head → Locks → World
of_locks h a = world_at h a.0.run.flow.next a.1.0 a.1.1.0

-- what multi-lock hands over is live
abbrev pub AllLive : Head → Locks → Type 0
AllLive h a = (l : Hold) → HandsOver a.0.answer a.1.1.1 l → Live (of_locks h a) l

-- the leases taken so far, all since `first` was the next serial
pub record Taken (w : World) (first : ℕ) (ls : List Hold) : Type 0 where
  pub are_held : Held w (length ls) ls
  pub young : (i : ℕ) → i < length ls → first ≤ (hold_at ls i).serial

-- a place of a list with one more
pub data Place (ls : List Hold) (l : Hold) (i : ℕ) : Type 0 where
  earlier : i < length ls → hold_at (ls ++ (l ∷ [])) i ≡ hold_at ls i → Place ls l i
  last : i ≡ length ls → hold_at (ls ++ (l ∷ [])) i ≡ l → Place ls l i
