-- A foreign step is another caller's call, and a call's log is a history of single calls.
-- ---- a call that takes or releases
use Rattle.std.specs.Prelude.{ℕ, ◌<◌, ◌≡◌, refl, List, [], ◌∷◌, ◌++◌, Bool, true, false, ◌&&◌, ltb, length}
use Rattle.std.proofs.Common.{sym, ap, ◌∙◌, subst, append-nil, append_assoc, arith, ltb-true, leb-false, lt-ltb, le-leb, eq-eqb}
use Rattle.std.proofs.lemmas.Bool.{lt-leb, not-false}
use Rattle.model.specs.Log.{Made, Event, by_caller, by_script, attempt_begun, boundary_run, yielded, spun, step_dropped, took, released, waiters_set, health_set, held_all_lem, added}
use Rattle.model.specs.Arena.{lease_of, hold_in, last_serial, serial_remains, spent_to, hold_of, bit_at, owner_at, is_free, is_live, is_in, state_at}
use Rattle.model.specs.Refusals.{first}
use Rattle.model.specs.Foreign.{step_take_of, step_release_of, step_waiters_of, step_health_of, step_of}
use Rattle.model.specs.Lock.{take_in, take_of}
use Rattle.model.specs.Checks.{cell_rules, lease_rules}
use Rattle.model.specs.Calls.{counts_of, acquire_of, try_acquire_of, drop_lease_of}
use Rattle.types.specs.declared.Answer.TheVariants.{Done, Granted}
use Rattle.types.specs.declared.Lease.{Lease}
use Rattle.types.specs.declared.State.{State}
use Rattle.types.specs.declared.State.TheVariants as state
use Rattle.types.specs.declared.Stepped.{Stepped}
use Rattle.types.specs.declared.Took.{Took}
use Rattle.choice.specs.Pick.{both}
use Rattle.history.specs.World.{World, world_of, cells, Free, Live, Legal, after_event, now, Lawful}
use Rattle.history.specs.Items.{Says, says, try_acquire, drop_lease, perform, foreign, Item, Course, next_item, run, Call, cold, foreign_step, history_of, call, noted, saying, entry_of}
use Rattle.history.specs.Statements.{answers, leaves, log_of}
use Rattle.history.specs.Callers.{ShapeFits, TakesAlike, TakeIsCall, ReleasesAlike, ReleaseIsCall, single, singles, replay, replays, BySingleCalls, HistoriesSingle, DoneSingly}
use Rattle.history.specs.Tests.{differ, free_words, is_free_state, if_cases}
use Rattle.history.specs.Events.{Fit, fit, fit_after, fits, good}
use Rattle.history.specs.Judged.{performed}

-- ---- a lone foreign step

-- what a foreign take comes to
pub data ForeignTake (w : World) (c : ℕ) : Made World → Type 0 where
  performed_take : Free w c → w.head.next < last_serial
      → ForeignTake w c (record { seen = after_event w (took by_script c w.head.next); log = took by_script c w.head.next ∷ [] })
  dropped_take : (Free w c → w.head.next < last_serial → ⊥) → ForeignTake w c (record { seen = w; log = step_dropped ∷ [] })

-- what a foreign release comes to: nobody's lease is protected between calls
pub data ForeignRelease (w : World) (c s : ℕ) : Made World → Type 0 where
  performed_release : Live w (hold_of c s) → ForeignRelease w c s (record { seen = after_event w (released by_script c s); log = released by_script c s ∷ [] })
  dropped_release : is_live w.head.next (cells w) w.table (hold_of c s) ≡ false → ForeignRelease w c s (record { seen = w; log = step_dropped ∷ [] })

-- one event, behind others: what is done, and the world that is left
pub record ComesTo (k : Course) (is : List Item) (es : List Event) (v : World) : Type 0 where
  pub did : history_of (run k is) ≡ history_of k ++ es
  pub left : (run k is).world ≡ v
