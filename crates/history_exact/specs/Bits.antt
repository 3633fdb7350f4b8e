-- What a call leaves in a bit word, whatever the arena holds: what was there, or 0 or 1. The console's `trace` keeps a byte of a bit word over
-- a call, and stands on this (docs/changes/L11.md).
use Rattle.std.specs.Prelude.{ℕ, ◌*◌, ◌<◌, ◌≡◌, refl, List, [], ◌∷◌, length}
use Rattle.std.proofs.Common.{ap, ◌∙◌, arith}
use Rattle.std.proofs.Math.Decide.{ℕ_discrete}
use Rattle.model.specs.Log.{Event, attempt_begun, boundary_run, yielded, spun, step_dropped, took, released, waiters_set, health_set, held_all_lem, added}
use Rattle.model.specs.Arena.{bit_at, set_cell}
use Rattle.model.specs.Calls.{prepare_of}
use Rattle.laws.specs.Lists.{zero_bit}
use Rattle.laws.specs.Prepared.{Outcome, Came, was_done, was_refused, came}
use Rattle.laws.specs.Words.{length_set_cell, length_set_waiters, bit_set, bit_set_other, bit_set_waiters}
use Rattle.history.specs.World.{World, now, after_event}
use Rattle.history.specs.Items.{Build, Call, perform}
use Rattle.history.specs.Statements.{world_in}
use Rattle.history.proofs.Theorems.{lawful_always}

pub data Left (before after : ℕ) : Type 0 where
  as_it_was : after ≡ before → Left before after
  a_bit : after < 2 → Left before after

-- of every cell that lies in the lent table
abbrev pub BitsLeft : Build → Type 0
BitsLeft f = (w : World) (k : Call) (c : ℕ) → 3 * c < length w.table → Left (bit_at w.table c) (bit_at (world_in (f w k)).table c)

-- ---- one write, one event, a log

put : (t : List ℕ) (d b o c : ℕ) → b < 2 → 3 * c < length t → Left (bit_at t c) (bit_at (set_cell t d b o) c)
put t d b o c small l = go (ℕ_discrete c d)
  where
    go : Dec (c ≡ d) → Left (bit_at t c) (bit_at (set_cell t d b o) c)
    go (yes e) = a_bit (rw (← e, bit_set t c b o l) small)
    go (no e) = as_it_was (bit_set_other t d b o c e)

length_after : (w : World) (e : Event) → length (after_event w e).table ≡ length w.table
length_after w attempt_begun = refl
length_after w boundary_run = refl
length_after w yielded = refl
length_after w spun = refl
length_after w step_dropped = refl
length_after w (took a d s) = length_set_cell w.table d 1 s
length_after w (released a d s) = length_set_cell w.table d 0 0
length_after w (waiters_set d n) = length_set_waiters w.table d n
length_after w (health_set i n) = refl
length_after w (held_all_lem m) = refl
length_after w (added m c v) = refl

left_after : (w : World) (e : Event) (c : ℕ) → 3 * c < length w.table → Left (bit_at w.table c) (bit_at (after_event w e).table c)
left_after w attempt_begun c l = as_it_was refl
left_after w boundary_run c l = as_it_was refl
left_after w yielded c l = as_it_was refl
left_after w spun c l = as_it_was refl
left_after w step_dropped c l = as_it_was refl
left_after w (took a d s) c l = put w.table d 1 s c (omega arith) l
left_after w (released a d s) c l = put w.table d 0 0 c (omega arith) l
left_after w (waiters_set d n) c l = as_it_was (bit_set_waiters w.table d n c)
left_after w (health_set i n) c l = as_it_was refl
left_after w (held_all_lem i) c l = as_it_was refl
left_after w (added i d x) c l = as_it_was refl

then : {a b c : ℕ} → Left a b → Left b c → Left a c
then _ (a_bit l) = a_bit l
then (as_it_was p) (as_it_was q) = as_it_was (q ∙ p)
then (a_bit l) (as_it_was q) = a_bit (omega (arith, l, q))

left_now : (w : World) (es : List Event) (c : ℕ) → 3 * c < length w.table → Left (bit_at w.table c) (bit_at (now w es).table c)
left_now w [] c l = as_it_was refl
left_now w (e ∷ es) c l = then (left_after w e c l) (left_now (after_event w e) es c (omega (arith, l, length_after w e)))

pub bits_left : BitsLeft perform
bits_left w k c l = rw (lawful_always w k).1 (left_now w (perform w k).log c l)

-- ---- a preparation clears every bit, or leaves the table

abbrev pub BitsPrepared : Type 0
BitsPrepared =
    (headers buckets serial boot : ℕ) (t g : List ℕ) (c : ℕ) → Left (bit_at t c) (bit_at (prepare_of headers buckets serial boot t g).seen.1.0 c)

pub bits_prepared : BitsPrepared
bits_prepared headers buckets serial boot t g c = go (came headers buckets serial boot t g)
  where
    go : Came headers buckets serial boot t g → Left (bit_at t c) (bit_at (prepare_of headers buckets serial boot t g).seen.1.0 c)
    go (was_done e p) = a_bit (rw (p, zero_bit (3 * (headers * buckets)) c) (omega arith))
    go (was_refused e p) = as_it_was (ap (λ (o : Outcome). bit_at o.1.0 c) p)
