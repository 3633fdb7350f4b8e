-- What an event leaves of other cells, and that a legal event keeps the premise.
use Rattle.std.specs.Prelude.{ℕ, ◌+◌, ◌*◌, ◌≤◌, ◌<◌, ◌≡◌, refl, Bool, true, false, ◌&&◌, ◌≢◌, ltb, length}
use Rattle.std.proofs.Common.{sym, ap, ◌∙◌, arith, ltb-true}
use Rattle.model.specs.Log.{Event, attempt_begun, boundary_run, yielded, spun, step_dropped, took, released, waiters_set, health_set, held_all_lem, added}
use Rattle.model.specs.Arena.{cells_of, hold_of, bit_at, owner_at, set_cell, state_of, state_at, held_by, is_live}
use Rattle.laws.specs.Shape.{shaped}
use Rattle.laws.specs.Words.{length_set_cell, length_set_waiters, bit_set_other, owner_set_other, bit_set_waiters, owner_set_waiters}
use Rattle.history.specs.World.{World, world_of, cells, Legal, after_event, Whole as ArenaWhole}
use Rattle.history.specs.Tests.{Status, free, held, undamaged, state_free, state_held}
use Rattle.history.specs.Events.{older, status_put, same_arena}
use Rattle.swaps.specs.Steps.{Whole}

pub sound_arena : (w : World) → ArenaWhole w → Whole w
sound_arena w s = record { fits = s.fits; undamaged = s.undamaged }

-- the premise as facts about numbers
pub record Fine (w : World) : Type 0 where
  pub words : length w.table ≡ 3 * cells w
  pub low : 1 ≤ w.head.next
  pub status : (c : ℕ) → c < cells w → Status (bit_at w.table c) (owner_at w.table c) w.head.next

pub fine : (w : World) → Whole w → Fine w
unfolding state_at
fine w h =
    let s = shaped w.head (length w.table) h.fits in
    record {
      words = s.words_are;
      low = s.low;
      status = λ c l. undamaged w.head.next (bit_at w.table c) (owner_at w.table c) (h.undamaged c l);
    }

-- ---- what an event leaves of another cell's state

-- an event that neither takes nor releases this cell
abbrev pub Away : Event → ℕ → Type 0
Away attempt_begun c = Unit {0}
Away boundary_run c = Unit {0}
Away yielded c = Unit {0}
Away spun c = Unit {0}
Away step_dropped c = Unit {0}
Away (took a d s) c = c ≢ d
Away (released a d s) c = c ≢ d
Away (waiters_set d n) c = Unit {0}
Away (health_set i n) c = Unit {0}
Away (held_all_lem i) c = Unit {0}
Away (added i d x) c = Unit {0}

-- one serial more damages nothing and mends nothing, where nothing is damaged
later : (n b o : ℕ) → Status b o n → state_of (n + 1) b o ≡ state_of n b o
later n b o (free p q) = state_free (n + 1) b o p q ∙ sym (state_free n b o p q)
later n b o (held p q r) = state_held (n + 1) b o p q (omega arith) ∙ sym (state_held n b o p q r)

pub state_kept : (w : World) (e : Event) (c : ℕ) → Fine w → c < cells w → Away e c
    → state_at (after_event w e).head.next (after_event w e).table c ≡ state_at w.head.next w.table c
unfolding state_at
state_kept w attempt_begun c f l a = refl
state_kept w boundary_run c f l a = refl
state_kept w yielded c f l a = refl
state_kept w spun c f l a = refl
state_kept w step_dropped c f l a = refl
state_kept w (took x d s) c f l a =
    rw (bit_set_other w.table d 1 s c a, owner_set_other w.table d 1 s c a) (later w.head.next (bit_at w.table c) (owner_at w.table c) (f.status c l))
state_kept w (released x d s) c f l a = rw (bit_set_other w.table d 0 0 c a, owner_set_other w.table d 0 0 c a)
state_kept w (waiters_set d n) c f l a = rw (bit_set_waiters w.table d n c, owner_set_waiters w.table d n c)
state_kept w (health_set i n) c f l a = refl
state_kept w (held_all_lem i) c f l a = refl
state_kept w (added i d x) c f l a = refl

-- the head but for the next serial stays
same_cells : (w : World) (e : Event) → cells (after_event w e) ≡ cells w
same_cells w e = ap cells_of (same_arena w e)

-- a lease of a cell that the event leaves alone is live after it exactly if it was live before
pub live_kept : (w : World) (e : Event) (c s : ℕ) → Fine w → Away e c
    → is_live (after_event w e).head.next (cells (after_event w e)) (after_event w e).table (hold_of c s) ≡ is_live w.head.next (cells w) w.table (hold_of c s)
unfolding is_live
live_kept w e c s f a = rw (same_cells w e) (go (ltb c (cells w)) refl)
  where
    go : (b : Bool) → ltb c (cells w) ≡ b
        → (b && held_by (state_at (after_event w e).head.next (after_event w e).table c) s) ≡ (b && held_by (state_at w.head.next w.table c) s)
    go true l = rw (state_kept w e c f (ltb-true c (cells w) l) a)
    go false l = refl

-- ---- a step keeps the premise

pub at : (w : World) (f : Fine w) (c : ℕ) → c < cells w → 3 * c + 2 < length w.table
at w f c l = omega (arith, f.words)

-- a cell made free, in range or not
pub freed : (w : World) (c : ℕ) → Fine w → Fine (world_of w.head (set_cell w.table c 0 0) w.health)
freed w c f =
    record {
      words = length_set_cell w.table c 0 0 ∙ f.words;
      low = f.low;
      status = status_put (cells w) w.head.next w.table c 0 0 f.words (free refl refl) f.status;
    }

pub fine_on : (w : World) (e : Event) → Fine w → Legal w e → Fine (after_event w e)
fine_on w attempt_begun f l = f
fine_on w boundary_run f l = f
fine_on w yielded f l = f
fine_on w spun f l = f
fine_on w step_dropped f l = f
fine_on w (took a c s) f l =
    record {
      words = length_set_cell w.table c 1 s ∙ f.words;
      low = omega arith;
      status = status_put (cells w) (w.head.next + 1) w.table c 1 s f.words (held refl (omega (arith, f.low)) (omega arith)) (λ d k. older (f.status d k));
    }
fine_on w (released a c s) f l =
    freed w c f
fine_on w (waiters_set c n) f l =
    record {
      words = length_set_waiters w.table c n ∙ f.words;
      low = f.low;
      status = λ d k. simp (bit_set_waiters, owner_set_waiters) (f.status d k);
    }
fine_on w (health_set i n) f l = record { words = f.words; low = f.low; status = f.status }
fine_on w (held_all_lem m) f l = f
fine_on w (added m c v) f l = f
