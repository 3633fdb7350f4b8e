-- Demand 2's own words (crate `history`, `World`) in the plain numbers of `Words`: a live lease, a whole arena, when an event is legal and what it makes of the
-- world. So the ledger of a history can be read without the definitions of crate `model`.
use Rattle.std.specs.Prelude.{ℕ, ◌≤◌, ◌<◌, ◌≡◌, refl, ◌↔◌, length}
use Rattle.std.proofs.Common.{ap, arith, eqb-true, eq-eqb}
use Rattle.model.specs.Log.{Event, attempt_begun, boundary_run, yielded, spun, step_dropped, took, released, waiters_set, health_set, held_all_lem, added}
use Rattle.model.specs.Arena.{hold_of, bit_at, owner_at, set_cell, set_waiters, state_at, health_fits}
use Rattle.types.specs.declared.State.{State}
use Rattle.types.specs.declared.State.TheVariants as state
use Rattle.history.specs.World.{World, Free, Live, Legal, after_event, Whole}
use Rattle.history.specs.Items.{Call, Clear, rules}
use Rattle.history.specs.Tests.{Stands, stands, is_free_lem, is_held_lem, is_damaged, state_free, free_words}
use Rattle.pinned.specs.Words.{Shape, IsFree, IsDamaged, IsLive, size, taken, freed, with_waiters, with_health}
use Rattle.pinned.specs.Checks.{checks}
use Rattle.pinned.specs.Statements.{Passes}
use Rattle.pinned.proofs.Decided.{clear_passed, passed_clear, matched, shape_there, shape_back, owned, owning}
use Rattle.pinned.specs.Read.{WholePlainly, MayHappen, made_by}

pub live_is : (w : World) (c s : ℕ) → Live w (hold_of c s) ↔ IsLive w c s
live_is w c s = (owned w c s, owning w c s)

free_is : (w : World) (c : ℕ) → Free w c ↔ ((c < size w) × IsFree w c)
unfolding bit_at owner_at state_at
free_is w c = (
  (λ f. let e = free_words w.head.next w.table c f.1 in (f.0, (e.0, e.1))),
  λ f. (f.0, state_free w.head.next (bit_at w.table c) (owner_at w.table c) f.1.0 f.1.1),
)

damaged_is : (w : World) (c : ℕ) → (state_at w.head.next w.table c ≡ state.Damaged) ↔ IsDamaged w c
unfolding bit_at owner_at state_at
damaged_is w c = go (stands w.head.next (bit_at w.table c) (owner_at w.table c))
  where
    go : {x : State} → Stands w.head.next (bit_at w.table c) (owner_at w.table c) x → (x ≡ state.Damaged) ↔ IsDamaged w c
    go (is_free_lem p q) = ((λ e. let z : ◌≡◌ {A = ℕ} 0 1 = cc in absurd (omega arith)), λ d. absurd (d.0 (p, q)))
    go (is_held_lem p q r) = ((λ e. let z : ◌≡◌ {A = ℕ} 0 1 = cc in absurd (omega arith)), λ d. absurd (d.1 (p, q, r)))
    go (is_damaged f g) = ((λ e. ((λ p. f p.0 p.1), (λ p. g p.0 p.1 p.2))), λ d. refl)

pub whole_is : (w : World) → Whole w ↔ WholePlainly w
unfolding health_fits
whole_is w = (
  (λ k. record {
    shape = shape_there w.head (length w.table) k.fits;
    bytes = eqb-true (length w.health) w.head.headers k.healthy;
    undamaged = λ c l d. k.undamaged c l ((damaged_is w c).1 d);
  }),
  λ k. record {
    fits = shape_back w.head (length w.table) k.shape;
    healthy = eq-eqb (length w.health) w.head.headers k.bytes;
    undamaged = λ c l d. k.undamaged c l ((damaged_is w c).0 d);
  },
)

-- no check of a call applies, by the definitions' tests and by the conditions of `Checks`: what theorems ask of a call that passes
pub passes_is : (w : World) (k : Call) → Clear (rules w k) ↔ Passes w k
passes_is w k = (clear_passed (rules w k) (checks w k) (matched w k), passed_clear (rules w k) (checks w k) (matched w k))

pub legal_is : (w : World) (e : Event) → Legal w e ↔ MayHappen w e
legal_is w attempt_begun = ((λ l. l), λ l. l)
legal_is w boundary_run = ((λ l. l), λ l. l)
legal_is w yielded = ((λ l. l), λ l. l)
legal_is w spun = ((λ l. l), λ l. l)
legal_is w step_dropped = ((λ l. l), λ l. l)
legal_is w (took a c s) = ((λ l. ((free_is w c).0 l.0, l.1)), λ l. ((free_is w c).1 l.0, l.1))
legal_is w (released a c s) = live_is w c s
legal_is w (waiters_set c n) = ((λ l. l), λ l. l)
legal_is w (health_set i n) = ((λ l. l), λ l. l)
legal_is w (held_all_lem m) = ((λ l. l), λ l. l)
legal_is w (added m c v) = ((λ l. l), λ l. l)

pub leads_to : (w : World) (e : Event) → MayHappen w e → after_event w e ≡ made_by w e
unfolding set_cell set_waiters
leads_to w attempt_begun l = refl
leads_to w boundary_run l = refl
leads_to w yielded l = refl
leads_to w spun l = refl
leads_to w step_dropped l = refl
leads_to w (took a c s) l = ap (λ (x : ℕ). after_event w (took a c x)) l.1.0
leads_to w (released a c s) l = refl
leads_to w (waiters_set c n) l = refl
leads_to w (health_set i n) l = refl
leads_to w (held_all_lem m) l = refl
leads_to w (added m c v) l = refl
