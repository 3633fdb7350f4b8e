-- What an item of a history keeps of a head that fits: it fits again.
use Rattle.std.specs.Prelude.{ℕ, ◌+◌, ◌*◌, ◌≤◌, ◌≡◌, refl, List, [], ◌∷◌, true, length}
use Rattle.std.proofs.Common.{sym, ◌∙◌, subst, arith}
use Rattle.model.specs.Arena.{head_of, head_fits, shape_fits, health_fits, cells_of}
use Rattle.model.specs.Calls.{prepare_of}
use Rattle.model.specs.Salvage.{Salvage, salvage_of}
use Rattle.model.specs.Log.{Event, attempt_begun, boundary_run, yielded, spun, step_dropped, took, released, waiters_set, health_set, held_all_lem, added}
use Rattle.types.specs.declared.Head.{Head}
use Rattle.choice.specs.Pick.{both}
use Rattle.laws.specs.Shape.{Shaped, shaped}
use Rattle.laws.specs.Prepared.{Outcome, Came, was_done, was_refused, came}
use Rattle.book_rules.proofs.Fine.{head_alone, shape_head}
use Rattle.history.specs.World.{World, world_of, Legal, after_event, now, Lawful}
use Rattle.history.specs.Items.{Item, call, foreign_step, preparation, preparation_over, salvage, salvage_over, Course, perform, foreign, prepared_by, preparing, salvaged_by, salvaging, next_item}
use Rattle.history.specs.Events.{fits}
use Rattle.history.specs.Salvages.{Came as SalvagesCame, bad, full, done, came as salvage_came}
use Rattle.history.proofs.Courses.{foreign_kept}
use Rattle.history.proofs.Theorems.{lawful_always}

abbrev pub Fits : Head → Type 0
Fits h = head_fits h ≡ true

shaped_head : (h : Head) → Fits h → Shaped h (3 * cells_of h)
shaped_head h e = shaped h (3 * cells_of h) (sym (head_alone h) ∙ e)

-- one take more: a serial remained
spent_fits : (h : Head) → Fits h → h.next + 1 ≤ 4_294_967_295 → Fits (head_of h.headers h.buckets (h.next + 1) h.boot)
spent_fits h e l =
    let s = shaped_head h e in
    let k = head_of h.headers h.buckets (h.next + 1) h.boot in
    head_alone k
    ∙ fits k (3 * cells_of k)
    (record {
      some_headers = s.some_headers;
      few_headers = s.few_headers;
      some_buckets = s.some_buckets;
      few_buckets = s.few_buckets;
      few_cells = s.few_cells;
      low = omega arith;
      high = l;
      words_are = refl;
    })

fits_after : (w : World) (e : Event) → Legal w e → Fits w.head → Fits (after_event w e).head
fits_after w attempt_begun g f = f
fits_after w boundary_run g f = f
fits_after w yielded g f = f
fits_after w spun g f = f
fits_after w step_dropped g f = f
fits_after w (took a c s) g f = spent_fits w.head f (omega (arith, g.1.0, g.1.1))
fits_after w (released a c s) g f = f
fits_after w (waiters_set c n) g f = f
fits_after w (health_set i n) g f = f
fits_after w (held_all_lem m) g f = f
fits_after w (added m c v) g f = f

now_fits : (w : World) (es : List Event) → Lawful w es → Fits w.head → Fits (now w es).head
now_fits w [] g f = f
now_fits w (e ∷ es) g f = now_fits (after_event w e) es g.1 (fits_after w e g.0 f)

-- a preparation: done, its head fits; refused, the head before it stays
module _ (headers buckets serial boot : ℕ) (t g : List ℕ) (v : World) (k : Course) where
  preparation_fits : Fits v.head
      → let p = preparing headers buckets serial boot t g in Fits (prepared_by p.0 p.1 v k).world.head
  unfolding preparing
  preparation_fits f = go (came headers buckets serial boot t g)
    where
      After : Outcome → Type 0
      After o = Fits (prepared_by o.0.answer (world_of o.0.head o.1.0 o.1.1) v k).world.head

      go : Came headers buckets serial boot t g → After (prepare_of headers buckets serial boot t g).seen
      go (was_done e p) =
          let h = head_of headers buckets serial boot in
          subst After (sym p) (shape_head h (length t) (both (shape_fits h (length t)) (health_fits h (length g)) e).0)
      go (was_refused e p) = subst After (sym p) f

-- a salvage the same
module _ (paper : Head) (t g report list : List ℕ) (v : World) (k : Course) where
  salvage_fits : Fits v.head
      → let p = salvaging paper t g report list in Fits (salvaged_by p.0 p.1 v k).world.head
  unfolding salvaging
  salvage_fits f = go (salvage_came paper t g report list)
    where
      After : Salvage → Type 0
      After o = Fits (salvaged_by o.0.answer (world_of o.0.head o.1.0 o.1.1.0) v k).world.head

      go : SalvagesCame paper t g report list → After (salvage_of paper t g report list)
      go (bad e p) = subst After (sym p) f
      go (full e i p) = subst After (sym p) f
      go (done e i p) =
          subst After (sym p) (shape_head paper (length t) (both (shape_fits paper (length t)) (health_fits paper (length g)) e).0)

pub item_fits : (k : Course) (i : Item) → Fits k.world.head → Fits (next_item k i).world.head
unfolding next_item
item_fits k (call c) f =
    let m = lawful_always k.world c in
    subst (λ (w : World). Fits w.head) (sym m.1) (now_fits k.world (perform k.world c).log m.0 f)
item_fits k (foreign_step kind place number) f =
    let m = foreign_kept k.world kind place number in
    subst (λ (w : World). Fits w.head) (sym m.leads) (now_fits k.world (foreign k.world kind place number).log m.lawful f)
item_fits k (preparation headers buckets serial boot) f = preparation_fits headers buckets serial boot k.world.table k.world.health _ k f
item_fits k (preparation_over headers buckets serial boot t g) f = preparation_fits headers buckets serial boot t g k.world k f
item_fits k (salvage paper report list) f = salvage_fits paper k.world.table k.world.health report list _ k f
item_fits k (salvage_over paper t g report list) f = salvage_fits paper t g report list k.world k f
