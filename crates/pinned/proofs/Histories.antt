-- Whatever answers the calls, makes the lone steps, prepares and salvages, as is said of each, has the history of ours, item by item.
use Prim.Native.Nat.{ℕ}
use Rattle.std.specs.Prelude.{◌≡◌}
use Rattle.std.proofs.Math.Path.{refl, ap}
use Rattle.std.proofs.Common.{◌∙◌}
use mathlib.Core.List.{List, [], ◌∷◌}
use Rattle.model.specs.Log.{Made}
use Rattle.types.specs.declared.Answer.TheVariants.{Done}
use Rattle.types.specs.declared.Reply.{Reply}
use Rattle.types.specs.declared.SalvageReply.{SalvageReply}
use Rattle.history.specs.World.{World, world_of}
use Rattle.history.specs.Items.{Build, Stepper, Says, Item, call, foreign_step, preparation, preparation_over, salvage, salvage_over, Course, noted, saying, preparing, prepared_by, salvaging, salvaged_by, next_item, run}
use Rattle.pinned.specs.Statements.{Meets, StepsAlone, Preparer, PreparesArena, Salvager, SalvagesArena}
use Rattle.pinned.proofs.AllMet.{no_other_build}
use Rattle.pinned.proofs.Beside.{no_other_step, no_other_preparer}
use Rattle.pinned.proofs.Salvaged.{no_other_salvage}

module _ (b : Build) (f : Stepper) (p : Preparer) (s : Salvager) where
  abbrev pub prepares_to : Made (Reply × (List ℕ × List ℕ)) → World
  prepares_to m = let o = m.seen in world_of o.0.head o.1.0 o.1.1

  abbrev pub salvages_to : SalvageReply × (List ℕ × (List ℕ × (List ℕ × List ℕ))) → World
  salvages_to o = world_of o.0.head o.1.0 o.1.1.0

  abbrev pub next_by : Course → Item → Course
  next_by k (call c) = let m = b k.world c in noted k m.log m.seen.1 m.seen.0
  next_by k (foreign_step kind place number) = let m = f k.world kind place number in noted k m.log (saying Done) m.seen
  next_by k (preparation headers buckets serial boot) =
      let m = p headers buckets serial boot k.world.table k.world.health in
      prepared_by m.seen.0.answer (prepares_to m) (world_of k.world.head (prepares_to m).table (prepares_to m).health) k
  next_by k (preparation_over headers buckets serial boot t g) =
      let m = p headers buckets serial boot t g in
      prepared_by m.seen.0.answer (prepares_to m) k.world k
  next_by k (salvage paper report list) =
      let o = s paper k.world.table k.world.health report list in
      salvaged_by o.0.answer (salvages_to o) (world_of k.world.head (salvages_to o).table (salvages_to o).health) k
  next_by k (salvage_over paper t g report list) =
      let o = s paper t g report list in
      salvaged_by o.0.answer (salvages_to o) k.world k

  unfoldable pub run_by : Course → List Item → Course
  run_by k [] = k
  run_by k (i ∷ is) = run_by (next_by k i) is

  module _ (meeting : Meets b) (stepping : StepsAlone f) (preparing_so : PreparesArena p) (salvaging_so : SalvagesArena s) where
    next_same : (k : Course) (i : Item) → next_by k i ≡ next_item k i
    unfolding next_item preparing salvaging
    next_same k (call c) = ap (λ (m : Made (World × Says)). noted k m.log m.seen.1 m.seen.0) (no_other_build b meeting k.world c)
    next_same k (foreign_step kind place number) = ap (λ (m : Made World). noted k m.log (saying Done) m.seen) (no_other_step f stepping k.world kind place number)
    next_same k (preparation headers buckets serial boot) =
        ap (λ (m : Made (Reply × (List ℕ × List ℕ))). prepared_by m.seen.0.answer (prepares_to m) (world_of k.world.head (prepares_to m).table (prepares_to m).health) k)
        (no_other_preparer p preparing_so headers buckets serial boot k.world.table k.world.health)
    next_same k (preparation_over headers buckets serial boot t g) =
        ap (λ (m : Made (Reply × (List ℕ × List ℕ))). prepared_by m.seen.0.answer (prepares_to m) k.world k) (no_other_preparer p preparing_so headers buckets serial boot t g)
    next_same k (salvage paper report list) =
        ap (λ (o : SalvageReply × (List ℕ × (List ℕ × (List ℕ × List ℕ)))). salvaged_by o.0.answer (salvages_to o) (world_of k.world.head (salvages_to o).table (salvages_to o).health) k)
        (no_other_salvage s salvaging_so paper k.world.table k.world.health report list)
    next_same k (salvage_over paper t g report list) =
        ap (λ (o : SalvageReply × (List ℕ × (List ℕ × (List ℕ × List ℕ)))). salvaged_by o.0.answer (salvages_to o) k.world k) (no_other_salvage s salvaging_so paper t g report list)

    pub same_history : (k : Course) (is : List Item) → run_by k is ≡ run k is
    unfolding run_by run
    same_history k [] = refl
    same_history k (i ∷ is) = same_history (next_by k i) is ∙ ap (λ (c : Course). run c is) (next_same k i)
