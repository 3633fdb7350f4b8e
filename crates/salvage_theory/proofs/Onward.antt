-- Histories that go on from a salvage: where they begin, what is counted, and who is live or dead.
use Rattle.std.specs.Prelude.{ℕ, ◌<◌, ◌≡◌, refl, List, [], ◌∷◌, true, length, Ok, Err}
use Rattle.std.proofs.Math.Path.{sym, ap}
use Rattle.std.proofs.Common.{◌∙◌, subst, inl, inr, arith}
use Rattle.types.specs.Checks.{SalvageAnswer}
use Rattle.types.specs.declared.SalvageRefusal.TheVariants.{BadShape, ReportFull}
use Rattle.model.specs.Arena.{cells_of, hold_of, bit_at, owner_at, state_at, is_live}
use Rattle.model.specs.Log.{Event}
use Rattle.model.specs.Salvage.{Salvage, mended_table, mend_of, salvage_of}
use Rattle.types.specs.declared.Head.{Head}
use Rattle.types.specs.declared.Hold.{Hold}
use Rattle.types.specs.declared.State.TheVariants as state
use Rattle.laws.specs.Shape.{Shaped}
use Rattle.history.specs.World.{World, world_of, cells, Live, Spent, now, Lawful, bits}
use Rattle.history.specs.Items.{Item, call, foreign_step, preparation, preparation_over, salvage, salvage_over, Course, cold, history_of, salvaged_by, salvaging, next_item, run}
use Rattle.history.specs.Statements.{rescued, Begins, NoStart, Ledger}
use Rattle.history.specs.Tests.{differ, state_held, Alive, alive, live}
use Rattle.history.specs.Events.{Fit, fit, good}
use Rattle.history.proofs.Writers.{parted}
use Rattle.history.specs.Logs.{Kept}
use Rattle.history.proofs.Logs.{fit_now, spent_now}
use Rattle.history.proofs.Calls.{call_kept}
use Rattle.history.specs.Salvages.{Came, bad, full, done, came, StandsNow, came_state, now_whole, now_kept}
use Rattle.history.proofs.Courses.{Stretch, foreign_kept, begun, run_stretch, ledger, origin_kept, not_prepared, not_salvaged, refused_stays, salvage_refused_stays}
use Rattle.salvage_theory.specs.Statements.{answer_in, table_in, health_in, Salvages, own, other, GoesOnFrom, HeldAtStart, CountsFromSalvage, DeadStaysDead, Spares, AllSpare, DeadOverSalvages, UnconfirmedAlone, LiveOverSalvage}
use Rattle.salvage_theory.specs.Cells.{left_bits}
use Rattle.salvage_theory.specs.Came.{was_done}

-- ---- where they begin, and what is counted

pub held_at_start : HeldAtStart
held_at_start h t g report list e n d =
    let w = was_done h t g report list e n d in
    rw w.table_is (sym (left_bits h.next (cells_of h) t (now_whole h t w.shape)) ∙ sym w.cells)

-- the head is handed back as it was given
head_given : (h : Head) (t g report list : List ℕ) → (salvage_of h t g report list).0.head ≡ h
head_given h t g report list = go (came h t g report list)
  where
    go : Came h t g report list → (salvage_of h t g report list).0.head ≡ h
    go (bad f p) = ap (λ (m : Salvage). m.0.head) p
    go (full f i p) = ap (λ (m : Salvage). m.0.head) p
    go (done f i p) = ap (λ (m : Salvage). m.0.head) p

-- the item is a start, and the stretch begins in the salvaged world
starts : {w : World} {i : Item} {h : Head} {t g report list : List ℕ} {e n : ℕ} → Salvages w i h t g report list
    → answer_in (salvage_of h t g report list) ≡ Ok (e, n) → Begins w i
unfolding salvaging
starts {e = e} {n = n} (own h report list) d = (e, n, d)
starts {e = e} {n = n} (other h t g report list) d = (e, n, d)

-- and a start only where the salvage is done
begins_done : {w : World} {i : Item} {h : Head} {t g report list : List ℕ} → Salvages w i h t g report list → Begins w i
    → (e n : ℕ) × (answer_in (salvage_of h t g report list) ≡ Ok (e, n))
unfolding salvaging
begins_done (own h report list) b = b
begins_done (other h t g report list) b = b

starts_in : (k : Course) {i : Item} {h : Head} {t g report list : List ℕ} {e n : ℕ} → Salvages k.world i h t g report list
    → answer_in (salvage_of h t g report list) ≡ Ok (e, n) → next_item k i ≡ cold (rescued h t g report list)
unfolding next_item salvaging
starts_in k (own h report list) d =
    let m = salvage_of h k.world.table k.world.health report list in
    ap (λ (a : SalvageAnswer). salvaged_by a (world_of m.0.head (table_in m) (health_in m)) (world_of k.world.head (table_in m) (health_in m)) k) d
    ∙ ap (λ (x : Head). cold (world_of x (table_in m) (health_in m))) (head_given h k.world.table k.world.health report list)
starts_in k (other h t g report list) d =
    let m = salvage_of h t g report list in
    ap (λ (a : SalvageAnswer). salvaged_by a (world_of m.0.head (table_in m) (health_in m)) k.world k) d
    ∙ ap (λ (x : Head). cold (world_of x (table_in m) (health_in m))) (head_given h t g report list)

module _ (k : Course) (i : Item) (h : Head) (t g report list : List ℕ) (e n : ℕ) (items : List Item)
    (x : Salvages k.world i h t g report list) (d : answer_in (salvage_of h t g report list) ≡ Ok (e, n)) (on : NoStart (next_item k i) items) where
  abbrev end : Course
  end = run k (i ∷ items)

  pub begins_there : end.origin ≡ rescued h t g report list
  unfolding run
  begins_there = origin_kept (next_item k i) items on ∙ ap (λ (c : Course). c.origin) (starts_in k x d)

  pub kept : Ledger end
  unfolding run
  kept = ledger end (run_stretch (next_item k i) items (begun k i (starts x d)))

pub goes_on_from : GoesOnFrom
goes_on_from k i h t g report list e n items x d on =
    let o = begins_there k i h t g report list e n items x d on in
    let l = kept k i h t g report list e n items x d on in
    let log = history_of (run k (i ∷ items)) in
    (o, subst (λ (w : World). Lawful w log) o l.lawful, l.leads ∙ ap (λ (w : World). now w log) o)

pub counts_from_salvage : CountsFromSalvage
counts_from_salvage k i h t g report list e n items x d on =
    let o = begins_there k i h t g report list e n items x d on in
    let l = kept k i h t g report list e n items x d on in
    (omega (arith, l.issued, ap (λ (w : World). w.head.next) o), omega (arith, l.counted, ap (λ (w : World). bits (cells w) w.table) o, held_at_start h t g report list e n d))

pub dead_stays_dead : DeadStaysDead
dead_stays_dead k i h t g report list e n items x d on s low none before after p c v =
    let o = begins_there k i h t g report list e n items x d on in
    let l = kept k i h t g report list e n items x d on in
    let dead : Spent (rescued h t g report list) s = record { was_issued = low; owns_none = none } in
    (l.never s [] before after p (subst (λ (w : World). Spent w s) (sym o) dead)).owns_none c
    (subst (λ (w : World). Live (now w before) (hold_of c s)) (sym o) v)

pub unconfirmed_alone : UnconfirmedAlone
unconfirmed_alone k i h t g report list e n items x d on c s s' b between after v p =
    let o = begins_there k i h t g report list e n items x d on in
    let l = kept k i h t g report list e n items x d on in
    let w = (run k (i ∷ items)).origin in
    parted w c s s' b between after (fit (good w (l.whole [] (history_of (run k (i ∷ items))) refl))) (subst (λ (u : World). Live u (hold_of c s)) (sym o) v)
    (subst (Lawful w) p l.lawful)

-- ---- a lease, by the words of its cell: mended, they are the same, or were damaged and are zeros
module _ (h : Head) (t : List ℕ) (s : Shaped h (length t)) (l : Hold) where
  abbrev after : List ℕ
  after = mended_table h.next t

  -- live afterwards: so were the words before
  lived : is_live h.next (cells_of h) after l ≡ true → Alive h.next (cells_of h) t l
  lived v = let a = alive h.next (cells_of h) after l v in go a (came_state h t s l.cell a.in_range)
    where
      go : (a : Alive h.next (cells_of h) after l) → StandsNow h t s l.cell a.in_range → Alive h.next (cells_of h) t l
      go a (inl x) =
          record { in_range = a.in_range; bit_is = sym x.1 ∙ a.bit_is; owner_is = sym x.2 ∙ a.owner_is; low = a.low; high = a.high }
      go a (inr x) = absurd (omega (arith, x.1, a.bit_is))

  lives_on : is_live h.next (cells_of h) t l ≡ true → is_live h.next (cells_of h) after l ≡ true
  unfolding state_at
  lives_on v =
      let a = alive h.next (cells_of h) t l v in
      let q = now_kept h t s l.cell a.in_range (was_held a) in
      live h.next (cells_of h) after l
      (record { in_range = a.in_range; bit_is = q.0 ∙ a.bit_is; owner_is = q.1 ∙ a.owner_is; low = a.low; high = a.high })
    where
      was_held : Alive h.next (cells_of h) t l → state_at h.next t l.cell ≡ state.Damaged → ⊥
      was_held a z =
          let y = state_held h.next (bit_at t l.cell) (owner_at t l.cell) a.bit_is (omega arith) (omega arith) in
          differ (let q : state.Held (owner_at t l.cell) ≡ state.Damaged = sym y ∙ z in cc)

pub live_over_salvage : LiveOverSalvage
unfolding salvaging
live_over_salvage k report list l b =
    let w = k.world in
    let h = w.head in
    let m = salvage_of h w.table w.health report list in
    let done_so : answer_in m ≡ Ok (b.0, b.1) = b.2 in
    let s = was_done h w.table w.health report list b.0 b.1 done_so in
    let q = ap (λ (c : Course). c.world) (starts_in k (own h report list) done_so) in (
      λ v.
          live h.next (cells_of h) w.table l
          (lived h w.table s.shape l
          (subst (λ (u : List ℕ). is_live h.next (cells_of h) u l ≡ true) s.table_is (subst (λ (x : World). Live x l) q v))),
      λ v.
          subst (λ (x : World). Live x l) (sym q)
          (subst (λ (u : List ℕ). is_live h.next (cells_of h) u l ≡ true) (sym s.table_is) (lives_on h w.table s.shape l v)),
    )

-- ---- a dead serial, over further salvages

module _ (k : Course) (x : Stretch k) (s : ℕ) (p : Spent k.world s) where
  fits_now : Fit k.world
  fits_now = subst Fit (sym x.leads) (fit_now k.origin (history_of k) (fit x.good) x.lawful)

  -- over the events of an item
  dead_after : {P : Hold → Type 0} {v : World} {es : List Event} → Kept k.world P v es → Spent v s
  dead_after {P} {v} {es} m = subst (λ (w : World). Spent w s) (sym m.leads) (spent_now k.world es s fits_now m.lawful p)

  -- over an item that leaves the world as it was
  dead_still : {v : World} → v ≡ k.world → Spent v s
  dead_still e = subst (λ (w : World). Spent w s) (sym e) p

  -- over a salvage: refused, it leaves the world as it was; done, a lease that is live afterwards stood in the runs before
  dead_refused : {i : Item} {h : Head} {t g report list : List ℕ} → Salvages k.world i h t g report list → (Begins k.world i → ⊥)
      → Spent (next_item k i).world s
  unfolding next_item
  dead_refused (own h report list) n = dead_still (ap (λ (c : Course). c.world) (salvage_refused_stays k h report list n))
  dead_refused (other h t g report list) n = dead_still (ap (λ (c : Course). c.world) (not_salvaged _ _ _ k n))

  dead_rescued : (i : Item) (h : Head) (t g report list : List ℕ) → Salvages k.world i h t g report list
      → (Begins k.world i → (s < h.next) × ((c : ℕ) → Live (world_of h t g) (hold_of c s) → ⊥)) → Spent (next_item k i).world s
  unfolding mend_of
  dead_rescued i h t g report list x u = go (came h t g report list)
    where
      undone : (a : SalvageAnswer) → answer_in (salvage_of h t g report list) ≡ a → ((e n : ℕ) → a ≡ Ok (e, n) → ⊥) → Spent (next_item k i).world s
      undone a q n = dead_refused x (λ b. let d = begins_done x b in n d.0 d.1 (sym q ∙ d.2))

      go : Came h t g report list → Spent (next_item k i).world s
      go (bad f q) = undone (Err BadShape) (ap answer_in q) (λ e n z. differ cc)
      go (full f j q) = undone (Err ReportFull) (ap answer_in q) (λ e n z. differ cc)
      go (done f j q) =
          let d = ap answer_in q in
          let o = was_done h t g report list _ _ d in
          let y = u (starts x d) in
          subst (λ (c : Course). Spent c.world s) (sym (starts_in k x d))
          (record {
            was_issued = y.0;
            owns_none = λ c v.
                y.1 c
                (live h.next (cells_of h) t (hold_of c s)
                (lived h t o.shape (hold_of c s) (subst (λ (u : List ℕ). is_live h.next (cells_of h) u (hold_of c s) ≡ true) o.table_is v)));
          })

  -- under another head too, the arena's own runs have no cell of it
  not_there : (h : Head) (report list : List ℕ) → Begins k.world (salvage h report list) → (c : ℕ)
      → Live (world_of h k.world.table k.world.health) (hold_of c s) → ⊥
  unfolding salvaging
  not_there h report list b c v =
      let w = k.world in
      let o = was_done h w.table w.health report list b.0 b.1 b.2 in
      let a = alive h.next (cells_of h) w.table (hold_of c s) v in
      p.owns_none c
      (live w.head.next (cells w) w.table (hold_of c s)
      (record {
        in_range = omega (arith, a.in_range, o.shape.words_are, fits_now.shape.words_are);
        bit_is = a.bit_is;
        owner_is = a.owner_is;
        low = a.low;
        high = p.was_issued;
      }))

  dead_item : (i : Item) → Spares s k.world i → Spent (next_item k i).world s
  unfolding next_item
  dead_item (call c) u = dead_after (call_kept k.world c).kept
  dead_item (foreign_step kind place number) u = dead_after (foreign_kept k.world kind place number)
  dead_item (preparation headers buckets serial boot) u =
      dead_still (ap (λ (c : Course). c.world) (refused_stays k headers buckets serial boot u))
  dead_item (preparation_over headers buckets serial boot t g) u = dead_still (ap (λ (c : Course). c.world) (not_prepared _ _ _ k u))
  dead_item (salvage h report list) u =
      dead_rescued (salvage h report list) h k.world.table k.world.health report list (own h report list) (λ b. (u b, not_there h report list b))
  dead_item (salvage_over h t g report list) u = dead_rescued (salvage_over h t g report list) h t g report list (other h t g report list) u

dead_items : (k : Course) (is : List Item) (s : ℕ) → Stretch k → Spent k.world s → AllSpare s k is → Spent (run k is).world s
unfolding run
dead_items k [] s x p u = p
dead_items k (i ∷ is) s x p u = dead_items (next_item k i) is s (run_stretch k (i ∷ []) x) (dead_item k x s p i u.0) u.1

pub dead_over_salvages : DeadOverSalvages
unfolding run
dead_over_salvages rubbish start items d s more p u =
    dead_items (run (cold rubbish) (start ∷ items)) more s (run_stretch (next_item (cold rubbish) start) items (begun (cold rubbish) start d)) p u
