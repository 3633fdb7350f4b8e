-- Document 02, L6, as statements about a salvage: when it refuses, what its report and its list hold, what it leaves; and about histories that
-- go on from one.
use Rattle.std.specs.Prelude.{ℕ, ◌+◌, ◌*◌, ◌≤◌, ◌<◌, ◌≡◌, List, [], ◌∷◌, ◌++◌, Bool, true, false, ◌&&◌, ◌↔◌, ◌⊎◌, ◌≢◌, length, get_or, take, drop, set, Ok, Err}
use Rattle.types.specs.Checks.{SalvageAnswer}
use Rattle.types.specs.declared.SalvageRefusal.TheVariants.{BadShape, ReportFull}
use Rattle.model.specs.Arena.{cells_of, lease_of, hold_of, bit_at, owner_at, waiters_at, state_at, shape_fits, health_fits}
use Rattle.model.specs.Salvage.{Salvage, salvage_of, mended_table, mended_health, left_held, over_of, concluded, unsalvaged}
use Rattle.types.specs.declared.Answer.TheVariants as answer
use Rattle.types.specs.declared.Head.{Head}
use Rattle.types.specs.declared.State.TheVariants as state
use Rattle.model.specs.Log.{Actor, Event, took, released}
use Rattle.types.specs.declared.Hold.{Hold}
use Rattle.history.specs.World.{World, world_of, cells, Free, Live, Apart, Sound, now, Lawful, Spent, bits, number_of_lem, takes, releases}
use Rattle.history.specs.Items.{drop_lease, Item, call, foreign_step, preparation, preparation_over, salvage, salvage_over, Course, history_of, next_item, run}
use Rattle.history.specs.Statements.{answers, leaves, rescued, Begins, NoStart, Through}
use Rattle.history.specs.Callers.{ShapeFits}
use Rattle.laws.specs.Salvage.{differing}

-- ---- what a salvage gives: its answer, and the lent runs after it

abbrev pub answer_in : Salvage → SalvageAnswer
answer_in m = m.0.answer

abbrev pub table_in : Salvage → List ℕ
table_in m = m.1.0

abbrev pub health_in : Salvage → List ℕ
health_in m = m.1.1.0

abbrev pub report_in : Salvage → List ℕ
report_in m = m.1.1.1.0

abbrev pub list_in : Salvage → List ℕ
list_in m = m.1.1.1.1

-- the head and both lengths keep the arena's rules
abbrev pub fits : Head → List ℕ → List ℕ → Bool
fits h t g = shape_fits h (length t) && health_fits h (length g)

-- a statement about every salvage
abbrev pub Always : (Head → List ℕ → List ℕ → List ℕ → List ℕ → Type 0) → Type 0
Always P = (h : Head) (t g report list : List ℕ) → P h t g report list

-- a statement about every salvage that is done, with e entries and n cells left held
abbrev pub WhenDone : (Head → List ℕ → List ℕ → List ℕ → List ℕ → (e n : ℕ) → Type 0) → Type 0
WhenDone P =
    (h : Head) (t g report list : List ℕ) (e n : ℕ) → answer_in (salvage_of h t g report list) ≡ Ok (e, n) → P h t g report list e n

-- ---- refusals

-- "After BadShape": exactly if a rule of the arena is broken, and then nothing is changed
abbrev pub BadShapeExactly : Type 0
BadShapeExactly =
    Always (λ h t g report list.
    ((answer_in (salvage_of h t g report list) ≡ Err BadShape) ↔ (fits h t g ≡ false))
    × (answer_in (salvage_of h t g report list) ≡ Err BadShape → salvage_of h t g report list ≡ unsalvaged h t g report list (Err BadShape)))

-- "if the report or that list cannot hold all its entries": the report has not the words for them, or the list
abbrev pub NoRoom : Head → List ℕ → List ℕ → List ℕ → List ℕ → Type 0
NoRoom h t g report list =
    (length report < 3 * differing (t ++ g) (mended_table h.next t ++ mended_health g))
    ⊎ (length list < length (left_held h.next (cells_of h) t))

-- "refuse ReportFull before the first change .. and only then"
abbrev pub ReportFullExactly : Type 0
ReportFullExactly =
    Always (λ h t g report list.
    ((answer_in (salvage_of h t g report list) ≡ Err ReportFull) ↔ ((fits h t g ≡ true) × NoRoom h t g report list))
    × (answer_in (salvage_of h t g report list) ≡ Err ReportFull → salvage_of h t g report list ≡ unsalvaged h t g report list (Err ReportFull)))

-- ---- the report

-- entry k of a report: place, old, new
abbrev pub place_in : List ℕ → ℕ → ℕ
place_in words k = get_or words (3 * k) 0

abbrev pub old_in : List ℕ → ℕ → ℕ
old_in words k = get_or words (3 * k + 1) 0

abbrev pub new_in : List ℕ → ℕ → ℕ
new_in words k = get_or words (3 * k + 2) 0

-- "A lent report lists each word or byte changed: place, old, new, in rising order": of an arena's words before and after, and of the report
-- before and after, which has e entries
pub record Reports (old new before after : List ℕ) (e : ℕ) : Type 0 where
  pub room : 3 * e ≤ length before
  pub long : length after ≡ length before
  pub rising : (j k : ℕ) → j < k → k < e → place_in after j < place_in after k
  -- what is listed has changed
  pub told : (k : ℕ) → k < e
      → (place_in after k < length old) × (old_in after k ≡ get_or old (place_in after k) 0)
      × (new_in after k ≡ get_or new (place_in after k) 0) × (old_in after k ≢ new_in after k)
  -- and what has changed is listed
  pub listed : (p : ℕ) → p < length old → get_or old p 0 ≢ get_or new p 0 → (k : ℕ) × (k < e) × (place_in after k ≡ p)
  pub behind : drop (3 * e) after ≡ drop (3 * e) before

-- "health places counting on from the table's": the arena's words are the table's, then the health's
abbrev pub ReportIs : Type 0
ReportIs =
    WhenDone (λ h t g report list e n.
    let m = salvage_of h t g report list in
    Reports (t ++ g) (table_in m ++ health_in m) report (report_in m) e
    × (length t ≡ 3 * cells_of h) × (length (table_in m) ≡ 3 * cells_of h))

-- a place below 3 x H x B is a table word's, and the i-th behind them is health byte i
abbrev pub PlacesAre : Type 0
PlacesAre =
    WhenDone (λ h t g report list e n.
    let m = salvage_of h t g report list in
    ((p : ℕ) → p < 3 * cells_of h → (get_or (t ++ g) p 0 ≡ get_or t p 0) × (get_or (table_in m ++ health_in m) p 0 ≡ get_or (table_in m) p 0))
    × ((i : ℕ) → (get_or (t ++ g) (3 * cells_of h + i) 0 ≡ get_or g i 0) × (get_or (table_in m ++ health_in m) (3 * cells_of h + i) 0 ≡ get_or (health_in m) i 0)))

-- the words before the changes: each entry's old word at its place again
unfoldable pub undone : List ℕ → List ℕ → List ℕ
undone [] run = run
undone (place ∷ []) run = run
undone (place ∷ old ∷ []) run = run
undone (place ∷ old ∷ new ∷ words) run = set (undone words run) place old

-- the table and the health before a salvage, from those after it and the entries of its report
unfoldable pub undone_of : List ℕ → List ℕ → List ℕ → List ℕ × List ℕ
undone_of entries t g = (take (length t) (undone entries (t ++ g)), drop (length t) (undone entries (t ++ g)))

abbrev pub Rebuilds : Type 0
Rebuilds =
    WhenDone (λ h t g report list e n.
    let m = salvage_of h t g report list in
    undone_of (take (3 * e) (report_in m)) (table_in m) (health_in m) ≡ (t, g))

-- ---- the list

-- cell c is held: by the owner that stands there
abbrev pub HeldIn : Head → List ℕ → ℕ → Type 0
HeldIn h t c = state_at h.next t c ≡ state.Held (owner_at t c)

-- "Cells left held are listed apart as unconfirmed.": of the table after, and of the list before and after, which has n cells
pub record Lists (h : Head) (t before after : List ℕ) (n : ℕ) : Type 0 where
  pub room : n ≤ length before
  pub long : length after ≡ length before
  pub rising : (j k : ℕ) → j < k → k < n → get_or after j 0 < get_or after k 0
  pub held : (k : ℕ) → k < n → (get_or after k 0 < cells_of h) × HeldIn h t (get_or after k 0)
  pub listed : (c : ℕ) → c < cells_of h → HeldIn h t c → (k : ℕ) × (k < n) × (get_or after k 0 ≡ c)
  pub behind : drop n after ≡ drop n before

abbrev pub UnconfirmedIs : Type 0
UnconfirmedIs =
    WhenDone (λ h t g report list e n.
    let m = salvage_of h t g report list in
    Lists h (table_in m) list (list_in m) n)

-- ---- what is left

pub record Mends (h : Head) (t g u v : List ℕ) : Type 0 where
  pub same_words : length u ≡ length t
  pub same_bytes : length v ≡ length g
  -- no cell is damaged, and an owner is a serial that was issued
  pub whole : (c : ℕ) → c < cells_of h → state_at h.next u c ≡ state.Damaged → ⊥
  pub owners : (c : ℕ) → c < cells_of h → bit_at u c ≡ 1 → (1 ≤ owner_at u c) × (owner_at u c < h.next)
  -- "damaged cells become free"
  pub freed : (c : ℕ) → c < cells_of h → state_at h.next t c ≡ state.Damaged → state_at h.next u c ≡ state.Free
  -- "all waiters become 0"
  pub unwaited : (c : ℕ) → c < cells_of h → waiters_at u c ≡ 0
  -- "and sound cells keep their bit and owner"
  pub sound_kept : (c : ℕ) → c < cells_of h → (state_at h.next t c ≡ state.Damaged → ⊥) → (bit_at u c ≡ bit_at t c) × (owner_at u c ≡ owner_at t c)
  -- "health bytes other than 0 and 1 become 1"
  pub bytes_kept : (i : ℕ) → i < length g → get_or g i 0 ≤ 1 → get_or v i 0 ≡ get_or g i 0
  pub bytes_mended : (i : ℕ) → i < length g → 2 ≤ get_or g i 0 → get_or v i 0 ≡ 1
  pub bytes_few : (i : ℕ) → i < length v → get_or v i 0 ≤ 1

abbrev pub Mended : Type 0
Mended =
    WhenDone (λ h t g report list e n.
    let m = salvage_of h t g report list in
    Mends h t g (table_in m) (health_in m))

-- "A second salvage reports no change.": with the same head and room for the same cells, whatever report and list it is lent
abbrev pub Twice : Type 0
Twice =
    WhenDone (λ h t g report list e n.
    let m = salvage_of h t g report list in
    (report' list' : List ℕ) → n ≤ length list'
    → salvage_of h (table_in m) (health_in m) report' list'
    ≡ (concluded h (Ok (0, n)), (table_in m, (health_in m, (report', over_of (take n (list_in m)) list')))))

-- document 02, L8: "Salvage keeps the boot number of the head it was given.", done or refused
abbrev pub KeepsBoot : Type 0
KeepsBoot = Always (λ h t g report list. (salvage_of h t g report list).0.head.boot ≡ h.boot)

-- ---- no serial owns two cells

-- the owners of the n cells of a list are pairwise different
abbrev pub OwnersDiffer : List ℕ → List ℕ → ℕ → Type 0
OwnersDiffer t list n = (j k : ℕ) → j < n → k < n → owner_at t (get_or list j 0) ≡ owner_at t (get_or list k 0) → j ≡ k

-- the salvaged arena is sound exactly if they are: "sound cells keep their bit and owner", so that two cells that RAM left with one owner
-- keep it
abbrev pub ApartExactly : Type 0
ApartExactly =
    WhenDone (λ h t g report list e n.
    let m = salvage_of h t g report list in
    Sound (world_of h (table_in m) (health_in m)) ↔ OwnersDiffer (table_in m) (list_in m) n)

-- where two cells have one owner, `drop_lease` of one is done, frees that cell, and leaves the other's lease live
abbrev pub DoubledApart : Type 0
DoubledApart =
    (w : World) (c d s : ℕ) → ShapeFits w → c ≢ d → Live w (hold_of c s) → Live w (hold_of d s)
    → (answers w (drop_lease (lease_of c s w.head.boot)) ≡ answer.Done)
    × Free (leaves w (drop_lease (lease_of c s w.head.boot))) c
    × Live (leaves w (drop_lease (lease_of c s w.head.boot))) (hold_of d s)

-- ---- histories that go on from a salvage: "Demand 2 now starts from a prepared or a salvaged table."

-- the item is a salvage with this head, of the arena's own runs or of what the dip left in their place
pub data Salvages (w : World) : Item → Head → List ℕ → List ℕ → List ℕ → List ℕ → Type 0 where
  own : (h : Head) (report list : List ℕ) → Salvages w (salvage h report list) h w.table w.health report list
  other : (h : Head) (t g report list : List ℕ) → Salvages w (salvage_over h t g report list) h t g report list

-- what holds of every history through a salvage that is done, with n cells left held: whatever came before it, and over any items behind it up
-- to the next start
abbrev pub FromSalvage : (Head → List ℕ → List ℕ → List ℕ → List ℕ → (n : ℕ) → Course → Type 0) → Type 0
FromSalvage P =
    (k : Course) (i : Item) (h : Head) (t g report list : List ℕ) (e n : ℕ) (items : List Item)
    → Salvages k.world i h t g report list → answer_in (salvage_of h t g report list) ≡ Ok (e, n) → NoStart (next_item k i) items
    → P h t g report list n (run k (i ∷ items))

-- the course is that of the salvaged world: it begins there, every event since was legal in the state in which it happened, and the world now is
-- what the events make of it
abbrev pub GoesOnFrom : Type 0
GoesOnFrom =
    FromSalvage (λ h t g report list n d.
    (d.origin ≡ rescued h t g report list)
    × Lawful (rescued h t g report list) (history_of d)
    × (d.world ≡ now (rescued h t g report list) (history_of d)))

-- and the head in force has the boot number on the paper: a lease of that boot is no stale one
abbrev pub BootFromSalvage : Type 0
BootFromSalvage = FromSalvage (λ h t g report list n d. d.world.head.boot ≡ h.boot)

-- the cells held at the start are those that were listed
abbrev pub HeldAtStart : Type 0
HeldAtStart = WhenDone (λ h t g report list e n. bits (cells_of h) (table_in (salvage_of h t g report list)) ≡ n)

-- "the count rule reads: next minus the given next = takes since; cells held at the start plus takes minus releases = cells with bit 1"
abbrev pub CountsFromSalvage : Type 0
CountsFromSalvage =
    FromSalvage (λ h t g report list n d.
    (d.world.head.next ≡ h.next + number_of_lem takes (history_of d))
    × (bits (cells d.world) d.world.table + number_of_lem releases (history_of d) ≡ n + number_of_lem takes (history_of d)))

-- "a dead serial below next stays dead from there on": at every point of the log since the salvage
abbrev pub DeadStaysDead : Type 0
DeadStaysDead =
    FromSalvage (λ h t g report list n d.
    (s : ℕ) → s < h.next → ((c : ℕ) → Live (rescued h t g report list) (hold_of c s) → ⊥)
    → (before after : List Event) → history_of d ≡ before ++ after
    → (c : ℕ) → Live (now (rescued h t g report list) before) (hold_of c s) → ⊥)

-- "up to the next preparation": the item is no preparation that is done, and a salvage that is done has the serial below the next one on its
-- paper; where it goes over what a dip left, no cell there has it as its owner. A dip may write a dead serial into a cell, and a salvage of what it
-- left keeps it there (`Examples.revived`)
abbrev pub Spares : ℕ → World → Item → Type 0
Spares s w (call c) = Unit {0}
Spares s w (foreign_step kind place number) = Unit {0}
Spares s w (preparation headers buckets serial boot) = Begins w (preparation headers buckets serial boot) → ⊥
Spares s w (preparation_over headers buckets serial boot t g) = Begins w (preparation_over headers buckets serial boot t g) → ⊥
Spares s w (salvage h report list) = Begins w (salvage h report list) → s < h.next
Spares s w (salvage_over h t g report list) =
    Begins w (salvage_over h t g report list) → (s < h.next) × ((c : ℕ) → Live (world_of h t g) (hold_of c s) → ⊥)

abbrev pub AllSpare : ℕ → Course → List Item → Type 0
AllSpare s k [] = Unit {0}
AllSpare s k (i ∷ is) = Spares s k.world i × AllSpare s (next_item k i) is

-- over such items a dead serial stays dead, from any point of any history, through further salvages
abbrev pub DeadOverSalvages : Type 0
DeadOverSalvages =
    Through (λ k. (s : ℕ) (items : List Item) → Spent k.world s → AllSpare s k items → Spent (run k items).world s)

-- at every point no serial owns two cells, exactly if the owners of the listed cells are pairwise different
abbrev pub ApartFromThere : Type 0
ApartFromThere =
    FromSalvage (λ h t g report list n d.
    let m = salvage_of h t g report list in
    ((before after : List Event) → history_of d ≡ before ++ after → Apart (now (rescued h t g report list) before))
    ↔ OwnersDiffer (table_in m) (list_in m) n)

-- "two writers drive one valve": a cell that is left held, unconfirmed as it is, is taken by nobody before its lease is released
abbrev pub UnconfirmedAlone : Type 0
UnconfirmedAlone =
    FromSalvage (λ h t g report list n d.
    (c s s' : ℕ) (b : Actor) (between after : List Event) → Live (rescued h t g report list) (hold_of c s)
    → history_of d ≡ between ++ (took b c s' ∷ after)
    → (a : Actor) × (before middle : List Event) × (between ≡ before ++ (released a c s ∷ middle)))

-- with the head in force as the paper, and over the arena's own runs, whatever they hold: a lease is live after it exactly if it was live before.
-- So a dip that spared the words loses no lease and revives none
abbrev pub LiveOverSalvage : Type 0
LiveOverSalvage =
    (k : Course) (report list : List ℕ) (l : Hold) → Begins k.world (salvage k.world.head report list)
    → Live (next_item k (salvage k.world.head report list)).world l ↔ Live k.world l
