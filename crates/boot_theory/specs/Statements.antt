-- Document 02, L8: "If the owner never uses a boot number twice, an issued pair of boot number and serial that owns nothing never owns again,
-- preparations included, up to the next salvage." What demand 2 says up to the next preparation (crate `history`), over preparations, as
-- statements; `Theorems` has the proofs by name.
use Rattle.std.specs.Prelude.{ℕ, ◌<◌, ◌≡◌, List, [], ◌∷◌, ◌++◌, true, ◌⊎◌, ◌↔◌, length, Ok, Err}
use Rattle.model.specs.Log.{Actor, Event, took}
use Rattle.model.specs.Arena.{lease_of, is_stale, lease_live, leases_of}
use Rattle.model.specs.Refusals.{Rule, first}
use Rattle.types.specs.declared.Answer.{Answer}
use Rattle.types.specs.declared.Answer.TheVariants.{Done, Cell, Granted, AllGranted, Busy, Refused, RefusedAt}
use Rattle.types.specs.declared.Lease.{Lease}
use Rattle.types.specs.declared.Refusal.{Refusal}
use Rattle.types.specs.declared.Refusal.TheVariants.{StaleBoot}
use Rattle.setpoint.specs.declared.Setpoint.{Setpoint}
use Rattle.book_rules.specs.Calls.{write_setpoint_of}
use Rattle.book_rules.specs.Rules.{first_fault, bad_table, bad_slot}
use Rattle.book_rules.specs.declared.BookRefusal.{BookRefusal}
use Rattle.book_rules.specs.declared.BookRefusal.TheVariants as fault
use Rattle.history.specs.World.{World, now, Spent}
use Rattle.history.specs.Items.{Call, drop_lease, Among, NamesLease, unchanged, perform, foreign, Item, call, foreign_step, preparation, preparation_over, salvage, salvage_over, Course, cold, preparing, next_item, run}
use Rattle.history.specs.Statements.{Begins, Through, answers, buffer_in, Early, OneLease, Placed}
use Rattle.history.specs.Callers.{ShapeFits}

-- ---- leases with their boot numbers

-- a lease owns its cell: it has the head's boot number, and the cell is held by its serial
abbrev pub Owned : World → Lease → Type 0
Owned w l = lease_live w.head w.table l ≡ true

-- whether an answer, with the grant buffer, hands this lease over
abbrev pub HandsLease : Answer → List ℕ → Lease → Type 0
HandsLease Done grants l = ⊥
HandsLease (Cell c) grants l = ⊥
HandsLease (Granted m) grants l = m ≡ l
HandsLease AllGranted grants l = Among l (leases_of grants)
HandsLease (Busy why) grants l = ⊥
HandsLease (Refused r) grants l = ⊥
HandsLease (RefusedAt r p) grants l = ⊥

-- this call, in this world, hands this lease over
abbrev pub Handed : World → Call → Lease → Type 0
Handed w c = HandsLease (answers w c) (buffer_in (perform w c))

-- every lease that a call hands over has the boot number of the head that it was given, and owns its cell in the world that the call leaves
abbrev pub OwnBoot : Type 0
OwnBoot = (w : World) (c : Call) (l : Lease) → Handed w c l → (l.boot ≡ w.head.boot) × Owned (perform w c).seen.0 l

-- ---- the points of a history: between two items, and at every event inside one

-- the events of an item; a preparation and a salvage have none
abbrev pub log_in : World → Item → List Event
log_in w (call c) = (perform w c).log
log_in w (foreign_step kind place number) = (foreign w kind place number).log
log_in w (preparation headers buckets serial boot) = []
log_in w (preparation_over headers buckets serial boot t g) = []
log_in w (salvage paper report list) = []
log_in w (salvage_over paper t g report list) = []

-- at every point of an item that begins in this world
abbrev pub Throughout : World → Item → (World → Type 0) → Type 0
Throughout w i P = (before after : List Event) → log_in w i ≡ before ++ after → P (now w before)

-- an item takes a lease: a call for itself, its script, a crew or a lone step takes the cell with that serial, and its boot number is the one in force
abbrev pub Issues : World → Item → Lease → Type 0
Issues w i l =
    (a : Actor) × (before after : List Event) × (log_in w i ≡ before ++ (took a l.cell l.serial ∷ after)) × (l.boot ≡ w.head.boot)

-- what a call hands over it took itself
abbrev pub HandedIssues : Type 0
HandedIssues = (w : World) (c : Call) (l : Lease) → Handed w c l → Issues w (call c) l

-- ---- the boot numbers of a history

-- of a preparation with this answer and this boot number
abbrev pub began : Answer → ℕ → List ℕ
began Done boot = boot ∷ []
began (Cell c) boot = []
began (Granted l) boot = []
began AllGranted boot = []
began (Busy why) boot = []
began (Refused r) boot = []
began (RefusedAt r p) boot = []

-- the item's, if it is a preparation that is done
abbrev pub boots_of : World → Item → List ℕ
boots_of w (call c) = []
boots_of w (foreign_step kind place number) = []
boots_of w (preparation headers buckets serial boot) = began (preparing headers buckets serial boot w.table w.health).0 boot
boots_of w (preparation_over headers buckets serial boot t g) = began (preparing headers buckets serial boot t g).0 boot
boots_of w (salvage paper report list) = []
boots_of w (salvage_over paper t g report list) = []

-- those of the preparations that are done among these items, in their order
abbrev pub boots_over : Course → List Item → List ℕ
boots_over k [] = []
boots_over k (i ∷ is) = boots_of k.world i ++ boots_over (next_item k i) is

abbrev pub Member : ℕ → List ℕ → Type 0
Member b [] = ⊥
Member b (x ∷ xs) = (x ≡ b) ⊎ Member b xs

-- "never uses a boot number twice"
abbrev pub Distinct : List ℕ → Type 0
Distinct [] = Unit {0}
Distinct (b ∷ bs) = (Member b bs → ⊥) × Distinct bs

-- "up to the next salvage": the item is a salvage that is done
abbrev pub Rescues : World → Item → Type 0
Rescues w (call c) = ⊥
Rescues w (foreign_step kind place number) = ⊥
Rescues w (preparation headers buckets serial boot) = ⊥
Rescues w (preparation_over headers buckets serial boot t g) = ⊥
Rescues w (salvage paper report list) = Begins w (salvage paper report list)
Rescues w (salvage_over paper t g report list) = Begins w (salvage_over paper t g report list)

abbrev pub NoRescue : Course → List Item → Type 0
NoRescue k [] = Unit {0}
NoRescue k (i ∷ is) = (Rescues k.world i → ⊥) × NoRescue (next_item k i) is

-- ---- what can be done with a lease that does not own its cell: nothing

pub record Barred (w : World) (l : Lease) : Type 0 where
  pub owns_nothing : Owned w l → ⊥
  -- every call that names it, alone or in a list, is refused and changes nothing
  pub refused : (k : Call) → NamesLease k l → (r : Refusal) × Early k r × (perform w k ≡ unchanged w k r)
  -- and so is every write into a setpoint book
  pub writes_nothing : (bytes : List ℕ) (slot : ℕ) (p : Setpoint)
      → (r : BookRefusal) × (write_setpoint_of w.head w.table bytes slot l p ≡ (Err r, bytes))

abbrev pub UnownedBarred : Type 0
UnownedBarred = (w : World) (l : Lease) → (Owned w l → ⊥) → Barred w l

-- to own a cell is to have one's lease accepted
abbrev pub OwnedExactly : Type 0
OwnedExactly = (w : World) (l : Lease) → ShapeFits w → (answers w (drop_lease l) ≡ Done) ↔ Owned w l

-- a stale lease, in an arena whose shape fits: by 16
pub record Useless (w : World) (l : Lease) : Type 0 where
  pub stale : is_stale w.head l ≡ true
  pub shape : ShapeFits w
  pub barred : Barred w l
  -- given to a call alone
  pub alone : (k : Call) → OneLease k l → answers w k ≡ Refused (StaleBoot 0)
  -- wherever it stands, with that position, if no check before it applies. These are all the calls that name it (`NamesPlaced` of crate `history`)
  pub placed : (k : Call) (ahead : List Rule) (i : ℕ) → Placed w k l ahead i → first ahead ≡ Ok tt → answers w k ≡ Refused (StaleBoot i)
  -- in a write, if table, book and slot pass
  pub written : (bytes : List ℕ) (slot : ℕ) (p : Setpoint)
      → first_fault (bad_table w.head w.table ∷ bad_slot w.head (length bytes) slot ∷ []) ≡ Ok tt
      → write_setpoint_of w.head w.table bytes slot l p ≡ (Err fault.StaleBoot, bytes)

-- so is every stale lease, whatever the cells hold
abbrev pub StaleUseless : Type 0
StaleUseless = (w : World) (l : Lease) → ShapeFits w → is_stale w.head l ≡ true → Useless w l

-- ---- demand 2 over preparations: of a point between two items of a history, and the items behind it. What is spent inside an item is spent where it ends
-- (`demand-2.never` of crate `history`), and of a boot number from before this point an earlier point speaks

-- barred where these items end, and owner of nothing at any point of whatever comes next
abbrev pub Out : Course → List Item → Lease → Type 0
Out k more l = Barred (run k more).world l × ((i : Item) → Throughout (run k more).world i (λ w. Owned w l → ⊥))

pub record OverPreparations (k : Course) (more : List Item) : Type 0 where
  -- "an issued pair of boot number and serial that owns nothing never owns again, preparations included"
  pub never : (s : ℕ) → Spent k.world s
      → (i : Item) → Throughout (run k more).world i (λ w. (c : ℕ) → Owned w (lease_of c s k.world.head.boot) → ⊥)
  -- nor does a lease that was issued and owns its cell no longer
  pub gone : (l : Lease) → l.boot ≡ k.world.head.boot → l.serial < k.world.head.next → (Owned k.world l → ⊥) → Out k more l
  -- "A lease from before a preparation was accepted after it": no longer. One of this point's boot number is of no use once a preparation among the
  -- items is done, and owns nothing at any point from there on
  pub stale : (l : Lease) → l.boot ≡ k.world.head.boot → (boots_over k more ≡ [] → ⊥)
      → Useless (run k more).world l × Out k more l
  -- no pair of boot number and serial is issued twice, by whomever
  pub issued_once : (i j : Item) (middle rest : List Item) (l m : Lease) → more ≡ i ∷ (middle ++ (j ∷ rest))
      → Issues k.world i l → Issues (run k (i ∷ middle)).world j m → l.serial ≡ m.serial → l.boot ≡ m.boot → ⊥
  -- whoever took a cell that was later taken again can do nothing with the first lease from then on
  pub takers : (i j : Item) (middle rest : List Item) (l m : Lease) → more ≡ i ∷ (middle ++ (j ∷ rest))
      → Issues k.world i l → Issues (run k (i ∷ middle)).world j m → l.cell ≡ m.cell → Out k more l
  -- so no lease is handed over twice
  pub once : (c d : Call) (middle rest : List Item) (l : Lease) → more ≡ call c ∷ (middle ++ (call d ∷ rest))
      → Handed k.world c l → Handed (run k (call c ∷ middle)).world d l → ⊥
  -- and "two writers drive one valve" no longer: whoever was handed a lease on a cell that was later handed over again can do nothing with it from then on
  pub writers : (c d : Call) (middle rest : List Item) (l m : Lease) → more ≡ call c ∷ (middle ++ (call d ∷ rest))
      → Handed k.world c l → Handed (run k (call c ∷ middle)).world d m → l.cell ≡ m.cell → Out k more l

-- of any two points between items of every history from a preparation, if no two preparations that are done in it have one boot number, up to the next
-- salvage
abbrev pub Demand2Over : Type 0
Demand2Over =
    (rubbish : World) (start : Item) (items more rest : List Item) → Begins rubbish start
    → NoRescue (cold rubbish) (start ∷ (items ++ (more ++ rest)))
    → Distinct (boots_over (cold rubbish) (start ∷ (items ++ (more ++ rest)))) → OverPreparations (run (cold rubbish) (start ∷ items)) more

-- the same from any point of any history, behind a salvage too, if neither the boot number in force there nor one used since is used again
abbrev pub OverFrom : Type 0
OverFrom =
    Through (λ k. (more rest : List Item) → NoRescue k (more ++ rest) → Distinct (k.world.head.boot ∷ boots_over k (more ++ rest)) → OverPreparations k more)
