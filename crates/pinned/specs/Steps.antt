-- Third of the four files: the steps that calls are made of, in plain numbers, with the log of each. A compare-and-set, a foreign step, a boundary, the
-- steps of `try_lock`, and the crew's turns. `Words` has the arena and the ways to say a thing, `Checks` the refusals.
use Rattle.std.specs.Prelude.{ℕ, zero, suc, ◌+◌, ◌*◌, ◌-◌, ◌/◌, ◌%◌, ◌≤◌, ◌<◌, min, ◌≡◌, List, [], ◌∷◌, ◌++◌, ◌≢◌, length, get_or, set, take, replicate}
use Rattle.model.specs.Log.{Event, Made, by_caller, by_script, attempt_begun, boundary_run, step_dropped, took, released, waiters_set, health_set, held_all_lem, added}
use Rattle.types.specs.declared.Answer.{Answer}
use Rattle.types.specs.declared.Answer.TheVariants.{Granted, Busy, Refused}
use Rattle.types.specs.declared.Hold.{Hold}
use Rattle.types.specs.declared.Lease.{Lease}
use Rattle.types.specs.declared.Reason.TheVariants as reason
use Rattle.types.specs.declared.Refusal.TheVariants.{Poisoned, Damaged, SerialsSpent}
use Rattle.history.specs.World.{World}
use Rattle.history.specs.Items.{Says}
use Rattle.pinned.specs.Words.{Result, If◌Then◌Else◌, Gives, Does, After, Noting, IfGranted, size, waiters, owner, health_byte, IsFree, IsHeld, IsDamaged, IsLive, NoSerial, taken, freed, with_waiters, with_health, StandsIn, counted, says}
use Rattle.pinned.specs.Checks.{sum}

-- ---- a compare-and-set: "in order, damaged: Damaged; held: Busy; no serial: SerialsSpent; else the cell gets bit 1 and the next serial, and next
-- rises by 1". Document 02, L1: "held, with the owner's serial"; L8: "The head and every lease gain a boot number"

abbrev pub Takes : World → ℕ → Made (World × Answer) → Type 0
Takes w c =
    If IsDamaged w c Then Gives (w, Refused (Damaged c))
    Else If IsHeld w c Then Gives (w, Busy (reason.Held (owner w c)))
    Else If NoSerial w Then Gives (w, Refused (SerialsSpent c))
    Else Does (took by_caller c w.head.next) (taken w c, Granted (record { cell = c; serial = w.head.next; boot = w.head.boot }))

-- ---- a foreign step, while these leases are protected: the world that it leaves, and 1 where it is dropped. "dropped, counted, nothing else changes"

abbrev pub DoneIf : (Legal : Type 0) → World → Event → (before : World) → Made (World × ℕ) → Type 0
DoneIf Legal v e w = If Legal Then Does e (v, 0) Else Does step_dropped (w, 1)

-- "0 observe. 1 take cell (number not read): legal if the cell is in range and free and a serial remains; it spends one. 2 release (cell, serial): legal if
-- that lease is live and not protected. 3 set a cell's waiters to the number. 4 set a header's health, number 0 or 1. 5 end of boundary (0 and 5 read neither
-- place nor number). Place out of range, another kind, or not legal: dropped"
abbrev pub Step : World → (protected : List Hold) → (kind place number : ℕ) → Made (World × ℕ) → Type 0
Step w ps kind place number =
    If kind ≡ 0 Then Gives (w, 0)
    Else If kind ≡ 1 Then DoneIf ((place < size w) × IsFree w place × (w.head.next < 4_294_967_295)) (taken w place) (took by_script place w.head.next) w
    Else If kind ≡ 2 Then DoneIf (IsLive w place number × (StandsIn place number ps → ⊥)) (freed w place) (released by_script place number) w
    Else If kind ≡ 3 Then DoneIf (place < size w) (with_waiters w place number) (waiters_set place number) w
    Else If kind ≡ 4 Then DoneIf ((place < w.head.headers) × (number ≤ 1)) (with_health w place number) (health_set place number) w
    Else If kind ≡ 5 Then Gives (w, 0)
    Else Does step_dropped (w, 1)

-- ---- a boundary

-- where a call stands: the world, the place in its script, the steps dropped so far
pub record At : Type 0 where
  pub world : World
  pub place : ℕ
  pub dropped : ℕ

abbrev pub at : World → ℕ → ℕ → At
at w p d = record { world = w; place = p; dropped = d }

-- "three words a step (kind, place, number)"; `left` steps are left
unfoldable pub Runs : (left : ℕ) (script : List ℕ) → List Hold → At → Made At → Type 0
Runs zero script ps a = Gives a
Runs (suc left) script ps a =
    If get_or script (3 * a.place) 0 ≡ 5 Then Gives (at a.world (a.place + 1) a.dropped)
    Else After (Step a.world ps (get_or script (3 * a.place) 0) (get_or script (3 * a.place + 1) 0) (get_or script (3 * a.place + 2) 0)) λ s.
    Runs left script ps (at s.0 (a.place + 1) (a.dropped + s.1))

-- "A boundary runs steps up to and including the next 5, or to the script's end; past the end it is quiet."
abbrev pub Boundary : (script : List ℕ) → List Hold → At → Made At → Type 0
Boundary script ps a = Noting boundary_run (Runs (length script / 3 - a.place) script ps a)

-- ---- `try_lock`: "boundary; waiters not 0: Busy; boundary; try_acquire; boundary (protecting the new lease); waiters not 0: release it, Busy; else granted."

-- one attempt that ends here, after so many boundaries: "each `try_lock` .. is an attempt"
abbrev pub ended : At → (boundaries : ℕ) → Answer → World × Says
ended a n x = (a.world, says x (counted 1 n 0 a.dropped) a.place [])

-- the lease on this cell given up
abbrev pub releasing : At → ℕ → At
releasing a c = at (freed a.world c) a.place a.dropped

-- the cell's header: "Cell number = header x B + bucket."
abbrev pub header_of : World → ℕ → ℕ
header_of w c = c / w.head.buckets

-- behind the third boundary. Document 02, L3: "Read it again after the third boundary, before the waiters. If poisoned, release the lease and refuse with 7;
-- the serial stays spent."; L1: "waiters seen after it. The last one also gives the serial that was spent."
abbrev pub LooksAgain : At → ℕ → Lease → Result → Type 0
LooksAgain b c l =
    If health_byte b.world (header_of b.world c) ≢ 0
    Then Does (released by_caller c l.serial) (ended (releasing b c) 3 (Refused (Poisoned (header_of b.world c))))
    Else If waiters b.world c ≢ 0 Then Does (released by_caller c l.serial) (ended (releasing b c) 3 (Busy (reason.After l.serial)))
    Else Gives (ended b 3 (Granted l))

-- behind the compare-and-set, which answered x. "Protected: the caller's held leases, those this call has taken"
abbrev pub AfterTake : (script : List ℕ) → List Hold → At → ℕ → Answer → Result → Type 0
AfterTake script ps a c x =
    IfGranted x
    (λ l. After (Boundary script (ps ++ (record { cell = l.cell; serial = l.serial } ∷ [])) a) λ b. LooksAgain b c l)
    (Gives (ended a 2 x))

-- the whole. L1: "waiters seen before the compare-and-set"
abbrev pub Locks : (script : List ℕ) → List Hold → At → ℕ → Result → Type 0
Locks script ps a c =
    Noting attempt_begun
    (After (Boundary script ps a) λ b.
    If waiters b.world c ≢ 0 Then Gives (ended b 1 (Busy reason.Before))
    Else After (Boundary script ps b) λ d.
    After (Takes d.world c) λ x.
    AfterTake script ps (at x.0 d.place d.dropped) c x.1)

-- ---- the crew. A member with n cells makes its moves in this order: it takes each cell, rising; at work (document 02, L13) it adds to the counter of each,
-- rising; it releases each, the last first. So its moves so far say what its turn does. `crew_at_work` is how many moves lie between, by its number of cells: none,
-- or one a cell

-- the world, each member's moves, the serial noted at each place of the run of cells, moving and idle turns, the cells' counters, and for each member
-- "the value that its lowest cell's counter had when it came to hold all"
pub record Crew : Type 0 where
  pub world : World
  pub moves : List ℕ
  pub serials : List ℕ
  pub moving : ℕ
  pub idle : ℕ
  pub counters : List ℕ
  pub noted : List ℕ

-- before the first turn
abbrev pub gathered : World → (counters : List ℕ) → Crew
gathered w counters = record { world = w; moves = replicate 16 0; serials = replicate 256 0; moving = 0; idle = 0; counters = counters; noted = replicate 16 0 }

-- an idle turn; a move of member m that leaves this world, these serials and these counters; a value noted for member m
abbrev pub idled : Crew → World → Crew
idled v w = record { world = w; moves = v.moves; serials = v.serials; moving = v.moving; idle = v.idle + 1; counters = v.counters; noted = v.noted }

abbrev pub moved : Crew → World → ℕ → (serials counters : List ℕ) → Crew
moved v w m serials counters =
    let moves = set v.moves m (get_or v.moves m 0 + 1) in
    record { world = w; moves = moves; serials = serials; moving = v.moving + 1; idle = v.idle; counters = counters; noted = v.noted }

abbrev pub remembering : Crew → ℕ → ℕ → Crew
remembering v m n =
    let noted = set v.noted m n in
    record { world = v.world; moves = v.moves; serials = v.serials; moving = v.moving; idle = v.idle; counters = v.counters; noted = noted }

-- behind a try of member m, who has `count` cells, `low` the lowest, for the cell at place k of the run; it left the world w and answered x. "Anything but
-- a grant or release is an idle turn"
abbrev pub AfterTry : Crew → (m count low k : ℕ) → World → Answer → Made Crew → Type 0
AfterTry v m count low k w x =
    IfGranted x
    (λ l. let u = moved v w m (set v.serials k l.serial) v.counters in
    If get_or u.moves m 0 ≡ count Then Does (held_all_lem m) (remembering u m (get_or v.counters low 0))
    Else Gives u)
    (Gives (idled v w))

-- "one try_lock with no script on its next cell, after a health reading of that cell's header"
abbrev pub TryTurn : Crew → (m count low k c : ℕ) → Made Crew → Type 0
TryTurn v m count low k c =
    If health_byte v.world (header_of v.world c) ≢ 0 Then Gives (idled v v.world)
    Else After (Locks [] [] (at v.world 0 0) c) λ x. AfterTry v m count low k x.0 x.1.answer

-- the turn of member m, who has `count` cells from the place `start` of the run on. "one holding none after that, or with no cells, is finished and idles"; "a
-- member that has not yet held all its cells" tries its next one; at work "to each it adds the value", and "sums wrap at 65,536"; else it "releases the last it
-- still holds", with the serial noted at the take
abbrev pub TurnFrom : (work : ℕ → ℕ) (cells : List ℕ) (start count : ℕ) → Crew → ℕ → Made Crew → Type 0
TurnFrom work cells start count v m =
    let made = get_or v.moves m 0 in
    let all = 2 * count + work count in
    let worked = get_or cells (start + (made - count)) 0 in
    let value = get_or v.noted m 0 in
    let last = start + (all - 1 - made) in
    If all ≤ made Then Gives (idled v v.world)
    Else If made < count Then TryTurn v m count (get_or cells start 0) (start + made) (get_or cells (start + made) 0)
    Else If made < count + work count
    Then Does (added m worked value) (moved v v.world m v.serials (set v.counters worked ((get_or v.counters worked 0 + value) % 65536)))
    Else Does (released by_caller (get_or cells last 0) (get_or v.serials last 0)) (moved v (freed v.world (get_or cells last 0)) m v.serials v.counters)

-- a member's cells stand behind those of the members before it
abbrev pub Turn : (work : ℕ → ℕ) (counts cells : List ℕ) → Crew → ℕ → Made Crew → Type 0
Turn work counts cells v m = TurnFrom work cells (sum (take m counts)) (get_or counts m 0) v m

unfoldable pub Turns : (work : ℕ → ℕ) (counts cells : List ℕ) → Crew → (turns : List ℕ) → Made Crew → Type 0
Turns work counts cells v [] = Gives v
Turns work counts cells v (m ∷ ms) = After (Turn work counts cells v m) λ u. Turns work counts cells u ms

-- "for each member, cells taken and cells released": `left` members from m on, 0 where there is none
unfoldable pub taken_by : (left m : ℕ) (counts moves : List ℕ) → List ℕ
taken_by zero m counts moves = []
taken_by (suc left) m counts moves = min (get_or moves m 0) (get_or counts m 0) ∷ taken_by left (m + 1) counts moves

unfoldable pub released_by : (work : ℕ → ℕ) (left m : ℕ) (counts moves : List ℕ) → List ℕ
released_by work zero m counts moves = []
released_by work (suc left) m counts moves = (get_or moves m 0 - (get_or counts m 0 + work (get_or counts m 0))) ∷ released_by work left (m + 1) counts moves
