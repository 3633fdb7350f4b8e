-- The loop over the turns: what its code keeps, with one store for what is noted, and idle turns passed in a row.
use Rattle.std.specs.Prelude.{◌≡◌, ℕ, zero, suc, ◌+◌, ◌*◌, ◌-◌, ◌<◌, ◌≤◌, Bool, true, false, List, length, ◌==◌, slice_index, slice_set, replicate, refl}
use Rattle.std.proofs.Common.{sym, ap, subst, ◌∙◌, arith}
use Rattle.std.proofs.lemmas.List.{set-get_or}
use Rattle.types.specs.declared.Head.{Head}
use Rattle.model.specs.Crew.{Work, adds_of, moves_of, start_of, crew_start, noted_at, Crew}
use Rattle.laws.specs.Crew.{adds_few, start_fits}
use Rattle.crew_plan.specs.Fine.{CrewFine}
use Rattle.crew_plan.specs.Starts.{Begun}
use Rattle.crew.specs.Idle.{OfSixteen, IdleTo}
use Rattle.crew.specs.Model.{place_of, work_move_of, note_of, handed, take_turns_of}
use Rattle.crew.specs.Moves.{Others, all_left}
use Rattle.crew.specs.Places.{Spot, spot, placed, lowest_in}
use Rattle.crew.specs.Turns.{Working, Unfinished, work_idle, work_tried, work_took, work_moved, work_done}
use Rattle.crew.specs.declared.Move.{Move}
use Rattle.crew.specs.declared.Move.TheVariants as move

-- what is noted, as one store
noted_is : (full : Bool) (noted counters : List ℕ) (m low : ℕ) → slice_set noted m (note_of full (slice_index noted m) counters low) ≡ noted_at full noted counters m low
unfolding note_of
noted_is true noted counters m low = refl
noted_is false noted counters m low = set-get_or noted m 0

pub record Noting (work : Work) (headers buckets : ℕ) (g counts cells turns : List ℕ) (start : Crew) (next : ℕ) (t left : List ℕ) (moving i : ℕ) (counters noted : List ℕ) : Type 0 where
  pub run : Working work headers buckets g counts cells turns start next t left moving i counters noted
  pub wide : length counters ≡ length start.counters

module _ (work : Work) (headers buckets : ℕ) (g counts cells turns : List ℕ) (start : Crew) (next : ℕ) (t left : List ℕ) (moving i : ℕ) (counters noted : List ℕ) where
  abbrev Here : Type 0
  Here = Noting work headers buckets g counts cells turns start next t left moving i counters noted

  abbrev Then : ℕ → List ℕ → List ℕ → ℕ → List ℕ → List ℕ → Type 0
  Then next' t' left' moving' counters' noted' = Noting work headers buckets g counts cells turns start next' t' left' moving' (i + 1) counters' noted'

  abbrev member : ℕ
  member = slice_index turns i

  abbrev more : ℕ
  more = slice_index left member

  abbrev wants : ℕ
  wants = slice_index counts member

  pub add_idle : Here → i < length turns → member < 16 → more ≡ 0 → Then next t left moving counters noted
  add_idle w l b e = record { run = work_idle work headers buckets g counts cells turns start next t left moving i counters noted w.run l b e; wide = w.wide }

  module _ (w : Here) (l : i < length turns) (n first k : ℕ) (un : Unfinished work headers buckets g counts cells turns start next t left moving i counters noted n first k) (cell : ℕ) (cell_is : cell ≡ slice_index cells k) (mv : Move) (u x : List ℕ) (f : (mv, (u, x)) ≡ work_move_of work next buckets t g counters n wants cell (slice_index noted member)) (same : length u ≡ length t) (same_counters : length x ≡ length counters) where
    e : (mv, (u, x)) ≡ work_move_of work next buckets t g counters n wants (slice_index cells k) (slice_index noted member)
    e = rw (← cell_is) f

    pub add_tried : mv ≡ move.Idle → Then next u left moving x noted
    add_tried m_is =
        record {
          run = work_tried work headers buckets g counts cells turns start next t left moving i counters noted w.run l n first k un mv u x e same m_is;
          wide = same_counters ∙ w.wide;
        }

    pub add_took : (next' s value : ℕ) → mv ≡ move.Took next' s → value ≡ note_of (n + 1 == wants) (slice_index noted member) x (slice_index cells first)
        → Then next' u (slice_set left member (more - 1)) (moving + 1) x (slice_set noted member value)
    add_took next' s value m_is v =
        record {
          run =
              rw (v, noted_is (n + 1 == wants) noted x member (slice_index cells first))
              (work_took work headers buckets g counts cells turns start next t left moving i counters noted w.run l n first k un mv u x e same next' s m_is);
          wide = same_counters ∙ w.wide;
        }

    pub add_moved : mv ≡ move.Moved → Then next u (slice_set left member (more - 1)) (moving + 1) x noted
    add_moved m_is =
        record {
          run = work_moved work headers buckets g counts cells turns start next t left moving i counters noted w.run l n first k un mv u x e same m_is;
          wide = same_counters ∙ w.wide;
        }

-- ---- idle turns in a row

module _ (work : Work) (headers buckets : ℕ) (g counts cells turns : List ℕ) (start : Crew) (next : ℕ) (t left : List ℕ) (moving : ℕ) (counters noted : List ℕ) where
  abbrev At : ℕ → Type 0
  At i = Noting work headers buckets g counts cells turns start next t left moving i counters noted

  idle_row : OfSixteen turns → (k i r : ℕ) → i + k ≡ r → IdleTo turns left i r → At i → At r
  idle_row named zero i r e p w = subst At (omega arith) w
  idle_row named (suc k) i r e p w =
      let l : i < length turns = omega (arith, p.inside) in
      idle_row named k (i + 1) r (omega arith)
      (record { ahead = omega arith; inside = p.inside; none_left = λ j a b. p.none_left j (omega arith) b })
      (add_idle work headers buckets g counts cells turns start next t left moving i counters noted w l (named i l) (p.none_left i (omega arith) (omega arith)))

  pub add_pass : (i r : ℕ) → OfSixteen turns → IdleTo turns left i r → At i → At r
  add_pass i r named p w = idle_row named (r - i) i r (omega (arith, p.ahead)) p w

-- ---- what the code knows at a turn that moves

module _ (work : Work) (h : Head) (t g counts cells turns all starts : List ℕ) (next : ℕ) (u left : List ℕ) (moving : ℕ) (counters noted : List ℕ) where
  -- the loop before turn i
  abbrev Before : ℕ → Type 0
  Before i = Noting work h.headers h.buckets g counts cells turns (crew_start h t all) next u left moving i counters noted

  of_sixteen : CrewFine h (length t) (length g) counts cells turns → OfSixteen turns
  of_sixteen f j l = omega (arith, f.named j l, f.limits.few_members)

  -- the member whose turn it is wants few cells, has made n moves and not all, and moves at a place in its list
  pub record Turning (i m first n : ℕ) : Type 0 where
    pub before : Before i
    pub here : i < length turns
    pub unfinished : Unfinished work h.headers h.buckets g counts cells turns (crew_start h t all) next u left moving i counters noted n first (place_of work first n (slice_index counts m))
    pub wants_few : slice_index counts m ≤ 64
    pub fits : first + slice_index counts m ≤ length cells
    pub few_cells : length cells ≤ 256
    pub early : n < moves_of work (slice_index counts m)
    pub at_cell : Spot h (length t) (length g) cells (place_of work first n (slice_index counts m))
    pub low : Spot h (length t) (length g) cells first

  pub turning : (i : ℕ) → CrewFine h (length t) (length g) counts cells turns → Begun counts starts → Before i → i < length turns
      → let m = slice_index turns i in 1 ≤ slice_index left m → (extra : ℕ) → extra ≡ adds_of work (slice_index counts m)
      → Turning i m (slice_index starts m) (2 * slice_index counts m + extra - slice_index left m)
  turning i f b before here some extra e =
      let m = slice_index turns i in
      let count = slice_index counts m in
      let n = 2 * count + extra - slice_index left m in
      let named : m < length counts = f.named i here in
      let few : m < 16 = of_sixteen f i here in
      let begins : slice_index starts m ≡ start_of counts m = b.begins m named in
      let together = before.run.parted.together m few in
      let early : n < moves_of work count = omega (arith, together, e, some) in
      let wants : count ≤ 64 = f.limits.each_few m in
      record {
        before = before;
        here = here;
        unfinished = record { counted = few; so_far = omega (arith, together, e); unfinished = some; begins = begins; placed = placed work (slice_index starts m) n count };
        wants_few = wants;
        fits = omega (arith, begins, start_fits counts m, f.limits.cells_are);
        few_cells = omega (arith, f.limits.cells_are, f.limits.few_cells);
        early = early;
        at_cell = spot work h (length t) (length g) counts cells turns m (slice_index starts m) n (place_of work (slice_index starts m) n count) f named begins (placed work (slice_index starts m) n count) early;
        low = lowest_in work h (length t) (length g) counts cells turns m (slice_index starts m) f named begins (omega (arith, early, adds_few work count));
      }

  -- a turn of a member that has no move left, and those behind it
  pub passed : (i r : ℕ) → CrewFine h (length t) (length g) counts cells turns → Before i → i < length turns → slice_index left (slice_index turns i) ≡ 0 → IdleTo turns left (i + 1) r → Before r
  passed i r f w here none p =
      add_pass work h.headers h.buckets g counts cells turns (crew_start h t all) next u left moving counters noted (i + 1) r (of_sixteen f) p
      (add_idle work h.headers h.buckets g counts cells turns (crew_start h t all) next u left moving i counters noted w here (of_sixteen f i here) none)

  -- behind the last turn
  pub walked : (i : ℕ) → Before i → length turns ≤ i → (made : List ℕ) → Others work counts left made 16
      → (record { next = next; moving = moving; idle = length turns - moving; made = made }, (u, counters)) ≡ take_turns_of work h t g counts cells turns all
  unfolding take_turns_of
  walked i w over made o = sym (ap handed (work_done work h.headers h.buckets g counts cells turns (crew_start h t all) next u left moving i counters noted w.run over made o))

-- before the first turn
pub noting_none : (work : Work) (h : Head) (t g counts cells turns all left : List ℕ) → Others work counts (replicate 16 0) left 16
    → Noting work h.headers h.buckets g counts cells turns (crew_start h t all) h.next t left 0 0 all (replicate 16 0)
noting_none work h t g counts cells turns all left o =
    record {
      run = record { made = replicate 16 0; serials = replicate 256 0; place = omega arith; few = omega arith; words = refl; parted = all_left work counts left o; rest = refl };
      wide = refl;
    }
