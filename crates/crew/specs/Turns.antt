-- Laws of the turns, in either work: one turn as the code makes it, and the loop over all of them.
use Rattle.std.specs.Prelude.{ℕ, ◌+◌, ◌*◌, ◌-◌, ◌/◌, ◌≤◌, ◌<◌, ◌≡◌, Bool, leb, length, set, drop, if◌then◌else◌}
use Rattle.std.proofs.Math.Path.{refl}
use Rattle.std.proofs.Common.{sym, ap, subst, ◌∙◌, arith, drop_of_length-le}
use mathlib.Core.List.{List, []}
use Rattle.std.proofs.Math.Bool.{true, false}
use Rattle.std.proofs.Math.Dec.{ltb, eqb}
use Rattle.std.proofs.Math.ListN.{get_or}
use Rattle.std.proofs.Math.Seq.{get_or-set_same}
use borrow.Author.Tests.{le-leb, lt-leb, eqb-true, ne_eqb, ltb-true, ltb-false}
use Rattle.model.specs.Log.{Made}
use Rattle.model.specs.Arena.{waiters_at, state_at, serial_remains}
use Rattle.model.specs.Foreign.{setting, flow_of}
use Rattle.model.specs.Lock.{take_in, take_of}
use Rattle.model.specs.Crew.{Work, adds_of, moves_of, Crew, crew_at, after_try, moved, noted_at, added_to, start_of, try_turn_of, held_all_of, add_turn_of, release_turn_of, turn_of, turns_of}
use Rattle.types.specs.declared.Locked.{Locked}
use Rattle.types.specs.declared.Outcome.{Outcome}
use Rattle.types.specs.declared.Outcome.TheVariants as outcome
use Rattle.types.specs.declared.State.{State}
use Rattle.types.specs.declared.State.TheVariants as state
use Rattle.types.specs.declared.Took.{Took}
use Rattle.choice.specs.Pick.{if_both}
use Rattle.laws.specs.Lists.{drop_one}
use Rattle.lock.specs.Model.{quiet_take, quiet_lock_of}
use Rattle.lock.specs.Laws.{lock_quiet}
use Rattle.crew.specs.Model.{move_for, move_by, try_move_of, make_move_of, work_move_of, noted_by, after}
use Rattle.crew.specs.Moves.{Others, MadeAndLeft, made_is, one_made}
use Rattle.crew.specs.Places.{Placed}
use Rattle.crew.specs.declared.Move.{Move}
use Rattle.crew.specs.declared.Move.TheVariants as move

-- a take is no other move
move_took : (o : Outcome) (next : ℕ) → move_for o next ≡ move.Moved → ⊥
move_took (outcome.Granted l) next e = let z : ◌≡◌ {A = ℕ} 0 1 = cc in omega arith
move_took (outcome.Busy why) next e = let z : ◌≡◌ {A = ℕ} 0 1 = cc in omega arith
move_took (outcome.Refused r) next e = let z : ◌≡◌ {A = ℕ} 0 1 = cc in omega arith

take_took : (next buckets : ℕ) (t g : List ℕ) (c : ℕ) → (make_move_of next buckets t g true c).0 ≡ move.Moved → ⊥
unfolding make_move_of try_move_of
take_took next buckets t g c = go (eqb (get_or g (c / buckets) 0) 0)
  where
    go : (b : Bool) → (if b then move_by (quiet_lock_of (flow_of next 0 0) t c) else (move.Idle, t)).0 ≡ move.Moved → ⊥
    go true e = move_took (quiet_lock_of (flow_of next 0 0) t c).0.answer (quiet_lock_of (flow_of next 0 0) t c).0.flow.next e
    go false e = let z : ◌≡◌ {A = ℕ} 0 1 = cc in omega arith

-- ---- a try_lock that is not granted leaves the next serial: so an idle turn has nothing to store

module _ (next : ℕ) (t made serials : List ℕ) (moving idle : ℕ) (counters noted : List ℕ) (m k c : ℕ) where
  abbrev crew : Crew
  crew = crew_at next t made serials moving idle counters noted

  abbrev behind : Move × List ℕ → Crew
  behind o = after o.0 o.1 counters noted crew m k

  abbrev Same : Locked × List ℕ → Type 0
  Same o = after_try o.0.answer o.0.flow.next o.1 crew m k ≡ behind (move_by o)

  abbrev SameTake : Made (Took × List ℕ) → Type 0
  SameTake o = Same (quiet_take (flow_of next 0 0) c o.seen)

  in_state : (s : State) → SameTake (take_in s next t c)
  in_state state.Damaged = refl
  in_state (state.Held o) = refl
  in_state state.Free = if_both SameTake (serial_remains next) refl refl

  quiet_same : Same (quiet_lock_of (flow_of next 0 0) t c)
  unfolding quiet_lock_of take_of
  quiet_same = if_both Same (eqb (waiters_at t c) 0) (in_state (state_at next t c)) refl

  try_is : (headers buckets : ℕ) (g : List ℕ) → (try_turn_of headers buckets g crew m k c).seen ≡ behind (make_move_of next buckets t g true c)
  unfolding try_turn_of make_move_of try_move_of
  try_is headers buckets g = go (eqb (get_or g (c / buckets) 0) 0) refl
    where
      go : (b : Bool) → eqb (get_or g (c / buckets) 0) 0 ≡ b → (try_turn_of headers buckets g crew m k c).seen ≡ behind (make_move_of next buckets t g true c)
      go true e = rw (e, lock_quiet (setting headers (headers * buckets) [] []) buckets g c (eqb-true _ _ e) (flow_of next 0 0) t (omega arith)) quiet_same
      go false e = rw e

  add_is : (add_turn_of crew m c).seen ≡ after move.Moved t (added_to counters c (get_or noted m 0)) noted crew m k
  unfolding add_turn_of
  add_is = refl

  give_is : (buckets : ℕ) (g : List ℕ) (full : Bool) (low : ℕ)
      → (release_turn_of crew m k c).seen
      ≡ after (make_move_of next buckets t g false c).0 (make_move_of next buckets t g false c).1 counters (noted_by (make_move_of next buckets t g false c).0 full noted counters m low) crew m k
  unfolding release_turn_of make_move_of
  give_is buckets g full low = refl

  -- behind a try: the value is noted if it was the take of the last cell
  held_is : (counts cells : List ℕ) (low : ℕ) → low ≡ get_or cells (start_of counts m) 0 → m < length made → get_or made m 0 < get_or counts m 0 → (mv : Move) (u : List ℕ) → (mv ≡ move.Moved → ⊥)
      → (held_all_of counts cells (after mv u counters noted crew m k) m).seen
      ≡ after mv u counters (noted_by mv (eqb (get_or made m 0 + 1) (get_or counts m 0)) noted counters m low) crew m k
  unfolding held_all_of
  held_is counts cells low e l yet move.Idle u f = rw (ne_eqb (get_or made m 0) (get_or counts m 0) (omega arith))
  held_is counts cells low e l yet (move.Took n s) u f = rw (e, get_or-set_same made m (get_or made m 0 + 1) 0 l)
  held_is counts cells low e l yet move.Moved u f = absurd (f refl)

-- ---- one turn of the loop, at place i of the turns

module _ (work : Work) (headers buckets : ℕ) (g counts cells : List ℕ) (next : ℕ) (t made serials : List ℕ) (moving idle : ℕ) (counters noted : List ℕ) where
  abbrev at_work : Crew
  at_work = crew_at next t made serials moving idle counters noted

  idle_is : (m : ℕ) → leb (moves_of work (get_or counts m 0)) (get_or made m 0) ≡ true
      → (turn_of work headers buckets g counts cells at_work m).seen ≡ crew_at next t made serials moving (idle + 1) counters noted
  unfolding turn_of
  idle_is m e = rw e

  -- what a turn of an unfinished member comes to
  abbrev pub move_at : ℕ → ℕ → Move × (List ℕ × List ℕ)
  move_at m k = work_move_of work next buckets t g counters (get_or made m 0) (get_or counts m 0) (get_or cells k 0) (get_or noted m 0)

  -- and the crew behind it
  abbrev pub crew_by : ℕ → ℕ → ℕ → Move × (List ℕ × List ℕ) → Crew
  crew_by m start k o =
      after o.0 o.1.0 o.1.1 (noted_by o.0 (eqb (get_or made m 0 + 1) (get_or counts m 0)) noted o.1.1 m (get_or cells start 0)) at_work m k

  move_is : (m start k : ℕ) → start ≡ start_of counts m → m < length made → Placed work start (get_or made m 0) (get_or counts m 0) k
      → leb (moves_of work (get_or counts m 0)) (get_or made m 0) ≡ false
      → (turn_of work headers buckets g counts cells at_work m).seen ≡ crew_by m start k (move_at m k)
  unfolding turn_of work_move_of
  move_is m start k s l p e = go (ltb (get_or made m 0) (get_or counts m 0)) (ltb (get_or made m 0) (get_or counts m 0 + adds_of work (get_or counts m 0))) refl refl
    where
      go : (a b : Bool) → ltb (get_or made m 0) (get_or counts m 0) ≡ a → ltb (get_or made m 0) (get_or counts m 0 + adds_of work (get_or counts m 0)) ≡ b
          → (turn_of work headers buckets g counts cells at_work m).seen ≡ crew_by m start k (move_at m k)
      go true b f h =
          let yet = ltb-true _ _ f in
          rw (e, f, ← s, ← p.taking yet, try_is next t made serials moving idle counters noted m k (get_or cells k 0) headers buckets g)
          (held_is next t made serials moving idle counters noted m k (get_or cells k 0) counts cells (get_or cells start 0) (ap (λ j. get_or cells j 0) s) l yet _ _ (take_took next buckets t g (get_or cells k 0)))
      go false true f h = rw (e, f, h, ← s, ← p.adding (ltb-false _ _ f) (ltb-true _ _ h)) (add_is next t made serials moving idle counters noted m k (get_or cells k 0))
      go false false f h =
          rw (e, f, h, ← s, ← p.giving (ltb-false _ _ h))
          (give_is next t made serials moving idle counters noted m k (get_or cells k 0) buckets g (eqb (get_or made m 0 + 1) (get_or counts m 0)) (get_or cells start 0))

  turns_step : (turns : List ℕ) (i : ℕ) → i < length turns
      → (turns_of work headers buckets g counts cells at_work (drop i turns)).seen
      ≡ (turns_of work headers buckets g counts cells (turn_of work headers buckets g counts cells at_work (get_or turns i 0)).seen (drop (i + 1) turns)).seen
  unfolding turns_of
  turns_step turns i l = rw (drop_one turns i l)

  pub idle_at : (turns : List ℕ) (i : ℕ) → i < length turns → moves_of work (get_or counts (get_or turns i 0) 0) ≤ get_or made (get_or turns i 0) 0
      → (turns_of work headers buckets g counts cells at_work (drop i turns)).seen
      ≡ (turns_of work headers buckets g counts cells (crew_at next t made serials moving (idle + 1) counters noted) (drop (i + 1) turns)).seen
  idle_at turns i l e = turns_step turns i l ∙ rw (idle_is (get_or turns i 0) (le-leb _ _ e))

  pub move_at_lem : (turns : List ℕ) (i start k : ℕ) → i < length turns → start ≡ start_of counts (get_or turns i 0) → get_or turns i 0 < length made
      → Placed work start (get_or made (get_or turns i 0) 0) (get_or counts (get_or turns i 0) 0) k → get_or made (get_or turns i 0) 0 < moves_of work (get_or counts (get_or turns i 0) 0)
      → (turns_of work headers buckets g counts cells at_work (drop i turns)).seen
      ≡ (turns_of work headers buckets g counts cells (crew_by (get_or turns i 0) start k (move_at (get_or turns i 0) k)) (drop (i + 1) turns)).seen
  move_at_lem turns i start k l s r p e = turns_step turns i l ∙ rw (move_is (get_or turns i 0) start k s r p (lt-leb _ _ e))

  pub turns_done : (turns : List ℕ) (i : ℕ) → length turns ≤ i → (turns_of work headers buckets g counts cells at_work (drop i turns)).seen ≡ at_work
  unfolding turns_of
  turns_done turns i l = rw (drop_of_length-le turns l)

-- ---- the loop

-- where it stands: every turn passed moved or was idle, and what the turns give from here on is what they give for the whole
pub record Working (work : Work) (headers buckets : ℕ) (g counts cells turns : List ℕ) (start : Crew) (next : ℕ) (t left : List ℕ) (moving i : ℕ) (counters noted : List ℕ) : Type 0 where
  -- the moves made and the serials that the crew has noted; the code has the moves left, and notes no serial, since no turn reads them
  pub made : List ℕ
  pub serials : List ℕ
  pub place : i ≤ length turns
  pub few : moving ≤ i
  pub words : length t ≡ length start.table
  pub parted : MadeAndLeft work counts made left
  pub rest : (turns_of work headers buckets g counts cells (crew_at next t made serials moving (i - moving) counters noted) (drop i turns)).seen ≡ (turns_of work headers buckets g counts cells start turns).seen

module _ (work : Work) (headers buckets : ℕ) (g counts cells turns : List ℕ) (start : Crew) (next : ℕ) (t left : List ℕ) (moving i : ℕ) (counters noted : List ℕ) where
  abbrev Here : Type 0
  Here = Working work headers buckets g counts cells turns start next t left moving i counters noted

  abbrev Then : ℕ → List ℕ → List ℕ → ℕ → List ℕ → List ℕ → Type 0
  Then next' t' left' moving' counters' noted' = Working work headers buckets g counts cells turns start next' t' left' moving' (i + 1) counters' noted'

  -- the member whose turn it is, how many moves it has left, how many cells it wants
  abbrev member : ℕ
  member = get_or turns i 0

  abbrev more : ℕ
  more = get_or left member 0

  abbrev wants : ℕ
  wants = get_or counts member 0

  -- it is a member, it has made n moves and not all, its list begins there, and its move is at k
  pub record Unfinished (n first k : ℕ) : Type 0 where
    pub counted : member < 16
    pub so_far : n + more ≡ moves_of work wants
    pub unfinished : 1 ≤ more
    pub begins : first ≡ start_of counts member
    pub placed : Placed work first n wants k

  one_idle : moving ≤ i → i - moving + 1 ≡ i + 1 - moving
  one_idle l = omega arith

  same_idle : i - moving ≡ i + 1 - (moving + 1)
  same_idle = omega arith

  pub work_idle : Here → i < length turns → member < 16 → more ≡ 0 → Then next t left moving counters noted
  work_idle w l b e =
      record {
        made = w.made;
        serials = w.serials;
        place = omega arith;
        few = omega (arith, w.few);
        words = w.words;
        parted = w.parted;
        rest =
            rw (← one_idle w.few)
            (sym (idle_at work headers buckets g counts cells next t w.made w.serials moving (i - moving) counters noted turns i l (omega (arith, w.parted.together member b))) ∙ w.rest);
      }

  module _ (w : Here) (l : i < length turns) (n first k : ℕ) (un : Unfinished n first k) (mv : Move) (u x : List ℕ) (e : (mv, (u, x)) ≡ work_move_of work next buckets t g counters n wants (get_or cells k 0) (get_or noted member 0)) (same : length u ≡ length t) where
    made_so_far : n ≡ get_or w.made member 0
    made_so_far = omega (arith, un.so_far, w.parted.together member un.counted)

    -- the crew behind the move
    abbrev moved_on : Crew
    moved_on = after mv u x (noted_by mv (eqb (n + 1) wants) noted x member (get_or cells first 0)) (crew_at next t w.made w.serials moving (i - moving) counters noted) member k

    go_on : (turns_of work headers buckets g counts cells moved_on (drop (i + 1) turns)).seen ≡ (turns_of work headers buckets g counts cells start turns).seen
    go_on =
        let f = subst (λ (j : ℕ). (mv, (u, x)) ≡ work_move_of work next buckets t g counters j wants (get_or cells k 0) (get_or noted member 0)) made_so_far e in
        let p = subst (λ (j : ℕ). Placed work first j wants k) made_so_far un.placed in
        rw made_so_far
        (ap (λ (o : Move × (List ℕ × List ℕ)). (turns_of work headers buckets g counts cells (crew_by work headers buckets g counts cells next t w.made w.serials moving (i - moving) counters noted member first k o) (drop (i + 1) turns)).seen) f
        ∙ sym (move_at_lem work headers buckets g counts cells next t w.made w.serials moving (i - moving) counters noted turns i first k l un.begins (omega (arith, un.counted, w.parted.made_length)) p (omega (arith, un.so_far, un.unfinished, made_so_far)))
        ∙ w.rest)

    pub work_tried : mv ≡ move.Idle → Then next u left moving x noted
    work_tried f =
        record {
          made = w.made;
          serials = w.serials;
          place = omega arith;
          few = omega (arith, w.few);
          words = same ∙ w.words;
          parted = w.parted;
          rest = rw (← one_idle w.few) (rw f at go_on);
        }

    pub work_took : (next' s : ℕ) → mv ≡ move.Took next' s → Then next' u (set left member (more - 1)) (moving + 1) x (noted_at (eqb (n + 1) wants) noted x member (get_or cells first 0))
    work_took next' s f =
        record {
          made = moved w.made member;
          serials = set w.serials k s;
          place = omega arith;
          few = omega (arith, w.few);
          words = same ∙ w.words;
          parted = one_made work counts w.made left member w.parted un.counted un.unfinished;
          rest = rw (← same_idle) (rw f at go_on);
        }

    pub work_moved : mv ≡ move.Moved → Then next u (set left member (more - 1)) (moving + 1) x noted
    work_moved f =
        record {
          made = moved w.made member;
          serials = w.serials;
          place = omega arith;
          few = omega (arith, w.few);
          words = same ∙ w.words;
          parted = one_made work counts w.made left member w.parted un.counted un.unfinished;
          rest = rw (← same_idle) (rw f at go_on);
        }

  -- past the last turn: what the loop hands back
  pub work_done : (w : Here) → length turns ≤ i → (made : List ℕ) → Others work counts left made 16
      → (turns_of work headers buckets g counts cells start turns).seen ≡ crew_at next t made w.serials moving (length turns - moving) counters noted
  work_done w l made o =
      let e : i ≡ length turns = omega (arith, w.place) in
      rw (made_is work counts w.made left made w.parted o)
      (sym w.rest ∙ turns_done work headers buckets g counts cells next t w.made w.serials moving (i - moving) counters noted turns i l
      ∙ ap (λ (n : ℕ). crew_at next t w.made w.serials moving (n - moving) counters noted) e)
