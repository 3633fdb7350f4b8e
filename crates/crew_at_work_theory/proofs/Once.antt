-- The call's own result: what it is where it is not refused, whom its order names, and what members still owe as the log tells it.
use Rattle.std.specs.Prelude.{ℕ, ◌+◌, ◌-◌, min, ◌≤◌, ◌<◌, ◌≡◌, refl, List, ◌⊎◌, length, get_or, Ok, Err}
use Rattle.std.proofs.Common.{sym, ◌∙◌, append-nil, inl, inr, arith, le-leb}
use Rattle.std.proofs.Math.Decide.{dec_lt}
use Rattle.std.proofs.lemmas.Bool.{lt-leb}
use Rattle.types.specs.Checks.{Check}
use Rattle.model.specs.Log.{Made, Event}
use Rattle.model.specs.Arena.{cells_of, spent_to}
use Rattle.model.specs.Refusals.{first}
use Rattle.model.specs.Crew.{adds, moves_of, summed_of, start_of, count_of, crew_at_work_rules, Crew, crew_start, taken_of, released_of, shift_of, crew_at_work_of, order_of}
use Rattle.types.specs.declared.Answer.TheVariants.{Done}
use Rattle.types.specs.declared.CrewReply.{CrewReply}
use Rattle.types.specs.declared.Head.{Head}
use Rattle.laws.specs.Lists.{zeros}
use Rattle.laws.specs.Crew.{member, fine_at_work}
use Rattle.crew_theory.specs.Statements.{In, named, adds_of_lem}
use Rattle.crew_theory.specs.Lists.{Fits, fits}
use Rattle.crew_theory.proofs.Seen.{crew_at_work_is}
use Rattle.crew_theory.proofs.Ended.{taken_at, released_at}
use Rattle.crew_theory.proofs.Told.{turns_tally, turns_named}
use Rattle.crew_theory.proofs.Whole.{Shown, start_shown}
use Rattle.crew_at_work_theory.specs.Statements.{AllFinished, Owes, times, NamedSo}
use Rattle.crew_at_work_theory.specs.Orders.{in_times, times_in, held_all, run, log_of, turns_grow}
use Rattle.crew_at_work_theory.specs.Wholes.{whole_none}
use Rattle.crew_at_work_theory.specs.Due.{Due}

-- a reply that says done was not refused
pub done_fine : (h : Head) (t g counts cells turns counters : List ℕ) → (crew_at_work_of h t g counts cells turns counters).seen.0.answer ≡ Done
    → first (crew_at_work_rules h t g counts cells turns counters) ≡ Ok tt
unfolding crew_at_work_of
done_fine h t g counts cells turns counters e = go (first (crew_at_work_rules h t g counts cells turns counters)) refl
  where
    go : (k : Check) → first (crew_at_work_rules h t g counts cells turns counters) ≡ k → first (crew_at_work_rules h t g counts cells turns counters) ≡ Ok tt
    go (Ok tt) p = p
    go (Err r) p = let q = rw p at e in let z : ◌≡◌ {A = ℕ} 0 1 = cc in absurd (omega arith)

module _ (h : Head) (t g counts cells turns counters : List ℕ) (fine : first (crew_at_work_rules h t g counts cells turns counters) ≡ Ok tt) where
  pub fit : Fits h (length t) counts cells
  fit = fits h t g counts cells turns (fine_at_work h t g counts cells turns counters fine).1

  pub wide : length counters ≡ cells_of h
  wide = (fine_at_work h t g counts cells turns counters fine).0

  abbrev pub end : Crew
  end = run h (length t) counts cells fit g (crew_start h t counters) turns

  abbrev pub log : List Event
  log = log_of h (length t) counts cells fit g (crew_start h t counters) turns

  x : Shown adds h (length t) counts cells fit (crew_start h t counters)
  x = start_shown adds h (length t) counts cells fit t counters refl

  abbrev pub reply : CrewReply
  reply =
      record {
        head = spent_to h end.next;
        moving = end.moving;
        idle = end.idle;
        taken = taken_of 16 0 counts end.made;
        released = released_of adds 16 0 counts end.made;
        answer = Done;
      }

  abbrev pub result : Made (CrewReply × (List ℕ × List ℕ))
  result = record { seen = (reply, (end.table, end.counters)); log = log }

  pub result_is : crew_at_work_of h t g counts cells turns counters ≡ result
  unfolding shift_of
  result_is = crew_at_work_is h t g counts cells turns counters fine ∙ rw (append-nil log)

  -- ---- who is named

  grown : (m : ℕ) → times m (order_of log) + held_all (count_of counts m) 0 ≡ held_all (count_of counts m) (get_or end.made m 0)
  grown m = rw (zeros 16 m) at (turns_grow h (length t) counts cells fit g m (crew_start h t counters) turns x)

  some_none : (m : ℕ) → 1 ≤ count_of counts m → held_all (count_of counts m) 0 ≡ 0
  some_none m l = rw (lt-leb (count_of counts m) 0 l)

  named_full : (m : ℕ) → 1 ≤ count_of counts m → count_of counts m ≤ get_or end.made m 0 → times m (order_of log) ≡ 1
  named_full m l k =
      let a : held_all (count_of counts m) (get_or end.made m 0) ≡ 1 = rw (le-leb (count_of counts m) (get_or end.made m 0) k) in
      omega (arith, grown m, some_none m l)

  named_not : (m : ℕ) → get_or end.made m 0 < count_of counts m → times m (order_of log) ≡ 0
  named_not m k =
      let a : held_all (count_of counts m) (get_or end.made m 0) ≡ 0 = rw (lt-leb (count_of counts m) (get_or end.made m 0) k) in
      omega (arith, grown m, some_none m (omega arith))

  named_empty : (m : ℕ) → count_of counts m ≡ 0 → times m (order_of log) ≡ 0
  named_empty m e =
      let a : held_all (count_of counts m) 0 ≡ 1 = rw (le-leb (count_of counts m) 0 (omega arith)) in
      let b : held_all (count_of counts m) (get_or end.made m 0) ≡ 1 = rw (le-leb (count_of counts m) (get_or end.made m 0) (omega arith)) in
      omega (arith, grown m)

  pub at_most_once : (m : ℕ) → times m (order_of log) ≤ 1
  at_most_once m = go (dec_lt (get_or end.made m 0) (count_of counts m)) (dec_lt 0 (count_of counts m))
    where
      go : Dec (get_or end.made m 0 < count_of counts m) → Dec (0 < count_of counts m) → times m (order_of log) ≤ 1
      go (yes l) d = omega (arith, named_not m l)
      go (no l) (yes d) = omega (arith, named_full m d (omega arith))
      go (no l) (no d) = omega (arith, named_empty m (omega arith))

  -- ---- its adds, by the log

  adds_so_far : (m : ℕ) → m < length counts → adds_of_lem m log ≡ min (get_or end.made m 0 - count_of counts m) (count_of counts m)
  adds_so_far m l =
      let tally = (turns_tally adds h g counts cells m (crew_start h t counters) turns (omega (arith, fit.few))).adds_are in
      let none : min (get_or (crew_start h t counters).made m 0 - count_of counts m) (count_of counts m) ≡ 0 = omega (arith, zeros 16 m) in
      turns_named adds h g counts cells m (crew_start h t counters) turns ∙ sym (tally ∙ rw none (omega arith))

  -- what is owed by the state is owed by the log
  pub owes_so : (m j : ℕ) → Due counts end.made m j → Owes counts cells log (named cells (start_of counts m + j))
  owes_so m j d =
      let some : 1 ≤ count_of counts m = omega (arith, d.2) in
      (m, j, times_in m (order_of log) (omega (arith, named_full m some d.0)), omega (arith, adds_so_far m (member counts m some), d.0, d.1), d.2, refl)

  -- a member that has finished, or has not come to hold all, owes nothing
  pub owes_none : (m j : ℕ) → In m (order_of log) → adds_of_lem m log ≤ j → j < count_of counts m
      → (get_or reply.released m 0 ≡ count_of counts m) ⊎ (get_or reply.taken m 0 < count_of counts m) → ⊥
  owes_none m j i a b (inl e) =
      let l = member counts m (omega arith) in
      omega (arith, adds_so_far m l, released_at adds counts end.made m (omega (arith, fit.few)))
  owes_none m j i a b (inr e) =
      let l = member counts m (omega arith) in
      let k = taken_at counts end.made m (omega (arith, fit.few)) in
      omega (arith, in_times m (order_of log) i, named_not m (omega arith))

  -- ---- what the reply tells

  pub named_so : (m : ℕ) → m < length counts → NamedSo counts cells m reply log
  named_so m l =
      let k = taken_at counts end.made m (omega (arith, fit.few)) in
      record {
        full = λ s e. named_full m s (omega arith);
        not_full = λ s e. named_not m (omega arith);
        no_cells = λ e. (named_empty m e, omega (arith, adds_so_far m l), λ c. whole_none summed_of counts cells c m e);
      }

  pub all_moved : AllFinished counts reply → (m : ℕ) → m < length counts → moves_of adds (count_of counts m) ≤ get_or end.made m 0
  all_moved all m l = omega (arith, all m l, released_at adds counts end.made m (omega (arith, fit.few)))
