-- The two calls are runs in their work. Rounds as the replies tell them are rounds as the crew's state tells them, and the other way round.
use Rattle.std.specs.Prelude.{ℕ, ◌+◌, ◌-◌, ◌≤◌, ◌<◌, ◌≡◌, refl, List, [], ◌∷◌, ◌++◌, false, not, ◌||◌, ltb, eqb, length, get_or, Ok}
use Rattle.std.proofs.Common.{sym, ap, ◌∙◌, subst, append_assoc, append-nil, inl, inr, arith, length-append, le-ltb, leb-false, ltb-false}
use Rattle.std.proofs.lemmas.Bool.{lt-leb}
use Rattle.model.specs.Log.{Made}
use Rattle.model.specs.Arena.{within, cells_of}
use Rattle.model.specs.Refusals.{first}
use Rattle.model.specs.Checks.{bad_shape, bad_health}
use Rattle.model.specs.Crew.{Work, rests, adds, adds_of, total, count_of, all_within, bad_limits, bad_lists, bad_turns, crew_rules, crew_at_work_rules, Crew, crew_start, shift_of, crew_of, crew_at_work_of}
use Rattle.types.specs.declared.CrewReply.{CrewReply}
use Rattle.types.specs.declared.Head.{Head}
use Rattle.choice.specs.Pick.{neither}
use Rattle.laws.specs.Checks.{first_skip, first_append, fine_rest, fine_append}
use Rattle.laws.specs.Crew.{adds_few, at_work_fine}
use Rattle.crew_theory.specs.Statements.{In, flat, after, Rounds, RoundsSaid, RoundsAfter, RoundsAtWork, RoundsOver, Open, tabled}
use Rattle.crew_theory.specs.Turns.{turns_append, in_left}
use Rattle.crew_theory.proofs.Ended.{released_at}

-- ---- the premises with other turns

turns_fine : (members i : ℕ) (turns : List ℕ) → ((n : ℕ) → In n turns → n < members) → first (bad_turns members i turns) ≡ Ok tt
unfolding first bad_turns
turns_fine members i [] f = refl
turns_fine members i (n ∷ ns) f = rw (lt-leb members n (f n (inl refl))) (turns_fine members (i + 1) ns (λ m j. f m (inr j)))

fine_turns : (h : Head) (t g counts cells before turns : List ℕ) → first (crew_rules h t g counts cells before) ≡ Ok tt → ((n : ℕ) → In n turns → n < length counts) → length turns ≤ 65536
    → first (crew_rules h t g counts cells turns) ≡ Ok tt
unfolding crew_rules
fine_turns h t g counts cells before turns e f l =
    let a = fine_rest _ _ e in
    let b = fine_rest _ _ a.1 in
    let c = fine_rest _ _ b.1 in
    let lists = bad_lists (length counts) 0 (cells_of h) counts cells in
    let most = not (within 1 16 (length counts)) || not (all_within 64 counts) || ltb 256 (total counts) || not (eqb (length cells) (total counts)) in
    let d : most ≡ false = (neither most (ltb 65536 (length before)) c.0).0 in
    let limits_fine : (bad_limits counts cells turns).applies ≡ false = rw (d, le-ltb 65536 (length turns) l) in
    first_skip (bad_shape h t) _ a.0 ∙ first_skip (bad_health h g) _ b.0 ∙ first_skip (bad_limits counts cells turns) _ limits_fine
    ∙ first_append lists (bad_turns (length counts) 0 turns) ∙ rw (fine_append lists (bad_turns (length counts) 0 before) c.1).0 (turns_fine (length counts) 0 turns f)

pub open_turns : (h : Head) (t g counts cells turns : List ℕ) → Open h t g counts cells [] → ((n : ℕ) → In n turns → n < length counts) → length turns ≤ 65536
    → Open h t g counts cells turns
open_turns h t g counts cells turns o f l =
    record { fine = fine_turns h t g counts cells [] turns o.fine f l; free = o.free; unwaited = o.unwaited; healthy = o.healthy; serials = o.serials }

-- ---- the first of some turns

-- a turn that was not refused names a member
turns_name : (members i : ℕ) (turns : List ℕ) → first (bad_turns members i turns) ≡ Ok tt → (n : ℕ) → In n turns → n < members
unfolding bad_turns
turns_name members i [] e n k = absurd k
turns_name members i (m ∷ ms) e n k =
    let a = fine_rest _ _ e in
    elim k [ inl z ↦ omega (arith, leb-false members m a.0) | inr z ↦ turns_name members (i + 1) ms a.1 n z ]

fine_front : (h : Head) (t g counts cells before later : List ℕ) → first (crew_rules h t g counts cells (before ++ later)) ≡ Ok tt
    → first (crew_rules h t g counts cells before) ≡ Ok tt
unfolding crew_rules
fine_front h t g counts cells before later e =
    let a = fine_rest _ _ e in
    let b = fine_rest _ _ a.1 in
    let c = fine_rest _ _ b.1 in
    let d = fine_append (bad_lists (length counts) 0 (cells_of h) counts cells) (bad_turns (length counts) 0 (before ++ later)) c.1 in
    let most = not (within 1 16 (length counts)) || not (all_within 64 counts) || ltb 256 (total counts) || not (eqb (length cells) (total counts)) in
    let few = ltb-false 65536 (length (before ++ later)) (neither most (ltb 65536 (length (before ++ later))) c.0).1 in
    fine_turns h t g counts cells (before ++ later) before e (λ n k. turns_name (length counts) 0 (before ++ later) d.1 n (in_left n before later k))
    (omega (arith, length-append before later))

-- ---- the two calls are runs in their work

pub crew_is : (h : Head) (t g counts cells turns : List ℕ) → first (crew_rules h t g counts cells turns) ≡ Ok tt
    → crew_of h t g counts cells turns ≡ tabled (shift_of rests h t g counts cells turns [])
unfolding crew_of
crew_is h t g counts cells turns fine = rw (fine, append-nil (shift_of rests h t g counts cells turns []).log)

pub crew_at_work_is : (h : Head) (t g counts cells turns counters : List ℕ) → first (crew_at_work_rules h t g counts cells turns counters) ≡ Ok tt
    → crew_at_work_of h t g counts cells turns counters ≡ shift_of adds h t g counts cells turns counters
unfolding crew_at_work_of
crew_at_work_is h t g counts cells turns counters fine = rw fine

-- rounds by other replies that say the same to the first of these turns
rounds_same : (reply other : List ℕ → CrewReply) (counts turns : List ℕ) → ((before later : List ℕ) → turns ≡ before ++ later → reply before ≡ other before)
    → (before : List ℕ) (rs : List (List ℕ)) → turns ≡ before ++ flat rs → RoundsSaid reply counts before rs → RoundsSaid other counts before rs
rounds_same reply other counts turns same before [] e x = tt
rounds_same reply other counts turns same before (r ∷ rs) e x = (
  λ m u. x.0 m (u.0, rw (same before (r ++ flat rs) e) u.1),
  rounds_same reply other counts turns same (before ++ r) rs (e ∙ sym (append_assoc before r (flat rs))) x.1,
)

module _ (h : Head) (t g counts cells turns : List ℕ) (fine : first (crew_rules h t g counts cells turns) ≡ Ok tt) where
  prefix_fine : (before later : List ℕ) → turns ≡ before ++ later → first (crew_rules h t g counts cells before) ≡ Ok tt
  prefix_fine before later e = fine_front h t g counts cells before later (subst (λ (ts : List ℕ). first (crew_rules h t g counts cells ts) ≡ Ok tt) e fine)

  -- what the crew replies to the first turns
  crew_replies : (before later : List ℕ) → turns ≡ before ++ later
      → (crew_of h t g counts cells before).seen.0 ≡ (shift_of rests h t g counts cells before []).seen.0
  crew_replies before later e = ap (λ (o : Made (CrewReply × List ℕ)). o.seen.0) (crew_is h t g counts cells before (prefix_fine before later e))

  crew_at_work_replies : (counters : List ℕ) → length counters ≡ cells_of h → (before later : List ℕ) → turns ≡ before ++ later
      → (crew_at_work_of h t g counts cells before counters).seen.0 ≡ (shift_of adds h t g counts cells before counters).seen.0
  crew_at_work_replies counters wide before later e =
      ap (λ (o : Made (CrewReply × (List ℕ × List ℕ))). o.seen.0)
      (crew_at_work_is h t g counts cells before counters (at_work_fine h t g counts cells before counters wide (prefix_fine before later e)))

module _ (h : Head) (t g counts cells : List ℕ) (rounds : List (List ℕ)) (fine : first (crew_rules h t g counts cells (flat rounds)) ≡ Ok tt) where
  -- so rounds by one are rounds by the other
  pub crew_rounds : RoundsAfter crew_of h t g counts cells [] rounds → RoundsOver rests h t g counts cells [] [] rounds
  crew_rounds = rounds_same _ _ counts (flat rounds) (crew_replies h t g counts cells (flat rounds) fine) [] rounds refl

  pub rounds_crew : RoundsOver rests h t g counts cells [] [] rounds → RoundsAfter crew_of h t g counts cells [] rounds
  rounds_crew = rounds_same _ _ counts (flat rounds) (λ before later e. sym (crew_replies h t g counts cells (flat rounds) fine before later e)) [] rounds refl

  module _ (counters : List ℕ) (wide : length counters ≡ cells_of h) where
    pub crew_at_work_rounds : RoundsAtWork crew_at_work_of h t g counts cells counters [] rounds → RoundsOver adds h t g counts cells counters [] rounds
    crew_at_work_rounds = rounds_same _ _ counts (flat rounds) (crew_at_work_replies h t g counts cells (flat rounds) fine counters wide) [] rounds refl

    pub rounds_crew_at_work : RoundsOver adds h t g counts cells counters [] rounds → RoundsAtWork crew_at_work_of h t g counts cells counters [] rounds
    rounds_crew_at_work =
        rounds_same _ _ counts (flat rounds) (λ before later e. sym (crew_at_work_replies h t g counts cells (flat rounds) fine counters wide before later e)) [] rounds refl

-- ---- rounds

module _ (work : Work) (h : Head) (t g counts cells counters : List ℕ) (few : length counts ≤ 16) where
  abbrev state : List ℕ → Crew
  state before = after work h g counts cells (crew_start h t counters) before

  -- what the reply to some turns says that a member released
  pub said : (before : List ℕ) (m : ℕ) → m < length counts
      → get_or (shift_of work h t g counts cells before counters).seen.0.released m 0 ≡ get_or (state before).made m 0 - (count_of counts m + adds_of work (count_of counts m))
  unfolding shift_of
  said before m l = released_at work counts (state before).made m (omega arith)

  pub by_state : (before : List ℕ) (rs : List (List ℕ)) → RoundsOver work h t g counts cells counters before rs → Rounds work h g counts cells (state before) rs
  by_state before [] x = tt
  by_state before (r ∷ rs) x = (
    λ m u. x.0 m (u.0, omega (arith, said before m u.0, u.1, adds_few work (count_of counts m))),
    subst (λ (w : Crew). Rounds work h g counts cells w rs) (turns_append work h g counts cells (crew_start h t counters) before r) (by_state (before ++ r) rs x.1),
  )

  pub by_replies : (before : List ℕ) (rs : List (List ℕ)) → Rounds work h g counts cells (state before) rs → RoundsOver work h t g counts cells counters before rs
  by_replies before [] x = tt
  by_replies before (r ∷ rs) x = (
    λ m u. x.0 m (u.0, omega (arith, said before m u.0, u.1)),
    by_replies (before ++ r) rs (subst (λ (w : Crew). Rounds work h g counts cells w rs) (sym (turns_append work h g counts cells (crew_start h t counters) before r)) x.1),
  )
