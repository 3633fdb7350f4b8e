-- Every turn keeps it: the counters are those of the replay so far, but for the adds still owed.
use Rattle.std.specs.Prelude.{ℕ, ◌+◌, ◌≤◌, ◌<◌, ◌≡◌, refl, length}
use Rattle.std.proofs.Math.Path.{ap}
use Rattle.std.proofs.Common.{◌∙◌, subst, arith, length-set, get_or-set_same, eq-eqb, ne_eqb}
use mathlib.Core.List.{List, [], ◌∷◌}
use Rattle.std.proofs.Math.ListN.{get_or}
use Rattle.model.specs.Log.{Event}
use Rattle.model.specs.Arena.{cells_of, state_at}
use Rattle.model.specs.Crew.{adds, moves_of, summed_of, count_of, Crew, crew_start, moved, turn_of, turns_of, order_of}
use Rattle.types.specs.declared.Head.{Head}
use Rattle.types.specs.declared.State.TheVariants as state
use Rattle.laws.specs.Lists.{zeros}
use Rattle.laws.specs.Crew.{member}
use Rattle.history.specs.Tests.{free_words}
use Rattle.crew_theory.specs.Statements.{wish, chore, lowest, with_take, with_add, with_release, Turn, idled, grabbed, summed, gave}
use Rattle.crew_theory.specs.Lists.{Fits}
use Rattle.crew_theory.specs.Turns.{turn_is}
use Rattle.crew_theory.proofs.Whole.{Shown, in_made, turn_shown, start_shown}
use Rattle.crew_at_work_theory.specs.Statements.{whole_by, replay_by}
use Rattle.crew_at_work_theory.specs.Orders.{Fills, names_none, names_one, turn_fills, order_append, run, log_of}
use Rattle.crew_at_work_theory.specs.Wholes.{whole_length, replay_append}
use Rattle.crew_at_work_theory.proofs.Due.{Owed, still, filled, raised, level}

-- the counters, and what was noted for each member, beside the replay r so far
pub record Good (h : Head) (words : ℕ) (counts cells : List ℕ) (fit : Fits h words counts cells) (w : Crew) (r : List ℕ) : Type 0 where
  pub shown : Shown adds h words counts cells fit w
  pub notes : length w.noted ≡ 16
  pub wide : length w.counters ≡ cells_of h
  pub replay_wide : length r ≡ cells_of h
  pub owed : Owed summed_of counts cells w.made w.counters w.noted r

module _ (h : Head) (words : ℕ) (counts cells : List ℕ) (fit : Fits h words counts cells) (g : List ℕ) where
  abbrev pub Goes : Crew → List ℕ → Type 0
  Goes w r = Good h words counts cells fit w r

  abbrev replay : List ℕ → List ℕ → List ℕ
  replay r ms = replay_by summed_of counts cells r ms

  -- the same state, a move on: what is to be shown of its counters
  abbrev Kept : Crew → List ℕ → Type 0
  Kept v r = (length v.noted ≡ 16) × (length v.counters ≡ cells_of h) × (length r ≡ cells_of h) × Owed summed_of counts cells v.made v.counters v.noted r

  module _ (w : Crew) (m : ℕ) (r : List ℕ) (s : Goes w r) where
    module _ (l : get_or w.made m 0 < count_of counts m) (free : state_at w.next w.table (wish counts cells w.made m) ≡ state.Free) where
      room : m < length w.made
      room = in_made adds h words counts cells fit w m s.shown (omega arith)

      now : get_or (moved w.made m) m 0 ≡ get_or w.made m 0 + 1
      now = get_or-set_same w.made m (get_or w.made m 0 + 1) 0 room

      -- the last take: the replay runs the whole member
      filled_kept : get_or w.made m 0 + 1 ≡ count_of counts m → Kept (with_take counts cells w m) (whole_by summed_of counts cells r m)
      filled_kept p =
          rw (eq-eqb (get_or (moved w.made m) m 0) (count_of counts m) (now ∙ p)) (
            length-set w.noted m (get_or w.counters (lowest counts cells m) 0) ∙ s.notes,
            s.wide,
            whole_length summed_of counts cells r m ∙ s.replay_wide,
            filled summed_of counts cells w.made w.counters w.noted r m room s.owed h words fit w.next w.table w.serials s.shown l p
                (free_words w.next w.table (wish counts cells w.made m) free).0 s.replay_wide (omega (arith, member counts m (omega arith), fit.few, s.notes)),
          )

      -- another: the member owes nothing yet
      took_kept : get_or (moved w.made m) m 0 < count_of counts m → Kept (with_take counts cells w m) r
      took_kept p =
          rw (ne_eqb (get_or (moved w.made m) m 0) (count_of counts m) (λ (z : get_or (moved w.made m) m 0 ≡ count_of counts m). omega arith)) (
            s.notes,
            s.wide,
            s.replay_wide,
            still summed_of counts cells w.made w.counters w.noted r m room s.owed (λ j d. omega (arith, d.0)) (λ j d. omega (arith, d.0)),
          )

    added_kept : count_of counts m ≤ get_or w.made m 0 → get_or w.made m 0 < count_of counts m + count_of counts m → Kept (with_add counts cells w m) r
    added_kept a b = (
      s.notes,
      length-set w.counters (chore counts cells w.made m) (summed_of (get_or w.counters (chore counts cells w.made m) 0) (get_or w.noted m 0)) ∙ s.wide,
      s.replay_wide,
      raised summed_of counts cells w.made w.counters w.noted r m (in_made adds h words counts cells fit w m s.shown (omega arith)) s.owed h words fit w.next w.table w.serials
          s.shown a b s.wide,
    )

    gave_kept : count_of counts m + count_of counts m ≤ get_or w.made m 0 → get_or w.made m 0 < moves_of adds (count_of counts m) → Kept (with_release counts cells adds w m) r
    gave_kept a b =
        let room = in_made adds h words counts cells fit w m s.shown (omega arith) in
        let now = get_or-set_same w.made m (get_or w.made m 0 + 1) 0 room in (
          s.notes,
          s.wide,
          s.replay_wide,
          still summed_of counts cells w.made w.counters w.noted r m room s.owed (λ j d. omega (arith, d.1, d.2)) (λ j d. omega (arith, d.1, d.2)),
        )

  turn_kept : {w v : Crew} {m : ℕ} {log : List Event} {r : List ℕ} → Goes w r → Turn adds h.buckets g counts cells w m v log → Fills h words counts cells fit g w m v log
      → Kept v (replay r (order_of log))
  unfolding replay_by
  turn_kept s (idled i e q) (names_none z f) = rw (z, e) (s.notes, s.wide, s.replay_wide, s.owed)
  turn_kept {w} {m = m} s (idled i e q) (names_one z a b) = absurd (omega (arith, ap (λ (c : Crew). get_or c.made m 0) e))
  turn_kept {w} {m = m} {r = r} s (grabbed l free e q) (names_one z a b) = rw (z, e) (filled_kept w m r s l free.is_free_lem a)
  turn_kept {w} {m = m} {r = r} s (grabbed l free e q) (names_none z f) =
      rw (z, e) (took_kept w m r s l free.is_free_lem (subst (λ (c : Crew). get_or c.made m 0 < count_of counts m) e (f l)))
  turn_kept {w} {m = m} {r = r} s (summed a b e q) (names_none z f) = rw (z, e) (added_kept w m r s a b)
  turn_kept s (summed a b e q) (names_one z c d) = absurd (omega arith)
  turn_kept {w} {m = m} {r = r} s (gave a b e q) (names_none z f) = rw (z, e) (gave_kept w m r s a b)
  turn_kept s (gave a b e q) (names_one z c d) = absurd (omega arith)

  turn_good : {w v : Crew} {m : ℕ} {log : List Event} {r : List ℕ} → Goes w r → Turn adds h.buckets g counts cells w m v log → Goes v (replay r (order_of log))
  turn_good s p =
      let k = turn_kept s p (turn_fills h words counts cells fit g s.shown p) in
      record { shown = turn_shown adds h words counts cells fit g s.shown p; notes = k.0; wide = k.1; replay_wide = k.2; owed = k.3 }

  -- ---- over any turns

  pub turns_good : (w : Crew) (ms r : List ℕ) → Goes w r → Goes (run h words counts cells fit g w ms) (replay r (order_of (log_of h words counts cells fit g w ms)))
  unfolding turns_of order_of replay_by
  turns_good w [] r s = s
  turns_good w (m ∷ ms) r s =
      let o = turn_of adds h.headers h.buckets g counts cells w m in
      let rest = log_of h words counts cells fit g o.seen ms in
      rw (order_append o.log rest, replay_append summed_of counts cells r (order_of o.log) (order_of rest))
      (turns_good o.seen ms (replay r (order_of o.log)) (turn_good s (turn_is adds h.buckets g counts cells h.headers w m)))

  pub start_good : (t counters : List ℕ) → length t ≡ words → length counters ≡ cells_of h → Goes (crew_start h t counters) counters
  start_good t counters e f =
      record {
        shown = start_shown adds h words counts cells fit t counters e;
        notes = refl;
        wide = f;
        replay_wide = f;
        owed = record { due = λ q j d. absurd (omega (arith, zeros 16 q)); settled = λ c. level refl };
      }
