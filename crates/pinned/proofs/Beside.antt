-- Beside a build's calls: the crew's whole reply with its log, a lone foreign step with its event, and preparing. Ours is as `Statements` says, and nothing else is.
-- ---- the crew
use Rattle.std.specs.Prelude.{ℕ, ◌≡◌, refl, List, [], Bool, true, false, not, ◌≢◌, length, replicate}
use Rattle.std.proofs.Common.{sym, ap, ◌∙◌, append-nil, inl, inr}
use Rattle.std.proofs.Math.Path.{fun_ext}
use Rattle.model.specs.Arena.{head_of, spent_to, shape_fits, health_fits}
use Rattle.model.specs.Refusals.{first}
use Rattle.model.specs.Foreign.{step_of}
use Rattle.model.specs.Checks.{prepare_rules}
use Rattle.model.specs.Calls.{given, prepare_of}
use Rattle.model.specs.Crew.{Work, rests, adds, adds_of, crew_start, taken_of, released_of, turns_of, shift_of, crew_of, crew_at_work_of}
use Rattle.model.specs.Crew as model
use Rattle.types.specs.declared.Answer.TheVariants.{Done, Refused}
use Rattle.types.specs.declared.CrewReply.{CrewReply}
use Rattle.types.specs.declared.Head.{Head}
use Rattle.types.specs.declared.Refusal.TheVariants.{BadShape}
use Rattle.history.specs.World.{World, world_of}
use Rattle.history.specs.Items.{Stepper, rules, foreign, crew, crew_at_work}
use Rattle.history.specs.Judged.{clear_fine}
use Rattle.history.specs.Statements.{CrewBuild, CrewAtWorkBuild}
use Rattle.pinned.specs.Words.{Is, If◌Then◌Else◌, logged, head_of_lem, Shape}
use Rattle.pinned.specs.Checks.{checks}
use Rattle.pinned.specs.Steps.{Crew, gathered}
use Rattle.pinned.specs.Statements.{Crews, Works, replying, StepsAlone, Preparer, PreparesArena, prepared}
use Rattle.pinned.specs.Decided.{Decides}
use Rattle.pinned.proofs.Decided.{matched, first_is, passed_clear, decided, shape_decides, health_decides}
use Rattle.pinned.proofs.Stepping.{step_is}
use Rattle.pinned.proofs.Crewed.{look, looking, turns_are, taken_so, released_so}
use Rattle.pinned.specs.Same.{is_same, if_same, seen_same, step_same, turns_same}
use Rattle.pinned.specs.Beside.{ours}

module _ (h : Head) (g counts : List ℕ) where
  abbrev told : (work : Work) → model.Crew → CrewReply
  told work v =
      record {
        head = spent_to h v.next;
        moving = v.moving;
        idle = v.idle;
        taken = taken_of 16 0 counts v.made;
        released = released_of work 16 0 counts v.made;
        answer = Done;
      }

  replies : (cells : List ℕ) (work : Work) (v : model.Crew) → told work v ≡ replying (adds_of work) counts (look h g counts cells v)
  replies cells work v = rw (taken_so h g counts cells work 16 0 v.made, released_so h g counts cells work 16 0 v.made)

pub crews : Crews crew_of
unfolding crew_of shift_of
crews =
    record {
      refused = λ h t g counts cells turns r f.
          let w = world_of h t g in
          let k = crew counts cells turns in
          rw (first_is (rules w k) (checks w k) r (matched w k) f);
      beyond = λ h t g counts cells turns p.
          let w = world_of h t g in
          let k = crew counts cells turns in
          let m = turns_of rests h.headers h.buckets g counts cells (crew_start h t []) turns in
          let v = m.seen in
          let fine = clear_fine (rules w k) (passed_clear (rules w k) (checks w k) (matched w k) p) in
          let all : crew_of h t g counts cells turns ≡ logged (told h g counts rests v, v.table) m.log = rw fine (simp append-nil) in (
            looking h g counts cells m,
            turns_are h g counts cells rests (crew_start h t []) turns,
            all ∙ ap (λ (x : CrewReply). logged (x, v.table) m.log) (replies h g counts cells rests v),
          );
    }

pub works : Works crew_at_work_of
unfolding crew_at_work_of shift_of
works =
    record {
      refused = λ h t g counts cells turns counters r f.
          let w = world_of h t g in
          let k = crew_at_work counts cells turns counters in
          rw (first_is (rules w k) (checks w k) r (matched w k) f);
      beyond = λ h t g counts cells turns counters p.
          let w = world_of h t g in
          let k = crew_at_work counts cells turns counters in
          let m = turns_of adds h.headers h.buckets g counts cells (crew_start h t counters) turns in
          let v = m.seen in
          let fine = clear_fine (rules w k) (passed_clear (rules w k) (checks w k) (matched w k) p) in
          let all : crew_at_work_of h t g counts cells turns counters ≡ logged (told h g counts adds v, (v.table, v.counters)) m.log = rw fine (simp append-nil) in (
            looking h g counts cells m,
            turns_are h g counts cells adds (crew_start h t counters) turns,
            all ∙ ap (λ (x : CrewReply). logged (x, (v.table, v.counters)) m.log) (replies h g counts cells adds v),
          );
    }

pub no_other_crew : (f : CrewBuild) → Crews f → (h : Head) (t g counts cells turns : List ℕ) → f h t g counts cells turns ≡ crew_of h t g counts cells turns
no_other_crew f c h t g counts cells turns =
    let w = world_of h t g in
    let k = crew counts cells turns in
    elim (decided (rules w k) (checks w k) (matched w k)) [
      | inl r ↦ c.refused h t g counts cells turns r.0 r.1 ∙ sym (crews.refused h t g counts cells turns r.0 r.1)
      | inr p ↦ seen_same (λ v. (replying (λ n. 0) counts v, v.world.table)) (turns_same (λ n. 0) counts cells (gathered w []) turns) _ _ (c.beyond h t g counts cells turns p) (crews.beyond h t g counts cells turns p)
    ]

pub no_other_work : (f : CrewAtWorkBuild) → Works f → (h : Head) (t g counts cells turns counters : List ℕ)
    → f h t g counts cells turns counters ≡ crew_at_work_of h t g counts cells turns counters
no_other_work f c h t g counts cells turns counters =
    let w = world_of h t g in
    let k = crew_at_work counts cells turns counters in
    elim (decided (rules w k) (checks w k) (matched w k)) [
      | inl r ↦ c.refused h t g counts cells turns counters r.0 r.1 ∙ sym (works.refused h t g counts cells turns counters r.0 r.1)
      | inr p ↦ seen_same (λ v. (replying (λ n. n) counts v, (v.world.table, v.counters))) (turns_same (λ n. n) counts cells (gathered w counters) turns) _ _ (c.beyond h t g counts cells turns counters p) (works.beyond h t g counts cells turns counters p)
    ]

-- as functions
pub crew_is_ours : (f : CrewBuild) → Crews f → f ≡ crew_of
crew_is_ours f c = fun_ext (λ h. fun_ext (λ t. fun_ext (λ g. fun_ext (λ counts. fun_ext (λ cells. fun_ext (λ turns. no_other_crew f c h t g counts cells turns))))))

pub work_is_ours : (f : CrewAtWorkBuild) → Works f → f ≡ crew_at_work_of
work_is_ours f c =
    fun_ext (λ h. fun_ext (λ t. fun_ext (λ g. fun_ext (λ counts. fun_ext (λ cells. fun_ext (λ turns. fun_ext (λ counters. no_other_work f c h t g counts cells turns counters)))))))

-- ---- a lone foreign step

pub steps_alone : StepsAlone foreign
unfolding foreign
steps_alone w kind place number =
    let m = step_of (given w.head [] []) w.head.next w.table w.health kind place number in
    let v = world_of (spent_to w.head m.seen.0.next) m.seen.1.0 m.seen.1.1 in
    (_, step_is w.head [] [] w.head.next w.table w.health kind place number, ap (logged v) (append-nil m.log))

pub no_other_step : (f : Stepper) → StepsAlone f → (w : World) (kind place number : ℕ) → f w kind place number ≡ foreign w kind place number
no_other_step f s w kind place number =
    seen_same (λ (x : World × ℕ). x.0) (step_same w [] kind place number) _ _ (s w kind place number) (steps_alone w kind place number)

pub prepares : PreparesArena ours
unfolding prepare_of prepare_rules first
prepares headers buckets serial boot t g =
    go (shape_fits h (length t)) (health_fits h (length g)) (shape_decides h (length t)) (health_decides h (length g)) refl refl
  where
    h : Head
    h = head_of headers buckets serial boot

    go : (x y : Bool) → Decides (not (shape_fits h (length t))) (Shape h (length t) → ⊥) → Decides (not (health_fits h (length g))) (length g ≢ headers)
        → shape_fits h (length t) ≡ x → health_fits h (length g) ≡ y
        → If◌Then◌Else◌ (Shape h (length t) → ⊥) (Is (logged (prepared (head_of_lem 0 0 0 0) (Refused BadShape), (t, g)) []))
        (If◌Then◌Else◌ (length g ≢ headers) (Is (logged (prepared (head_of_lem 0 0 0 0) (Refused BadShape), (t, g)) []))
        (Is (logged (prepared h Done, (replicate (length t) 0, replicate (length g) 0)) []))) (prepare_of headers buckets serial boot t g)
    go true true s b e f = inr (s.1 (ap not e), inr (b.1 (ap not f), rw (e, f)))
    go true false s b e f = inr (s.1 (ap not e), inl (b.0 (ap not f), rw (e, f)))
    go false y s b e f = inl (s.0 (ap not e), rw e)

pub no_other_preparer : (f : Preparer) → PreparesArena f → (headers buckets serial boot : ℕ) (t g : List ℕ) → f headers buckets serial boot t g ≡ prepare_of headers buckets serial boot t g
no_other_preparer f p headers buckets serial boot t g =
    if_same is_same (if_same is_same is_same) _ _ (p headers buckets serial boot t g) (prepares headers buckets serial boot t g)
