-- One boundary over a script with takes exchanged too.
use Rattle.std.specs.Prelude.{ℕ, suc, ◌+◌, ◌-◌, ◌≡◌, refl, List, [], ◌∷◌, ◌++◌, Bool, true, false, eqb, length, get_or, if◌then◌else◌, Ok, Err}
use Rattle.std.proofs.Common.{sym, ap, ◌∙◌, arith, eqb-true}
use Rattle.types.specs.Checks.{Check}
use Rattle.model.specs.Log.{Made, gives, ◌>>=◌}
use Rattle.model.specs.Arena.{holds_of}
use Rattle.model.specs.Refusals.{first, judge}
use Rattle.model.specs.Foreign.{Setting, steps_in, kind_at, flow_of, run_steps_of, boundary_of}
use Rattle.model.specs.Lock.{run_of}
use Rattle.model.specs.Checks.{script_rules}
use Rattle.model.specs.Calls.{given, script_reply, refused_at_once, environment_of}
use Rattle.types.specs.declared.Answer.TheVariants.{Done}
use Rattle.types.specs.declared.Hold.{Hold}
use Rattle.types.specs.declared.ScriptReply.{ScriptReply}
use Rattle.types.specs.declared.Refusal.{Refusal}
use Rattle.history.specs.World.{World}
use Rattle.swaps.specs.Steps.{Step, step_words, after_all, dropped_in}
use Rattle.swaps.specs.Renaming.{renamed_owners, renamed_step, renamed_steps, Retaken, same, neighbours, two_takes, idle_take, behind, onward}
use Rattle.swaps.specs.Scripts.{script_of, Unended, Ended, ends}
use Rattle.swaps.specs.Statements.{BoundaryRuns, ReplyRenamed, EnvironmentRetaken}
use Rattle.swaps.proofs.Owners.{identity}
use Rattle.swaps.proofs.Retakes.{steps_retake}
use Rattle.swaps.specs.Boundaries.{goes_on}
use Rattle.swaps.proofs.Boundaries.{goes_through, stand, turn_last, same_length, steps_in_lem, word_on}

-- ---- one boundary

-- a boundary that has run the stretch
last : (e : Setting) (v : World) (pre ss post : List Step) (d : ℕ) → e.script ≡ script_of (pre ++ (ss ++ post)) → Ended post
    → goes_on (length post) e v (length pre + length ss) d ≡ (flow_of v.head.next (length pre + length ss + ends post) d, (v.table, v.health))
unfolding run_steps_of script_of
last e v pre ss [] d s x = ap (λ (p : ℕ). (flow_of v.head.next p d, (v.table, v.health))) (omega arith)
last e v pre ss (q ∷ post) d s x =
    turn_last (length post) e (flow_of v.head.next (length pre + length ss) d) v.table v.health
    (ap (λ (script : List ℕ). kind_at script (length pre + length ss)) s
    ∙ ap (λ (i : ℕ). get_or (script_of (pre ++ (ss ++ (q ∷ post)))) i 0) (omega arith) ∙ word_on pre ss (q ∷ post) 0 ∙ x)

pub boundary_goes : BoundaryRuns
unfolding boundary_of
boundary_goes ps w pre ss post d u x =
    let script = script_of (pre ++ (ss ++ post)) in
    goes_through (steps_in script - length pre) (length post) ps script w (length pre) d ss (omega (arith, steps_in_lem pre ss post)) (stand pre ss post) u
    ∙ last (given w.head script ps) (after_all ps w ss) pre ss post (d + dropped_in ps w ss) refl x

-- ---- what exchanges keep of a list of steps

kind_kept : (to : ℕ → ℕ) (s : Step) → (renamed_step to s).kind ≡ s.kind
unfolding renamed_step
kind_kept to s = go (eqb s.kind 2) refl
  where
    go : (b : Bool) → eqb s.kind 2 ≡ b → (if b then step_words 2 s.place (to s.number) else s).kind ≡ s.kind
    go true e = sym (eqb-true s.kind 2 e)
    go false e = refl

renamed_unended : (to : ℕ → ℕ) (ss : List Step) → Unended ss → Unended (renamed_steps to ss)
unfolding renamed_steps
renamed_unended to [] u = tt
renamed_unended to (s ∷ ss) u = ((λ e. u.0 (sym (kind_kept to s) ∙ e)), renamed_unended to ss u.1)

renamed_length : (to : ℕ → ℕ) (ss : List Step) → length (renamed_steps to ss) ≡ length ss
unfolding renamed_steps
renamed_length to [] = refl
renamed_length to (s ∷ ss) = ap suc (renamed_length to ss)

retaken_unended : {ps : List Hold} {w : World} {ss ts : List Step} → Retaken ps w ss ts → Unended ss → Unended ts
retaken_unended same u = u
retaken_unended (neighbours p) u = (u.1.0, (u.0, u.1.1))
retaken_unended (two_takes {ss = ss} x p q) u = (u.1.0, (u.0, renamed_unended _ ss u.1.1))
retaken_unended (idle_take x p) u = (u.1.0, (u.0, u.1.1))
retaken_unended (behind r) u = (u.0, retaken_unended r u.1)
retaken_unended (onward r q) u = retaken_unended q (retaken_unended r u)

retaken_length : {ps : List Hold} {w : World} {ss ts : List Step} → Retaken ps w ss ts → length ts ≡ length ss
retaken_length same = refl
retaken_length (neighbours p) = refl
retaken_length (two_takes {ss = ss} x p q) = ap (λ (n : ℕ). suc (suc n)) (renamed_length _ ss)
retaken_length (idle_take x p) = refl
retaken_length (behind r) = ap suc (retaken_length r)
retaken_length (onward r q) = retaken_length q ∙ retaken_length r

-- ---- the call

-- nothing renamed
unmoved_owners : (t : List ℕ) → t ≡ renamed_owners (λ s. s) t
unfolding renamed_owners
unmoved_owners [] = refl
unmoved_owners (a ∷ []) = refl
unmoved_owners (a ∷ b ∷ []) = refl
unmoved_owners (a ∷ b ∷ c ∷ t) = ap (λ (u : List ℕ). a ∷ b ∷ c ∷ u) (unmoved_owners t)

pub environment_retake : EnvironmentRetaken
unfolding environment_of script_rules
environment_retake w held pre ss ts post g u x y r =
    rw (same_length pre ss ts post (retaken_length r)) (go (first (script_rules w.head w.table w.health (script_of (pre ++ (ss ++ post))) (length pre) held)))
  where
    ps : List Hold
    ps = holds_of held

    runs : List Step → Made (ScriptReply × (List ℕ × List ℕ))
    runs xs = do
      (f, a) ← boundary_of (given w.head (script_of (pre ++ (xs ++ post))) ps) (flow_of w.head.next (length pre) 0) w.table w.health
      gives (script_reply w.head (run_of f 0 1 0) Done, a)

    none : Refusal → Made (ScriptReply × (List ℕ × List ℕ))
    none x = gives (refused_at_once w.head (length pre) x, (w.table, w.health))

    go : (k : Check) → ReplyRenamed w (judge k none (runs ss)).seen (judge k none (runs ts)).seen
    go (Ok tt) =
        let i = steps_retake ps w ss ts g y r in
        let a = boundary_goes ps w pre ss post 0 u x in
        let b = boundary_goes ps w pre ts post 0 (retaken_unended r u) x in
        rw (a, b)
        (record {
          to = i.to;
          back = i.back;
          serials = i.serials;
          reply = rw (i.state, i.drops, retaken_length r);
          table = ap (λ (v : World). v.table) i.state;
          health = ap (λ (v : World). v.health) i.state;
        })
    go (Err x) =
        record { to = λ s. s; back = λ s. s; serials = identity _ _; reply = refl; table = unmoved_owners w.table; health = refl }
