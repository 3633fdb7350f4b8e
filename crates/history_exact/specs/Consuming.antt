-- How a call uses up its script: the steps from its place on are run once each, in order, at the boundaries in order, each boundary up to and
-- with its 5 or to the script's end. Between two boundaries there are only the caller's own events. No arena rule is needed.
use Rattle.std.specs.Prelude.{ℕ, ◌≤◌, ◌≡◌, refl, List, ◌∷◌, ◌++◌}
use Rattle.std.proofs.Common.{sym, ap, ◌∙◌, subst, append_assoc, arith}
use Rattle.model.specs.Log.{Event, boundary_run}
use Rattle.model.specs.Foreign.{steps_in}
use Rattle.types.specs.declared.Hold.{Hold}
use Rattle.history.specs.World.{World, now, Lawful, Legal}
use Rattle.history.proofs.Logs.{now_append, lawful_split}
use Rattle.history_exact.specs.Statements.{Stepping, dropped, ends, looks, performed}
use Rattle.history_exact.specs.Script.{Boundary, at_end, at_five, one_step, attempts_one, yields_once, spins, Consumed, at_rest, counts, takes, gives_up, boundary}

-- one behind the other
pub follow : {Own : World → Event → Type 0} {script : List ℕ} {ps rs ts : List Hold} {p d x y q c : ℕ} {w u v : World} {es fs : List Event}
    → Consumed Own script ps p d w rs x y u es → Consumed Own script rs x y u ts q c v fs → Consumed Own script ps p d w ts q c v (es ++ fs)
follow at_rest k = k
follow (counts e m) k = counts e (follow m k)
follow (takes l o m) k = takes l o (follow m k)
follow (gives_up l o m) k = gives_up l o (follow m k)
follow {Own = Own} {script = script} {ps = ps} {ts = ts} {p = p} {d = d} {q = q} {c = c} {w = w} {v = v} {fs = fs} (boundary {es = es} {fs = gs} b m) k =
    subst (λ (hs : List Event). Consumed Own script ps p d w ts q c v (boundary_run ∷ hs)) (sym (append_assoc es gs fs)) (boundary b (follow m k))

-- ---- what follows

-- a step's world is what its event makes of the world before
pub step_now : {ps : List Hold} {w v : World} {kind place number x : ℕ} {es : List Event} → Stepping w ps kind place number v es x → v ≡ now w es
step_now (looks z) = refl
step_now (ends z) = refl
step_now (performed e a l) = refl
step_now (dropped i j n) = refl

module _ {script : List ℕ} where
  -- the place never goes back
  pub boundary_rises : {ps : List Hold} {p d q c : ℕ} {w v : World} {es : List Event} → Boundary script ps p d w q c v es → p ≤ q
  boundary_rises (at_end i) = omega arith
  boundary_rises (at_five i k) = omega arith
  boundary_rises (one_step i k s b) = omega (arith, boundary_rises b)

  pub place_rises : {Own : World → Event → Type 0} {ps rs : List Hold} {p d q c : ℕ} {w v : World} {es : List Event} → Consumed Own script ps p d w rs q c v es → p ≤ q
  place_rises at_rest = omega arith
  place_rises (counts e m) = place_rises m
  place_rises (takes l o m) = place_rises m
  place_rises (gives_up l o m) = place_rises m
  place_rises (boundary b m) = omega (arith, boundary_rises b, place_rises m)

  -- and never passes the end
  boundary_inside : {ps : List Hold} {p d q c : ℕ} {w v : World} {es : List Event} → Boundary script ps p d w q c v es → p ≤ steps_in script → q ≤ steps_in script
  boundary_inside (at_end i) l = l
  boundary_inside (at_five i k) l = omega arith
  boundary_inside (one_step i k s b) l = boundary_inside b (omega arith)

  pub place_inside : {Own : World → Event → Type 0} {ps rs : List Hold} {p d q c : ℕ} {w v : World} {es : List Event} → Consumed Own script ps p d w rs q c v es → p ≤ steps_in script → q ≤ steps_in script
  place_inside at_rest l = l
  place_inside (counts e m) l = place_inside m l
  place_inside (takes k o m) l = place_inside m l
  place_inside (gives_up k o m) l = place_inside m l
  place_inside (boundary b m) l = place_inside m (boundary_inside b l)

  -- the worlds are what the events make of the first
  pub boundary_now : {ps : List Hold} {p d q c : ℕ} {w v : World} {es : List Event} → Boundary script ps p d w q c v es → v ≡ now w es
  boundary_now (at_end i) = refl
  boundary_now (at_five i k) = refl
  boundary_now {w = w} (one_step {es = es} {fs = fs} i k s b) =
      boundary_now b ∙ ap (λ (x : World). now x fs) (step_now s) ∙ sym (now_append w es fs)

-- over a lawful log the caller's own events are legal
pub lawfully : {Own : World → Event → Type 0} {script : List ℕ} {ps rs : List Hold} {p d q c : ℕ} {w v : World} {es : List Event}
    → Consumed Own script ps p d w rs q c v es → Lawful w es → Consumed Legal script ps p d w rs q c v es
lawfully at_rest l = at_rest
lawfully (counts attempts_one m) l = counts attempts_one (lawfully m l.1)
lawfully (counts yields_once m) l = counts yields_once (lawfully m l.1)
lawfully (counts spins m) l = counts spins (lawfully m l.1)
lawfully (takes k o m) l = takes k l.0 (lawfully m l.1)
lawfully (gives_up k o m) l = gives_up k l.0 (lawfully m l.1)
lawfully {script = script} {w = w} (boundary {es = es} {fs = fs} b m) l =
    boundary b (lawfully m (subst (λ (x : World). Lawful x fs) (sym (boundary_now b)) (lawful_split w es fs l.1).1))
