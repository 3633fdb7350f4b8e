-- A boundary over a script of which a stretch was shuffled: from every place outside the stretch it runs to the same end.
-- ---- the words of a script
use Prim.Native.Nat.{ℕ, zero, suc, ◌+◌, ◌*◌, ◌-◌, ◌≤◌, ◌<◌}
use Rattle.std.specs.Prelude.{◌≡◌, List, [], ◌∷◌, ◌++◌, ◌≢◌, ◌⊎◌, get_or}
use Rattle.std.proofs.Math.Path.{refl}
use Rattle.std.proofs.Common.{sym, ap, ◌∙◌, subst, inl, inr, arith, length-append, eq-eqb, ne_eqb}
use Rattle.std.proofs.Math.Decide.{ℕ_discrete}
use Rattle.std.proofs.Math.Nat.{div-eq_of_eq-mul_left}
use Rattle.std.proofs.Math.ListN.{length}
use Rattle.model.specs.Log.{Made}
use Rattle.model.specs.Arena.{spent_to}
use Rattle.model.specs.Foreign.{Setting, steps_in, kind_at, place_at, number_at, flow_of, step_of, run_steps_of, boundary_of}
use Rattle.model.specs.Calls.{given}
use Rattle.types.specs.declared.Flow.{Flow}
use Rattle.types.specs.declared.Head.{Head}
use Rattle.types.specs.declared.Hold.{Hold}
use Rattle.types.specs.declared.Stepped.{Stepped}
use Rattle.history.specs.World.{World, world_of}
use Rattle.swaps.specs.Steps.{Step, step_words, leaves, dropped, after_all, dropped_in, Shuffled, same, neighbours, behind, onward}
use Rattle.swaps.specs.Scripts.{script_of, Unended}
use Rattle.swaps.specs.Fine.{Fine}

-- the three words of a step are the same in both scripts
pub record SameWords (a b : List ℕ) (p : ℕ) : Type 0 where
  pub kinds : kind_at b p ≡ kind_at a p
  pub places : place_at b p ≡ place_at a p
  pub numbers : number_at b p ≡ number_at a p

-- what a boundary gives: flow, table and health
abbrev pub Ran : Type 0
Ran = Flow × (List ℕ × List ℕ)

-- the rest of a boundary behind one step
abbrev pub rest_of : ℕ → Setting → Flow → Made (Stepped × (List ℕ × List ℕ)) → Ran
rest_of left e f o = (run_steps_of left e (flow_of o.seen.0.next (f.place + 1) (f.dropped + o.seen.0.dropped)) o.seen.1.0 o.seen.1.1).seen

-- the rest of a boundary from this world on
abbrev pub goes_on : ℕ → Setting → World → ℕ → ℕ → Ran
goes_on more e v p d = (run_steps_of more e (flow_of v.head.next p d) v.table v.health).seen

-- two results that are one, and good
pub record Same {A : Type 0} (G : A → Type 0) (x y : A) : Type 0 where
  pub equal : y ≡ x
  pub good : G x
