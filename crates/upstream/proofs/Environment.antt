-- 000: `Scheduler::interfere`, `environment` and `environment_for_borrows`: one boundary of the script, a trace of
-- upstream's steps.
-- ---- what a call with a script comes to: a trace that releases no held lease; what it grants is authorized
use Rattle.std.specs.Prelude.{ℕ, ◌≡◌, false, Err}
use Rattle.std.proofs.Common.{sym, ap, subst, arith}
use mathlib.Core.List.{List, [], ◌∷◌, ◌++◌, append-nil}
use Rattle.std.proofs.lemmas.Bool.{not-false}
use Rattle.model.specs.Arena.{hold_in, leases_of, holds_of}
use Rattle.model.specs.Answers.{kind_of}
use Rattle.model.specs.Refusals.{Rule, first}
use Rattle.model.specs.Checks.{bad_shape, bad_health, bad_script, bad_held, bad_held_length, not_live, script_rules}
use Rattle.model.specs.Foreign.{flow_of}
use Rattle.types.specs.declared.Answer.{Answer}
use Rattle.types.specs.declared.Answer.TheVariants.{Granted, Refused}
use Rattle.types.specs.declared.Hold.{Hold}
use Rattle.types.specs.declared.Lease.{Lease}
use Rattle.types.specs.declared.Refusal.{Refusal}
use Rattle.types.specs.declared.Refusal.TheVariants.{BadHeld}
use Rattle.history.specs.Items.{environment, unchanged, perform, Clear}
use Rattle.history.specs.Statements.{leaves}
use Rattle.history.specs.Judged.{clear_front, refused_so}
use Rattle.history.specs.HeldLists.{clear_live}
use Rattle.history.specs.World.{Live}
use Rattle.upstream.specs.Vocabulary.{Authority, Leases, next_serial, dom, authorized, protected_valid, held_ids, leases_authorized, legal_environment, no_resurrection}
use Rattle.upstream.specs.Premises.{keeps_valid, FirstBad}
use Rattle.upstream.specs.Protocol.{Trace, ended}
use Rattle.upstream.proofs.Protocol.{trace_valid_at, trace_keeps, trace_buries, trace_legal}
use Rattle.upstream.proofs.Bridge.{by_name, by_place, fits_sized, by_checks}
use Rattle.upstream.proofs.Refusing.{held_refused}
use Rattle.upstream.proofs.Scripts.{boundary_goes}
use Rattle.upstream.specs.Environment.{Went}

pub unmoved : {w : Authority} {ps : List Hold} (r : Refusal) → Went w ps (Refused r) w
unmoved {w} r = record { trace = ended w; gain = λ l e. absurd (omega (arith, ap kind_of e)) }

-- no check on the held list applies: its leases are live
pub held_live : (w : Authority) (held : List ℕ) (ys : List Rule) → Clear (bad_held w.head w.table held ++ ys) → (l : Hold) → held_ids (holds_of held) l → Live w l
held_live w held ys c = clear_live w.head w.table held (clear_front (not_live w.head w.table 0 (leases_of held)) ys c.1)

-- ---- the calls; both names are one definition

module _ (w : Authority) (script : List ℕ) (place : ℕ) (held : List ℕ) where
  abbrev final : Authority
  final = leaves w (environment script place held)

  abbrev ids : Leases
  ids = held_ids (holds_of held)

  pub went : Trace ids w final
  unfolding script_rules
  went =
      by_checks (λ m. Trace ids w m.seen.0) w (environment script place held) (λ r e. ended w)
      (λ e k.
      (boundary_goes w.head script (holds_of held) (flow_of (next_serial w) place 0) w.table w.health
      (record {
        sized = fits_sized w (not-false _ k.0);
        safe = held_live w held [] (subst Clear (sym (append-nil (bad_held w.head w.table held))) k.1.1.1);
      })).trace)

  -- legal_environment(old(authority), final(authority), protected)
  pub interfere_e1 : legal_environment w final ids
  interfere_e1 = trace_legal went

  -- protected_valid(old(authority), protected), leases_authorized(old(authority), held@): 3, with the first position
  pub environment_r2 : (i : ℕ) → Clear (bad_shape w.head w.table ∷ bad_health w.head w.health ∷ bad_script script place ∷ []) → (bad_held_length held).applies ≡ false
      → FirstBad w held i → perform w (environment script place held) ≡ unchanged w (environment script place held) (BadHeld i)
  unfolding script_rules
  environment_r2 i c b f =
      refused_so w (environment script place held) (BadHeld i)
      (subst (λ (xs : List Rule). first (bad_shape w.head w.table ∷ bad_health w.head w.health ∷ bad_script script place ∷ xs) ≡ Err (BadHeld i))
      (append-nil (bad_held w.head w.table held))
      (held_refused (bad_shape w.head w.table ∷ bad_health w.head w.health ∷ bad_script script place ∷ []) w held i [] c b f))

  pub environment_e1 : keeps_valid w final
  environment_e1 = trace_valid_at went

  pub environment_e2 : protected_valid w ids → protected_valid final ids
  environment_e2 p = trace_keeps went p

  pub environment_e3 : dom final ≡ dom w
  environment_e3 = (trace_buries went).same_keys

  pub environment_e4 : no_resurrection w final
  environment_e4 = trace_buries went

  pub environment_for_borrows_e2 : leases_authorized w (holds_of held) → leases_authorized final (holds_of held)
  environment_for_borrows_e2 p = by_place final (holds_of held) (environment_e2 (by_name w (holds_of held) p))
