-- "What upstream leaves open" (document 01), the part that is in upstream's bodies and in no contract: waiters, errors
-- and their numbers, the 4,096 attempts, yields. As in `Open`: a wrong build, that upstream's contract accepts it, and
-- that ours rejects it.
-- ---- waiters: a `try_lock` that reads none
use Prim.Native.Nat.{ℕ, zero, suc}
use Rattle.std.proofs.Math.Path.{◌≡◌}
use Rattle.std.specs.Prelude.{refl, List, [], ◌∷◌, if◌then◌else◌}
use Rattle.std.proofs.Common.{ap, arith}
use Rattle.choice.specs.Pick.{if_both}
use Rattle.model.specs.Log.{Made, gives, ◌>>=◌}
use Rattle.model.specs.Arena.{hold_in, leases_of, holds_of, bit_at, owner_at, waiters_at, set_cell, is_in, is_free, is_held, state_of, state_at, is_live, head_fits, shape_fits, health_fits, registry_fits}
use Rattle.model.specs.Answers.{kind_of, refusal_in}
use Rattle.model.specs.Refusals.{first}
use Rattle.model.specs.Checks.{not_live, cell_rules, script_rules, lock_rules, bucket_rules}
use Rattle.model.specs.Foreign.{Setting, step_release_of, step_of, run_steps_of, boundary_of}
use Rattle.model.specs.Lock.{take_of, late_stage_of, second_stage_of, lock_of, answer_of, find_of, tried_of, attempt_of, attempt_limit, spin_of, pause_of, is_busy, last_of, none_yet, retry_of, settled}
use Rattle.model.specs.Calls.{counts_of, given, starting, acquire_of, try_acquire_of, try_lock_of, acquire_bucket_of}
use Rattle.types.specs.declared.Answer.{Answer}
use Rattle.types.specs.declared.Answer.TheVariants.{Done, Cell, Granted, AllGranted, Busy, Refused, RefusedAt}
use Rattle.types.specs.declared.Head.{Head}
use Rattle.types.specs.declared.Hold.{Hold}
use Rattle.types.specs.declared.Lease.{Lease}
use Rattle.types.specs.declared.Outcome.TheVariants as outcome
use Rattle.types.specs.declared.Reason.{Reason}
use Rattle.types.specs.declared.Refusal.TheVariants.{BadShape, SerializationFailure}
use Rattle.types.specs.declared.Run.{Run}
use Rattle.types.specs.declared.Tried.{Tried}
use Rattle.history.specs.Items.{try_acquire, acquire_bucket, Says, says, perform}
use Rattle.history.specs.Statements.{answers, leaves}
use Rattle.history.specs.Tests.{In}
use Rattle.history.specs.Steps.{world_at, With, of_tried}
use Rattle.upstream.specs.Vocabulary.{Authority}
use Rattle.upstream.proofs.Protocol.{trace_valid, trace_keeps, trace_buries}
use Rattle.upstream.proofs.Bridge.{authorized_live, by_name, by_place, fits_sized}
use Rattle.upstream.proofs.TryAcquire.{tried, tries_keeps, tries_keys, try_acquire_valid, try_acquire_e3, try_acquire_e4}
use Rattle.upstream.specs.Keys.{GrantedAt, settled_granted, attempt_key}
use Rattle.upstream.proofs.Scripts.{Ready, ready, then, stays, Attempts, attempt_goes, spin_goes}
use Rattle.upstream.proofs.Buckets.{acquire_index_bucket_valid, acquire_index_bucket_e2, acquire_index_bucket_e3, acquire_index_bucket_e4, acquire_index_bucket_e5}
use Rattle.upstream.proofs.ContractBucket.{ContractAcquireIndexBucket}
use Rattle.upstream.specs.Open.{LockBuild, BucketBuild, with_bucket, UpstreamAcceptsLock, WeAcceptLock, one_free, one_held, one_waited}
use Rattle.upstream.specs.OpenBodies.{ignores_waiters, WeAcceptBucket, gives_up, renumbered, renumbers, fives}

pub accepted_ignores_waiters : UpstreamAcceptsLock ignores_waiters
accepted_ignores_waiters w script place held c a =
    record {
      e1 = try_acquire_valid w c a.r1;
      e2 = λ i l. tries_keeps (tried w c) _ (a.r3 i l);
      e3 = tries_keys (tried w c);
      e4 = try_acquire_e3 w c;
      e5 = try_acquire_e4 w c;
    }

pub rejected_ignores_waiters : WeAcceptLock ignores_waiters → ⊥
unfolding perform try_lock_of lock_rules script_rules not_live first shape_fits head_fits health_fits leases_of holds_of boundary_of run_steps_of lock_of waiters_at try_acquire_of cell_rules acquire_of take_of bit_at owner_at set_cell
    state_at state_of is_free is_held
rejected_ignores_waiters p = omega (arith, ap (λ (x : Answer × Authority). kind_of x.0) (p one_waited [] 0 [] 0))

-- ---- `acquire_index_bucket`

abbrev pub UpstreamAcceptsBucket : BucketBuild → Type 0
UpstreamAcceptsBucket f = ContractAcquireIndexBucket (with_bucket f)

pub accepted_gives_up : UpstreamAcceptsBucket gives_up
accepted_gives_up w registry script place held binding bucket a =
    record { e1 = a.r1; e2 = a.r3; e3 = refl; e4 = λ l e. absurd (omega (arith, ap kind_of e)); e5 = λ l e. absurd (omega (arith, ap kind_of e)) }

pub rejected_gives_up : WeAcceptBucket gives_up → ⊥
unfolding perform acquire_bucket_of bucket_rules not_live first shape_fits head_fits health_fits registry_fits leases_of holds_of retry_of attempt_of find_of boundary_of run_steps_of
    lock_of second_stage_of take_of late_stage_of waiters_at bit_at owner_at set_cell state_at state_of is_free is_held
rejected_gives_up p = omega (arith, ap (λ (x : Authority × Says). kind_of x.1.answer) (p one_free (0 ∷ []) [] 0 [] 0 0))

renumbered_granted : (a : Answer) (l : Lease) → renumbered a ≡ Granted l → a ≡ Granted l
renumbered_granted Done l e = e
renumbered_granted (Cell c) l e = e
renumbered_granted (Granted k) l e = e
renumbered_granted AllGranted l e = e
renumbered_granted (Busy why) l e = e
renumbered_granted (Refused r) l e = absurd (omega (arith, ap kind_of e))
renumbered_granted (RefusedAt r p) l e = absurd (omega (arith, ap kind_of e))

pub accepted_renumbers : UpstreamAcceptsBucket renumbers
accepted_renumbers w registry script place held binding bucket a =
    record {
      e1 = acquire_index_bucket_valid w registry script place held binding bucket a.r1;
      e2 = acquire_index_bucket_e2 w registry script place held binding bucket a.r3;
      e3 = acquire_index_bucket_e3 w registry script place held binding bucket;
      e4 = λ l e. acquire_index_bucket_e4 w registry script place held binding bucket l (renumbered_granted _ l e);
      e5 = λ l e. acquire_index_bucket_e5 w registry script place held binding bucket l (renumbered_granted _ l e);
    }

-- a bucket that is too large: ours is 8
pub rejected_renumbers : WeAcceptBucket renumbers → ⊥
unfolding perform acquire_bucket_of bucket_rules not_live first shape_fits head_fits health_fits registry_fits leases_of holds_of retry_of attempt_of find_of
rejected_renumbers p = omega (arith, ap (λ (x : Authority × Says). refusal_in x.1.answer) (p one_free (0 ∷ []) [] 0 [] 0 7))

-- ---- yields: `retry_of` of the model, with a spin after every Busy attempt and no yield

unfoldable pub spinning_of : ℕ → Reason → Setting → ℕ → List ℕ → ℕ → ℕ → Run → List ℕ → List ℕ → Made (Tried × (List ℕ × List ℕ))
spinning_of zero last e buckets registry binding bucket r t g = gives (tried_of r (outcome.Busy last), (t, g))
spinning_of (suc left) last e buckets registry binding bucket r t g = do
  (k, (u, w)) ← attempt_of e buckets registry binding bucket r t g
  if is_busy k.outcome then (do
    (p, (v, x)) ← spin_of e k.run u w
    spinning_of left (last_of last k.outcome) e buckets registry binding bucket p v x)
      else gives (k, (u, w))

abbrev pub never_yields : BucketBuild
never_yields w registry script place held binding bucket =
    let k = (spinning_of attempt_limit none_yet (given w.head script (holds_of held)) w.head.buckets registry binding bucket (starting w.head place) w.table w.health).seen in
    let r = k.0.run in
    (of_tried w.head k, says (answer_of w.head.boot (settled k.0.outcome)) (counts_of r.attempts r.boundaries r.yields r.flow.dropped) r.flow.place [])

module _ (h : Head) (script : List ℕ) (ps : List Hold) (registry : List ℕ) (binding bucket : ℕ) where
  spinning_goes : (left : ℕ) (last : Reason) (r : Run) (t g : List ℕ) → Ready (In ps) (world_at h r.flow.next t g)
      → Attempts h script (In ps) (world_at h r.flow.next t g) (spinning_of left last (given h script ps) h.buckets registry binding bucket r t g).seen
  unfolding spinning_of
  spinning_goes zero last r t g k = record { goes = stays k.sized; gain = λ l e. let q : ◌≡◌ {A = ℕ} 0 1 = cc in absurd (omega arith) }
  spinning_goes (suc left) last r t g k =
      let m = (attempt_of (given h script ps) h.buckets registry binding bucket r t g).seen in
      let a = attempt_goes h script ps registry binding bucket r t g k in
      let p = (spin_of (given h script ps) m.0.run m.1.0 m.1.1).seen in
      let b = spin_goes h script ps m.0.run m.1.0 m.1.1 (ready k a.goes) in
      let again = spinning_goes left (last_of last m.0.outcome) p.0 p.1.0 p.1.1 (ready (ready k a.goes) b) in
      if_both (λ (x : Made (With Tried)). Attempts h script (In ps) (world_at h r.flow.next t g) x.seen) (is_busy m.0.outcome)
      (record { goes = (then) a.goes ((then) b again.goes); gain = again.gain }) (record { goes = a.goes; gain = a.gain })

  spinning_key : (left : ℕ) (last : Reason) (r : Run) (t g : List ℕ) (l : Hold) → (spinning_of left last (given h script ps) h.buckets registry binding bucket r t g).seen.0.outcome ≡ outcome.Granted l
      → GrantedAt h.headers h.buckets registry binding bucket l
  unfolding spinning_of
  spinning_key zero last r t g l = λ q. let z : ◌≡◌ {A = ℕ} 0 1 = cc in absurd (omega arith)
  spinning_key (suc left) last r t g l =
      let m = (attempt_of (given h script ps) h.buckets registry binding bucket r t g).seen in
      let p = (spin_of (given h script ps) m.0.run m.1.0 m.1.1).seen in
      if_both (λ (x : Made (With Tried)). x.seen.0.outcome ≡ outcome.Granted l → GrantedAt h.headers h.buckets registry binding bucket l) (is_busy m.0.outcome)
      (spinning_key left (last_of last m.0.outcome) p.0 p.1.0 p.1.1 l) (attempt_key (given h script ps) h.buckets registry binding bucket r t g l)

pub accepted_never_yields : UpstreamAcceptsBucket never_yields
accepted_never_yields w registry script place held binding bucket a =
    let s = starting w.head place in
    let m = spinning_goes w.head script (holds_of held) registry binding bucket attempt_limit none_yet s w.table w.health
    (record { sized = fits_sized w a.fits; safe = λ l i. authorized_live w l a.r1 (by_name w (holds_of held) a.r3 l i) }) in
    record {
      e1 = trace_valid m.goes.trace a.r1;
      e2 = by_place _ (holds_of held) (trace_keeps m.goes.trace (by_name w (holds_of held) a.r3));
      e3 = (trace_buries m.goes.trace).same_keys;
      e4 = λ l e. m.gain (hold_in l) (settled_granted _ _ l e);
      e5 = λ l e.
          let k = spinning_key w.head script (holds_of held) registry binding bucket attempt_limit none_yet s w.table w.health (hold_in l) (settled_granted _ _ l e) in
          (k.cell_is, k.bucket_inside);
    }

pub rejected_never_yields : WeAcceptBucket never_yields → ⊥
unfolding perform acquire_bucket_of bucket_rules not_live first shape_fits head_fits health_fits registry_fits leases_of holds_of retry_of spinning_of attempt_of find_of pause_of spin_of
    boundary_of run_steps_of step_of step_release_of lock_of second_stage_of take_of late_stage_of waiters_at bit_at owner_at set_cell state_at state_of is_free is_held is_live is_in
rejected_never_yields p = omega (arith, ap (λ (x : Authority × Says). x.1.counts.yields) (p one_held (0 ∷ []) (fives 193 (2 ∷ 0 ∷ 1 ∷ [])) 0 [] 0 0))
