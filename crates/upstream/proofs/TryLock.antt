-- 000: `try_lock` and `other_mutex_preserves_leases`, which are one definition here.
use Rattle.std.specs.Prelude.{ℕ, ◌≡◌, refl, List, [], ◌∷◌, false, Ok}
use Rattle.std.proofs.Math.Path.{ap}
use Rattle.std.proofs.Common.{arith}
use borrow.Author.Tests.{not-false, leb-false, eq-eqb}
use Rattle.model.specs.Arena.{hold_in, holds_of, bit_at, owner_at, waiters_at, state_of, state_at}
use Rattle.model.specs.Answers.{kind_of}
use Rattle.model.specs.Refusals.{Rule, first}
use Rattle.model.specs.Checks.{bad_shape, bad_health, bad_script, bad_held, bad_held_length, script_rules, lock_rules}
use Rattle.model.specs.Foreign.{Setting, flow_of, boundary_of}
use Rattle.model.specs.Lock.{lock_of, second_stage_of, take_of, answer_of}
use Rattle.model.specs.Calls.{given}
use Rattle.types.specs.declared.Answer.{Answer}
use Rattle.types.specs.declared.Answer.TheVariants.{Granted, Refused}
use Rattle.types.specs.declared.Flow.{Flow}
use Rattle.types.specs.declared.Lease.{Lease}
use Rattle.types.specs.declared.Refusal.TheVariants.{BadHeld, InvalidBucket, Damaged}
use Rattle.types.specs.declared.State.{State}
use Rattle.types.specs.declared.State.TheVariants as state
use Rattle.types.specs.declared.Outcome.TheVariants as outcome
use Rattle.laws.specs.Outcomes.{lock_comes}
use Rattle.history.specs.Items.{try_lock, unchanged, perform, Clear, rules}
use Rattle.history.specs.Statements.{answers, leaves}
use Rattle.history.specs.Judged.{clear_back, refused_so}
use Rattle.history.specs.Tests.{Stands, is_free_lem, is_held_lem, is_damaged, stands, free, held as held_by}
use Rattle.upstream.specs.Vocabulary.{Key, cell, Authority, lease_key, next_serial, dom, contains_key, ValidCell, valid, authorized, leases_authorized}
use Rattle.upstream.specs.Premises.{keeps_valid, FirstBad, at_the_swap, SwapDamaged}
use Rattle.upstream.proofs.Protocol.{trace_valid, trace_valid_at, trace_keeps, trace_buries}
use Rattle.upstream.proofs.Bridge.{status_valid, by_name, by_place, fits_sized, by_checks}
use Rattle.upstream.proofs.Refusing.{held_refused, cell_refused}
use Rattle.upstream.proofs.TryAcquire.{fine_fault}
use Rattle.upstream.specs.Keys.{granted_cell, answer_granted}
use Rattle.upstream.proofs.Scripts.{lock_goes}
use Rattle.upstream.specs.Environment.{Went}
use Rattle.upstream.proofs.Environment.{unmoved, held_live}

-- a cell that is not valid is damaged
not_valid : (next b o : ℕ) → (ValidCell next (cell b o) → ⊥) → state_of next b o ≡ state.Damaged
not_valid next b o n = go (stands next b o)
  where
    go : {s : State} → Stands next b o s → s ≡ state.Damaged
    go (is_free_lem p q) = absurd (n (status_valid next (cell b o) (free p q)))
    go (is_held_lem p q r) = absurd (n (status_valid next (cell b o) (held_by p q r)))
    go (is_damaged p q) = refl

-- a lock whose cell is damaged when it comes to the compare-and-set: 9, and all as the boundaries left it
pub lock_damaged : (e : Setting) (buckets : ℕ) (f : Flow) (t g : List ℕ) (c : Key)
    → let one = (boundary_of e f t g).seen in
    let two = (boundary_of e one.0 one.1.0 one.1.1).seen in
    waiters_at one.1.0 c ≡ 0 → (ValidCell two.0.next (cell (bit_at two.1.0 c) (owner_at two.1.0 c)) → ⊥)
    → let m = (lock_of e buckets f t g c).seen in (m.0.answer ≡ outcome.Refused (Damaged c)) × (m.1 ≡ two.1) × (m.0.flow ≡ two.0)
unfolding lock_of second_stage_of take_of state_at
lock_damaged e buckets f t g c q n =
    let one = (boundary_of e f t g).seen in
    let two = (boundary_of e one.0 one.1.0 one.1.1).seen in
    let s = not_valid two.0.next (bit_at two.1.0 c) (owner_at two.1.0 c) n in
    rw (eq-eqb (waiters_at one.1.0 c) 0 q, s) (refl, refl, refl)

-- ---- the call

module _ (w : Authority) (script : List ℕ) (place : ℕ) (held : List ℕ) (c : Key) where
  abbrev result : Answer
  result = answers w (try_lock script place held c)

  abbrev final : Authority
  final = leaves w (try_lock script place held c)

  -- the checks before the one on the cell
  abbrev Before : List Rule
  Before = bad_shape w.head w.table ∷ bad_health w.head w.health ∷ bad_script script place ∷ bad_held w.head w.table held

  -- what is granted is the cell that was asked for, and it is in the arena, whatever the table holds
  pub granted_key : (l : Lease) → result ≡ Granted l → (lease_key (hold_in l) ≡ c) × contains_key w c
  unfolding lock_rules script_rules
  granted_key l =
      by_checks (λ m. m.seen.1.answer ≡ Granted l → (lease_key (hold_in l) ≡ c) × contains_key w c) w (try_lock script place held c) (λ r e q. absurd (omega (arith, ap kind_of q)))
      (λ e k q. (
        granted_cell (lock_comes (given w.head script (holds_of held)) w.head.buckets c (flow_of (next_serial w) place 0) w.table w.health) (hold_in l) (answer_granted _ _ l q),
        leb-false _ _ (clear_back Before _ k).0,
      ))

  try_lock_went : Went w (holds_of held) result final
  unfolding lock_rules script_rules
  try_lock_went =
      by_checks (λ m. Went w (holds_of held) m.seen.1.answer m.seen.0) w (try_lock script place held c) (λ r e. unmoved r)
      (λ e k.
      let m = lock_goes w.head script (holds_of held) (flow_of (next_serial w) place 0) w.table w.health c
      (record { sized = fits_sized w (not-false _ k.0); safe = held_live w held _ k.1.1.1 }) (leb-false _ _ (clear_back Before _ k).0) in
      record { trace = m.goes.trace; gain = λ l e. m.gain (hold_in l) (answer_granted _ _ l e) })

  -- valid(old(authority)): 9, where the cell is damaged when it comes to the compare-and-set
  pub try_lock_r1 : first (rules w (try_lock script place held c)) ≡ Ok tt → SwapDamaged w script place held c
      → (result ≡ Refused (Damaged c)) × (final ≡ at_the_swap w script place held)
  try_lock_r1 f d =
      by_checks (λ m. (m.seen.1.answer ≡ Refused (Damaged c)) × (m.seen.0 ≡ at_the_swap w script place held)) w (try_lock script place held c) (λ r e. absurd (fine_fault f e))
      (λ e k.
      let x = lock_damaged (given w.head script (holds_of held)) w.head.buckets (flow_of (next_serial w) place 0) w.table w.health c d.0 d.1 in
      (ap (answer_of w.head.boot) x.0, cc))

  -- cells(old(authority)).contains_key(key): 8
  pub try_lock_r2 : Clear Before → (contains_key w c → ⊥) → perform w (try_lock script place held c) ≡ unchanged w (try_lock script place held c) (InvalidBucket c)
  unfolding lock_rules script_rules
  try_lock_r2 k n = refused_so w (try_lock script place held c) (InvalidBucket c) (cell_refused Before w c k n)

  -- leases_authorized(old(authority), held@): 3, with the first position
  pub try_lock_r3 : (i : ℕ) → Clear (bad_shape w.head w.table ∷ bad_health w.head w.health ∷ bad_script script place ∷ []) → (bad_held_length held).applies ≡ false
      → FirstBad w held i → perform w (try_lock script place held c) ≡ unchanged w (try_lock script place held c) (BadHeld i)
  unfolding lock_rules script_rules
  try_lock_r3 i k b f =
      refused_so w (try_lock script place held c) (BadHeld i)
      (held_refused (bad_shape w.head w.table ∷ bad_health w.head w.health ∷ bad_script script place ∷ []) w held i _ k b f)

  pub try_lock_valid : valid w → valid final
  try_lock_valid v = trace_valid try_lock_went.trace v

  pub try_lock_e1 : keeps_valid w final
  try_lock_e1 = trace_valid_at try_lock_went.trace

  pub try_lock_e2 : leases_authorized w (holds_of held) → leases_authorized final (holds_of held)
  try_lock_e2 p = by_place final (holds_of held) (trace_keeps try_lock_went.trace (by_name w (holds_of held) p))

  pub try_lock_e3 : dom final ≡ dom w
  try_lock_e3 = (trace_buries try_lock_went.trace).same_keys

  pub try_lock_e4 : (l : Lease) → result ≡ Granted l → lease_key (hold_in l) ≡ c
  try_lock_e4 l e = (granted_key l e).0

  pub try_lock_e5 : (l : Lease) → result ≡ Granted l → authorized final (hold_in l)
  try_lock_e5 l e = try_lock_went.gain l e
