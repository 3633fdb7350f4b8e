-- What a lock comes to.
use Rattle.std.specs.Prelude.{ℕ, suc, ◌+◌, ◌≡◌, Bool, get_or, if◌then◌else◌}
use Rattle.std.proofs.Math.Path.{refl}
use Rattle.std.proofs.Common.{ap, eqb-true}
use mathlib.Core.List.{List, [], ◌∷◌, ◌++◌}
use Rattle.std.proofs.Math.Bool.{true, false, not}
use Rattle.std.proofs.Math.Dec.{eqb}
use Rattle.std.proofs.lemmas.Bool.{eqb-false}
use Rattle.model.specs.Log.{Made, gives, ◌>>=◌}
use Rattle.model.specs.Arena.{header_of, hold_of, waiters_at}
use Rattle.model.specs.Foreign.{Setting, protecting, boundary_of, flow_of}
use Rattle.model.specs.Lock.{take_of, locked_of, give_up_of, late_stage_of, after_take, second_stage_of, lock_of, attempt_of, pause_of, is_busy, last_of, retry_of}
use Rattle.types.specs.declared.Flow.{Flow}
use Rattle.types.specs.declared.Locked.{Locked}
use Rattle.types.specs.declared.Outcome.{Outcome}
use Rattle.types.specs.declared.Outcome.TheVariants as outcome
use Rattle.types.specs.declared.Reason.{Reason}
use Rattle.types.specs.declared.Reason.TheVariants as reason
use Rattle.types.specs.declared.Refusal.TheVariants as refusal
use Rattle.types.specs.declared.Run.{Run}
use Rattle.types.specs.declared.Take.{Take}
use Rattle.types.specs.declared.Take.TheVariants as taking
use Rattle.types.specs.declared.Tried.{Tried}
use Rattle.choice.specs.Pick.{if_both}

-- a lock of cell c that leaves the health g: a grant is of that cell, and its header is healthy then; 7 carries its
-- header, which is not; 9 and 10 carry the cell
pub data Comes (buckets c : ℕ) (g : List ℕ) : Outcome → Type 0 where
  granted : (s : ℕ) → get_or g (header_of buckets c) 0 ≡ 0 → Comes buckets c g (outcome.Granted (hold_of c s))
  busy : (why : Reason) → Comes buckets c g (outcome.Busy why)
  poisoned : (get_or g (header_of buckets c) 0 ≡ 0 → ⊥) → Comes buckets c g (outcome.Refused (refusal.Poisoned (header_of buckets c)))
  damaged : Comes buckets c g (outcome.Refused (refusal.Damaged c))
  spent : Comes buckets c g (outcome.Refused (refusal.SerialsSpent c))

module _ (e : Setting) (buckets c : ℕ) where
  abbrev Locking : Made (Locked × (List ℕ × List ℕ)) → Type 0
  Locking m = Comes buckets c m.seen.1.1 m.seen.0.answer

  late_comes : (f : Flow) (t g : List ℕ) (s : ℕ) → Locking (late_stage_of e buckets f t g c s)
  unfolding late_stage_of
  late_comes f t g s =
      let m = (boundary_of (protecting e (hold_of c s ∷ [])) f t g).seen in
      go m.0 m.1.0 m.1.1 (eqb (get_or m.1.1 (header_of buckets c) 0) 0) refl
    where
      go : (k : Flow) (u w : List ℕ) (x : Bool) → eqb (get_or w (header_of buckets c) 0) 0 ≡ x
          → Locking (if not x then give_up_of (outcome.Refused (refusal.Poisoned (header_of buckets c))) k u w c s else if eqb (waiters_at u c) 0 then gives (locked_of k 3 (outcome.Granted (hold_of c s)), (u, w)) else give_up_of (outcome.Busy (reason.After s)) k u w c s)
      go k u w true q = if_both Locking (eqb (waiters_at u c) 0) (granted s (eqb-true _ _ q)) (busy (reason.After s))
      go k u w false q = poisoned (eqb-false _ _ q)

  after_comes : (a : Take) (f : Flow) (t g : List ℕ) → Locking (after_take a e buckets f t g c)
  after_comes (taking.Granted s) f t g = late_comes f t g s
  after_comes (taking.Busy owner) f t g = busy (reason.Held owner)
  after_comes taking.Damaged f t g = damaged
  after_comes taking.Spent f t g = spent

  second_comes : (f : Flow) (t g : List ℕ) → Locking (second_stage_of e buckets f t g c)
  unfolding second_stage_of
  second_comes f t g =
      let m = (boundary_of e f t g).seen in
      let k = (take_of m.0.next m.1.0 c).seen in
      after_comes k.0.answer (flow_of k.0.next m.0.place m.0.dropped) k.1 m.1.1

  pub lock_comes : (f : Flow) (t g : List ℕ) → Locking (lock_of e buckets f t g c)
  unfolding lock_of
  lock_comes f t g =
      let m = (boundary_of e f t g).seen in
      if_both Locking (eqb (waiters_at m.1.0 c) 0) (second_comes m.0 m.1.0 m.1.1) (busy reason.Before)

-- where attempts are to come, the reason from before the first of them is never given: a Busy attempt has its own
pub retry_first : (left i : ℕ) (last other : Reason) (e : Setting) (buckets : ℕ) (registry : List ℕ) (binding bucket : ℕ) (r : Run) (t g : List ℕ)
    → retry_of (suc left) i last e buckets registry binding bucket r t g ≡ retry_of (suc left) i other e buckets registry binding bucket r t g
unfolding retry_of
retry_first left i last other e buckets registry binding bucket r t g =
    let m = attempt_of e buckets registry binding bucket r t g in
    let p = pause_of e i m.seen.0.run m.seen.1.0 m.seen.1.1 in
    let more : Reason → Made (Tried × (List ℕ × List ℕ)) =
    λ why. (p >>= λ (q : Run × (List ℕ × List ℕ)). retry_of left (i + 1) why e buckets registry binding bucket q.0 q.1.0 q.1.1) in
    ap (λ (x : Made (Tried × (List ℕ × List ℕ))). record { seen = x.seen; log = m.log ++ x.log }) (own m.seen.0.outcome more (gives m.seen))
  where
    own : {A : Type 0} (o : Outcome) (more : Reason → A) (done : A)
        → (if is_busy o then more (last_of last o) else done) ≡ (if is_busy o then more (last_of other o) else done)
    own (outcome.Granted l) more done = refl
    own (outcome.Busy why) more done = refl
    own (outcome.Refused x) more done = refl
