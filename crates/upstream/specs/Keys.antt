-- A key's cell: what its header, health and bucket come to, and that a lease which attempts on the key grant is on that cell. No table is
-- asked to be valid here: document 001 asks nothing of it.
use Prim.Native.Nat.{ℕ, zero, suc, ◌+◌, ◌≤◌, ◌<◌}
use Rattle.std.proofs.Math.Path.{◌≡◌}
use Rattle.std.proofs.Common.{sym, ap, ◌∙◌, arith, leb-true, leb-false, eqb-true, eq-eqb}
use Rattle.std.specs.Prelude.{List, not, leb, eqb, get_or, Ok, Err}
use Rattle.std.proofs.lemmas.Bool.{not-true, not-false}
use Rattle.types.specs.Checks.{Found}
use Rattle.model.specs.Log.{Made}
use Rattle.model.specs.Arena.{cell_number, hold_of, hold_in, lease_under}
use Rattle.model.specs.Foreign.{Setting}
use Rattle.model.specs.Answers.{kind_of}
use Rattle.model.specs.Lock.{answer_of, find_of, attempt_at, attempt_of, pause_of, is_busy, retry_of, settled}
use Rattle.types.specs.declared.Hold.{Hold}
use Rattle.types.specs.declared.Lease.{Lease}
use Rattle.types.specs.declared.Answer.TheVariants.{Granted}
use Rattle.types.specs.declared.Outcome.{Outcome}
use Rattle.types.specs.declared.Outcome.TheVariants as outcome
use Rattle.types.specs.declared.Reason.{Reason}
use Rattle.types.specs.declared.Refusal.TheVariants.{BadHeader, Poisoned, InvalidBucket}
use Rattle.types.specs.declared.Run.{Run}
use Rattle.types.specs.declared.Tried.{Tried}
use Rattle.choice.specs.Pick.{if_both}
use Rattle.laws.specs.Outcomes as locked
use Rattle.laws.specs.Outcomes.{Comes, lock_comes}
use Rattle.history.specs.Tests.{differ, if_cases}
use Rattle.history.specs.Steps.{With}

pub data Finds (headers buckets : ℕ) (g registry : List ℕ) (binding bucket : ℕ) : Found → Type 0 where
  bad_header : headers ≤ get_or registry binding 0
      → Finds headers buckets g registry binding bucket (Err (BadHeader (get_or registry binding 0)))
  poisoned : get_or registry binding 0 < headers → (get_or g (get_or registry binding 0) 0 ≡ 0 → ⊥)
      → Finds headers buckets g registry binding bucket (Err (Poisoned (get_or registry binding 0)))
  bad_bucket : get_or registry binding 0 < headers → get_or g (get_or registry binding 0) 0 ≡ 0 → buckets ≤ bucket
      → Finds headers buckets g registry binding bucket (Err (InvalidBucket bucket))
  at : get_or registry binding 0 < headers → get_or g (get_or registry binding 0) 0 ≡ 0 → bucket < buckets
      → Finds headers buckets g registry binding bucket (Ok (cell_number buckets (get_or registry binding 0) bucket))

pub finds : (headers buckets : ℕ) (g registry : List ℕ) (binding bucket : ℕ) → Finds headers buckets g registry binding bucket (find_of headers buckets g registry binding bucket)
unfolding find_of
finds headers buckets g registry binding bucket =
    if_cases P (leb headers header) (λ e. bad_header (leb-true headers header e))
    (λ e. if_cases P (not (eqb (get_or g header 0) 0)) (λ x. poisoned (leb-false headers header e) (λ z. differ (sym (not-true _ x) ∙ eq-eqb (get_or g header 0) 0 z)))
    (λ x. if_cases P (leb buckets bucket) (λ y. bad_bucket (leb-false headers header e) (eqb-true (get_or g header 0) 0 (not-false _ x)) (leb-true buckets bucket y))
    (λ y. at (leb-false headers header e) (eqb-true (get_or g header 0) 0 (not-false _ x)) (leb-false buckets bucket y))))
  where
    header : ℕ
    header = get_or registry binding 0

    P : Found → Type 0
    P f = Finds headers buckets g registry binding bucket f

-- the cell of a lease that a lock granted
pub granted_cell : {buckets c : ℕ} {g : List ℕ} {o : Outcome} → Comes buckets c g o → (l : Hold) → o ≡ outcome.Granted l → l.cell ≡ c
granted_cell {c = c} (locked.granted s h) l e = let q : hold_of c s ≡ l = cc in sym (ap (λ (k : Hold). k.cell) q)
granted_cell (locked.busy why) l e = let q : ◌≡◌ {A = ℕ} 0 1 = cc in absurd (omega arith)
granted_cell (locked.poisoned h) l e = let q : ◌≡◌ {A = ℕ} 0 1 = cc in absurd (omega arith)
granted_cell locked.damaged l e = let q : ◌≡◌ {A = ℕ} 0 1 = cc in absurd (omega arith)
granted_cell locked.spent l e = let q : ◌≡◌ {A = ℕ} 0 1 = cc in absurd (omega arith)

-- an answer that grants this lease
pub answer_granted : (boot : ℕ) (o : Outcome) (l : Lease) → answer_of boot o ≡ Granted l → o ≡ outcome.Granted (hold_in l)
answer_granted boot (outcome.Granted k) l e = let q : lease_under boot k ≡ l = cc in ap (λ (x : Lease). outcome.Granted (hold_in x)) q
answer_granted boot (outcome.Busy why) l e = absurd (omega (arith, ap kind_of e))
answer_granted boot (outcome.Refused r) l e = absurd (omega (arith, ap kind_of e))

pub settled_granted : (boot : ℕ) (o : Outcome) (l : Lease) → answer_of boot (settled o) ≡ Granted l → o ≡ outcome.Granted (hold_in l)
settled_granted boot (outcome.Granted k) l e = answer_granted boot (outcome.Granted k) l e
settled_granted boot (outcome.Busy why) l e = absurd (omega (arith, ap kind_of e))
settled_granted boot (outcome.Refused r) l e = answer_granted boot (outcome.Refused r) l e

-- ---- a lease on the key's cell

pub record GrantedAt (headers buckets : ℕ) (registry : List ℕ) (binding bucket : ℕ) (l : Hold) : Type 0 where
  pub header_inside : get_or registry binding 0 < headers
  pub bucket_inside : bucket < buckets
  pub cell_is : l.cell ≡ cell_number buckets (get_or registry binding 0) bucket

module _ (e : Setting) (buckets : ℕ) (registry : List ℕ) (binding bucket : ℕ) where
  abbrev GrantsKey : With Tried → Type 0
  GrantsKey a = (l : Hold) → a.0.outcome ≡ outcome.Granted l → GrantedAt e.headers buckets registry binding bucket l

  pub attempt_key : (r : Run) (t g : List ℕ) → GrantsKey (attempt_of e buckets registry binding bucket r t g).seen
  unfolding attempt_of
  attempt_key r t g = go (finds e.headers buckets g registry binding bucket)
    where
      go : {x : Found} → Finds e.headers buckets g registry binding bucket x → GrantsKey (attempt_at x e buckets r t g).seen
      go (bad_header p) l q = let z : ◌≡◌ {A = ℕ} 0 1 = cc in absurd (omega arith)
      go (poisoned p s) l q = let z : ◌≡◌ {A = ℕ} 0 1 = cc in absurd (omega arith)
      go (bad_bucket p s k) l q = let z : ◌≡◌ {A = ℕ} 0 1 = cc in absurd (omega arith)
      go (at p s k) l q =
          let c = cell_number buckets (get_or registry binding 0) bucket in
          record { header_inside = p; bucket_inside = k; cell_is = granted_cell (lock_comes e buckets c r.flow t g) l q }

  pub retry_key : (left i : ℕ) (last : Reason) (r : Run) (t g : List ℕ) → GrantsKey (retry_of left i last e buckets registry binding bucket r t g).seen
  unfolding retry_of
  retry_key zero i last r t g = λ l q. let z : ◌≡◌ {A = ℕ} 0 1 = cc in absurd (omega arith)
  retry_key (suc left) i last r t g =
      let m = (attempt_of e buckets registry binding bucket r t g).seen in
      let p = (pause_of e i m.0.run m.1.0 m.1.1).seen in
      if_both (λ (x : Made (With Tried)). GrantsKey x.seen) (is_busy m.0.outcome) (retry_key left (i + 1) _ p.0 p.1.0 p.1.1) (attempt_key r t g)
