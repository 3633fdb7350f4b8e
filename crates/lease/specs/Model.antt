-- One compare-and-set on a whole head: document 01's definition, with the head around the next serial.
use Rattle.std.specs.Prelude.{ℕ, ◌≡◌, refl, Bool, true, false, List, [], ◌∷◌, length, Option, Some, None, Ok}
use Rattle.std.proofs.Common.{ap, ◌∙◌, arith}
use Rattle.model.specs.Arena.{serial_remains, spent_to, set_cell, state_at, issue_of, leases_of}
use Rattle.model.specs.Lock.{take_in, take_of, outcome_of, answer_of}
use Rattle.model.specs.Calls.{replied, acquire_of}
use Rattle.model.specs.Checks.{bad_held, not_live}
use Rattle.model.specs.Refusals.{first}
use Rattle.types.specs.declared.Head.{Head}
use Rattle.types.specs.declared.Reply.{Reply}
use Rattle.types.specs.declared.State.TheVariants as state
use Rattle.types.specs.declared.Take.{Take}
use Rattle.types.specs.declared.Take.TheVariants as taking
use Rattle.types.specs.declared.Took.{Took}
use Rattle.lease.specs.declared.Claim.{Claim}

abbrev pub claim_with : Head → Take → Claim
claim_with h a = record { head = h; answer = a }

-- what a compare-and-set leaves, the head around its next serial
abbrev pub claimed : Head → Took × List ℕ → Claim × List ℕ
claimed h k = (claim_with (spent_to h k.0.next) k.0.answer, k.1)

unfoldable pub claim_at_of : Head → List ℕ → ℕ → Claim × List ℕ
claim_at_of h t c = claimed h (take_of h.next t c).seen

-- of a cell that is known to be free: by what the head issues
abbrev pub serve : Option ℕ → Head → List ℕ → ℕ → Claim × List ℕ
serve (Some n) h t c = (claim_with h (taking.Granted n), set_cell t c 1 n)
serve None h t c = (claim_with h taking.Spent, t)

unfoldable pub claim_free_of : Head → List ℕ → ℕ → Claim × List ℕ
claim_free_of h t c = serve (issue_of h).serial (issue_of h).head t c

-- it is the compare-and-set of a free cell
pub claim_free : (h : Head) (t : List ℕ) (c : ℕ) → state_at h.next t c ≡ state.Free → claim_at_of h t c ≡ claim_free_of h t c
unfolding claim_at_of claim_free_of take_of issue_of
claim_free h t c e = rw e (go (serial_remains h.next) refl)
  where
    go : (b : Bool) → serial_remains h.next ≡ b → claimed h (take_in state.Free h.next t c).seen ≡ serve (issue_of h).serial (issue_of h).head t c
    go true p = rw p
    go false p = rw p

-- the result of attempt number n of a call, on its cell
abbrev pub claim_reply_of : ℕ → Claim → ℕ → Reply
claim_reply_of n k c = replied k.head n (answer_of k.head.boot (outcome_of c k.answer))

pub acquire_is : (n : ℕ) (h : Head) (t : List ℕ) (c : ℕ) → (acquire_of n h t c).seen ≡ (claim_reply_of n (claim_at_of h t c).0 c, (claim_at_of h t c).1)
unfolding acquire_of claim_at_of
acquire_is n h t c = refl

-- and where the cell is known to be free
pub acquire_free : (n : ℕ) (h : Head) (t : List ℕ) (c : ℕ) → state_at h.next t c ≡ state.Free
    → (acquire_of n h t c).seen ≡ (claim_reply_of n (claim_free_of h t c).0 c, (claim_free_of h t c).1)
acquire_free n h t c e = acquire_is n h t c ∙ ap (λ (k : Claim × List ℕ). (claim_reply_of n k.0 c, k.1)) (claim_free h t c e)

-- an empty held list has no fault
pub none_held : (h : Head) (t held : List ℕ) → length held ≡ 0 → (Ok tt) ≡ first (bad_held h t held)
unfolding first not_live leases_of
none_held h t [] e = refl
none_held h t (x ∷ xs) e = absurd (omega arith)
