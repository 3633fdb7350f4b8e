-- The place in the run of cells where an unfinished member moves, in either work.
use Rattle.std.specs.Prelude.{ℕ, ◌+◌, ◌*◌, ◌-◌, ◌/◌, ◌≤◌, ◌<◌, ◌≡◌, List, length, get_or}
use Rattle.std.proofs.Common.{subst, arith, lt-ltb, le-ltb}
use Rattle.std.proofs.Math.Decide.{dec_lt}
use Rattle.model.specs.Arena.{cells_of}
use Rattle.model.specs.Crew.{Work, adds_of, moves_of, start_of}
use Rattle.types.specs.declared.Head.{Head}
use Rattle.laws.specs.Crew.{adds_few, start_fits}
use Rattle.lock.specs.Fine.{header_in}
use Rattle.crew_plan.specs.Fine.{CrewFine}
use Rattle.crew.specs.Model.{place_of}

-- where move number n is, of a member whose list begins at `start`: takes in order, then adds in order, then releases, last first
pub record Placed (work : Work) (start n count k : ℕ) : Type 0 where
  pub taking : n < count → k ≡ start + n
  pub adding : count ≤ n → n < count + adds_of work count → k ≡ start + (n - count)
  pub giving : count + adds_of work count ≤ n → k ≡ start + (moves_of work count - 1 - n)

-- what the code computes
pub placed : (work : Work) (start n count : ℕ) → Placed work start n count (place_of work start n count)
unfolding place_of
placed work start n count =
    record {
      taking = λ l. rw (lt-ltb n count l);
      adding = λ a b. rw (le-ltb n count a, lt-ltb n (count + adds_of work count) b);
      giving = λ l. rw (le-ltb n count (omega arith), le-ltb n (count + adds_of work count) l);
    }

-- it lies in the member's list
place_in : (work : Work) (start n count k : ℕ) → Placed work start n count k → n < moves_of work count → (start ≤ k) × (k < start + count)
place_in work start n count k p l = go (dec_lt n count) (dec_lt n (count + adds_of work count))
  where
    go : Dec (n < count) → Dec (n < count + adds_of work count) → (start ≤ k) × (k < start + count)
    go (yes a) b = (omega (arith, p.taking a), omega (arith, p.taking a))
    go (no a) (yes b) = let e = p.adding (omega arith) b in (omega (arith, e), omega (arith, e, adds_few work count))
    go (no a) (no b) = let e = p.giving (omega arith) in (omega (arith, e), omega (arith, e))

pub record Spot (h : Head) (words bytes : ℕ) (cells : List ℕ) (k : ℕ) : Type 0 where
  pub in_run : k < length cells
  pub cell_in_lem : get_or cells k 0 < cells_of h
  pub cell_fits : 3 * get_or cells k 0 + 2 < words
  pub header_fits : get_or cells k 0 / h.buckets < bytes

pub spot : (work : Work) (h : Head) (words bytes : ℕ) (counts cells turns : List ℕ) (m start n k : ℕ) → CrewFine h words bytes counts cells turns → m < length counts
    → start ≡ start_of counts m → Placed work start n (get_or counts m 0) k → n < moves_of work (get_or counts m 0) → Spot h words bytes cells k
spot work h words bytes counts cells turns m start n k f l s p u =
    let r = place_in work start n (get_or counts m 0) k p u in
    let fits = start_fits counts m in
    let own : start_of counts m + (k - start) ≡ k = omega (arith, r.0) in
    let low : get_or cells k 0 < cells_of h = subst (λ j. get_or cells j 0 < cells_of h) own (f.inside m (k - start) l (omega (arith, r.0, r.1))) in
    record {
      in_run = omega (arith, r.1, f.limits.cells_are);
      cell_in_lem = low;
      cell_fits = omega (arith, f.shape.words_are);
      header_fits = rw f.bytes_are (header_in h.headers h.buckets (get_or cells k 0) low);
    }

-- a member's lowest cell, where its list begins
pub lowest_in : (work : Work) (h : Head) (words bytes : ℕ) (counts cells turns : List ℕ) (m start : ℕ) → CrewFine h words bytes counts cells turns → m < length counts → start ≡ start_of counts m
    → 1 ≤ get_or counts m 0 → Spot h words bytes cells start
lowest_in work h words bytes counts cells turns m start f l s some =
    let first : Placed work start 0 (get_or counts m 0) start = record { taking = λ _. omega arith; adding = λ a _. absurd (omega arith); giving = λ a. absurd (omega arith) } in
    spot work h words bytes counts cells turns m start 0 start f l s first (omega arith)
