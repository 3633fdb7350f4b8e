-- A cell's three words after a write to the same or another cell, over any two cells.
use Rattle.std.specs.Prelude.{ℕ, ◌+◌, ◌*◌, ◌<◌, ◌≡◌, List, ◌≢◌, length, set}
use Rattle.std.proofs.Common.{◌∙◌, arith, length-set, get_or-set_same, get_or-set_other}
use Rattle.std.proofs.Math.Decide.{ℕ_discrete}
use Rattle.model.specs.Arena.{bit_at, owner_at, waiters_at, set_cell, set_waiters, is_free, state_of, state_at}
use Rattle.types.specs.declared.State.TheVariants.{Free}

pub length_set_cell : (t : List ℕ) (c b o : ℕ) → length (set_cell t c b o) ≡ length t
unfolding set_cell
length_set_cell t c b o = simp length-set

pub length_set_waiters : (t : List ℕ) (c n : ℕ) → length (set_waiters t c n) ≡ length t
unfolding set_waiters
length_set_waiters t c n = simp length-set

-- the cell written
pub bit_set : (t : List ℕ) (c b o : ℕ) → 3 * c < length t → bit_at (set_cell t c b o) c ≡ b
unfolding bit_at set_cell
bit_set t c b o h =
    get_or-set_other (set t (3 * c) b) (3 * c + 1) (3 * c) o 0 (omega arith) ∙ get_or-set_same t (3 * c) b 0 h

pub owner_set : (t : List ℕ) (c b o : ℕ) → 3 * c + 1 < length t → owner_at (set_cell t c b o) c ≡ o
unfolding owner_at set_cell
owner_set t c b o h = get_or-set_same (set t (3 * c) b) (3 * c + 1) o 0 (simp length-set h)

-- another cell
pub bit_set_other : (t : List ℕ) (c b o d : ℕ) → d ≢ c → bit_at (set_cell t c b o) d ≡ bit_at t d
unfolding bit_at set_cell
bit_set_other t c b o d h =
    get_or-set_other (set t (3 * c) b) (3 * c + 1) (3 * d) o 0 (omega arith) ∙ get_or-set_other t (3 * c) (3 * d) b 0 (omega arith)

pub owner_set_other : (t : List ℕ) (c b o d : ℕ) → d ≢ c → owner_at (set_cell t c b o) d ≡ owner_at t d
unfolding owner_at set_cell
owner_set_other t c b o d h =
    get_or-set_other (set t (3 * c) b) (3 * c + 1) (3 * d + 1) o 0 (omega arith) ∙ get_or-set_other t (3 * c) (3 * d + 1) b 0 (omega arith)

-- taking and releasing leave all waiters alone; setting waiters leaves all bits and owners alone
pub waiters_set_cell : (t : List ℕ) (c b o d : ℕ) → waiters_at (set_cell t c b o) d ≡ waiters_at t d
unfolding waiters_at set_cell
waiters_set_cell t c b o d =
    get_or-set_other (set t (3 * c) b) (3 * c + 1) (3 * d + 2) o 0 (omega arith) ∙ get_or-set_other t (3 * c) (3 * d + 2) b 0 (omega arith)

pub bit_set_waiters : (t : List ℕ) (c n d : ℕ) → bit_at (set_waiters t c n) d ≡ bit_at t d
unfolding bit_at set_waiters
bit_set_waiters t c n d = get_or-set_other t (3 * c + 2) (3 * d) n 0 (omega arith)

pub owner_set_waiters : (t : List ℕ) (c n d : ℕ) → owner_at (set_waiters t c n) d ≡ owner_at t d
unfolding owner_at set_waiters
owner_set_waiters t c n d = get_or-set_other t (3 * c + 2) (3 * d + 1) n 0 (omega arith)

pub waiters_set_same : (t : List ℕ) (c n : ℕ) → 3 * c + 2 < length t → waiters_at (set_waiters t c n) c ≡ n
unfolding waiters_at set_waiters
waiters_set_same t c n h = get_or-set_same t (3 * c + 2) n 0 h

pub waiters_set_other : (t : List ℕ) (c n d : ℕ) → d ≢ c → waiters_at (set_waiters t c n) d ≡ waiters_at t d
unfolding waiters_at set_waiters
waiters_set_other t c n d h = get_or-set_other t (3 * c + 2) (3 * d + 2) n 0 (omega arith)

-- what a cell holds after one cell was written: the one case split of every proof about a write
pub data Seen (t : List ℕ) (c b o d : ℕ) : Type 0 where
  here : d ≡ c → bit_at (set_cell t c b o) d ≡ b → owner_at (set_cell t c b o) d ≡ o → Seen t c b o d
  there : d ≢ c → bit_at (set_cell t c b o) d ≡ bit_at t d → owner_at (set_cell t c b o) d ≡ owner_at t d → Seen t c b o d

pub see : (t : List ℕ) (c b o d : ℕ) → 3 * c + 1 < length t → Seen t c b o d
see t c b o d h = go (ℕ_discrete d c)
  where
    go : Dec (d ≡ c) → Seen t c b o d
    go (yes e) = here e (rw e (bit_set t c b o (omega arith))) (rw e (owner_set t c b o h))
    go (no e) = there e (bit_set_other t c b o d e) (owner_set_other t c b o d e)

-- a cell that was released is free
pub state_freed : (next : ℕ) (t : List ℕ) (c : ℕ) → 3 * c + 1 < length t → state_at next (set_cell t c 0 0) c ≡ Free
unfolding state_at state_of is_free
state_freed next t c h = let a = bit_set t c 0 0 (omega arith) in let b = owner_set t c 0 0 h in rw (a, b)
