-- Marks on a list of cells: for each remainder of a cell number by 256, a position before which no listed cell has it.
-- A search for a cell begins there, and finds what a search from the front finds.
use Rattle.std.specs.Prelude.{ℕ, zero, suc, ◌+◌, ◌*◌, ◌/◌, ◌%◌, ◌≤◌, ◌<◌, ◌≡◌, refl, List, ◌≢◌, length, get_or, replicate, Option, Some, None}
use Rattle.std.proofs.Common.{ap, ◌∙◌, arith}
use Rattle.std.proofs.lemmas.List.{get_or-replicate}

abbrev pub mark_of : List ℕ → ℕ → ℕ
mark_of marks c = get_or marks (c % 256) 0

-- marks of n cells, noted from the end back to position k: that of a cell is at most its position
pub record Noted (marks : List ℕ) (cell : ℕ → ℕ) (n k : ℕ) : Type 0 where
  pub byte : (c : ℕ) → mark_of marks c < 256
  pub low : (c : ℕ) → mark_of marks c ≤ n
  pub from : (i : ℕ) → k ≤ i → i < n → mark_of marks (cell i) ≤ i

-- of a list of entries of so many words each, the first words: the cells of a list, of its leases
abbrev pub Marked : ℕ → List ℕ → List ℕ → ℕ → Type 0
Marked stride marks list k = Noted marks (λ i. get_or list (stride * i) 0) (length list / stride) k

-- nothing noted yet
pub none_noted : (cell : ℕ → ℕ) (n : ℕ) → Noted (replicate 256 0) cell n n
none_noted cell n = record { byte = λ c. omega (arith, clear c); low = λ c. omega (arith, clear c); from = λ i h b. absurd (omega arith) }
  where
    clear : (c : ℕ) → mark_of (replicate 256 0) c ≡ 0
    clear c = get_or-replicate 256 (c % 256) 0 0 (omega arith)

-- ---- a search may begin at the mark

-- where the first entry that begins with a cell stands, if one does
abbrev pub Found : ℕ → List ℕ → ℕ → Option ℕ → Type 0
Found stride list c None = (i : ℕ) → i < length list / stride → get_or list (stride * i) 0 ≢ c
Found stride list c (Some k) = (k < length list / stride) × (get_or list (stride * k) 0 ≡ c) × ((i : ℕ) → i < k → get_or list (stride * i) 0 ≢ c)

-- no entry before the mark begins with the cell
pub none_before : (stride : ℕ) (marks list : List ℕ) (c : ℕ) → Marked stride marks list 0 → (i : ℕ) → i < mark_of marks c → get_or list (stride * i) 0 ≢ c
none_before stride marks list c w i b q = absurd (omega (arith, w.low c, w.from i (omega arith) (omega (arith, w.low c)), ap (mark_of marks) q))

-- `f k` is what a search from position k on finds
module _ {A : Type 0} (f : ℕ → A) (cell : ℕ → ℕ) (n c : ℕ) (on : (k : ℕ) → k < n → cell k ≢ c → f k ≡ f (k + 1)) where
  pub skip : (m : ℕ) → m ≤ n → ((i : ℕ) → i < m → cell i ≢ c) → f 0 ≡ f m
  skip zero l h = refl
  skip (suc m) l h =
      let e : m + 1 ≡ suc m = omega arith in
      skip m (omega arith) (λ i b. h i (omega arith)) ∙ on m (omega arith) (h m (omega arith)) ∙ ap f e
