-- What the report's one equation leaves: every byte behind the text as it was.
use Rattle.std.specs.Prelude.{ℕ, suc, ◌+◌, ◌≤◌, ◌≡◌, refl, List, [], ◌∷◌, length, get_or, set}
use Rattle.std.proofs.Common.{◌∙◌, arith, get_or-set_other, le-ltb}
use Rattle.std.proofs.lemmas.List.Edits.{sets}
use Rattle.report_rules.specs.Report.{answer_of, report_of}

sets_behind : (l x : List ℕ) (i k : ℕ) → i + length x ≤ k → get_or (sets l i x) k 0 ≡ get_or l k 0
sets_behind l [] i k h = refl
sets_behind l (b ∷ x) i k h =
    sets_behind (set l i b) x (suc i) k (omega arith) ∙ get_or-set_other l i k b 0 (omega arith)

-- with room, every byte behind the text is as it was
pub behind_kept : (input out : List ℕ) (k : ℕ) → 4096 ≤ length out → length (answer_of input) ≤ k → get_or (report_of input out).1 k 0 ≡ get_or out k 0
unfolding report_of
behind_kept input out k h l = rw (le-ltb _ _ h) (sets_behind out (answer_of input) 0 k (omega arith))
