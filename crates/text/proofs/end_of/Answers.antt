-- `text::end_of` meets its contract.
use mathlib.Core.Path.{ap, ◌∙◌}
use Prim.Native.Nat.{ℕ, ◌+◌}
use Rattle.text.specs.Laws.{before_rest}
use Rattle.text.proofs.end_of.Goals as goal

pub returns-clause-value : goal.returns-clause-value
returns-clause-value c =
    let a = c.args in
    ap (λ (n : ℕ). a.at + n) (c.count_before.ensures ∙ before_rest a.stop a.bytes.now a.at)
