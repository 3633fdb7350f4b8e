-- `book::head_fits` meets its contract.
use Rattle.std.proofs.Common.{sym, ◌∙◌}
use Rattle.book.specs.Model.{many_headers, many_buckets}
use Rattle.book_rules.proofs.Fine.{head_alone}
use Rattle.book.proofs.head_fits.Goals as goal
use Rattle.book.proofs.head_fits.Goals.{then-h-gt64-via-then-h-gt64, then-h-gt64-via-else-h-gt64+then-b-gt1024}

pub returns-then-h-gt64 : goal.returns-then-h-gt64
returns-then-h-gt64 c = elim c.then-h-gt64.branch [
  | then-h-gt64-via-then-h-gt64 w ↦ many_headers _ w.if-h-gt64.true
  | then-h-gt64-via-else-h-gt64+then-b-gt1024 w ↦ many_buckets _ w.if-b-gt1024.true
]

pub returns : goal.returns
returns c = c.shape_fits.ensures ∙ sym (head_alone _)
