-- `book::read_kept` meets its contract.
use Rattle.std.proofs.Common.{◌+◌, arith, lt-ltb, le-ltb, le-leb, eq-eqb, ne_eqb}
use Rattle.std.proofs.lemmas.Bool.{lt-leb}
use Rattle.book_rules.specs.Rules.{first_fault, is_gone, kept_rules}
use Rattle.book.specs.Model.{read_kept_of}
use Rattle.book.proofs.read_kept.Goals as goal
use Rattle.book.proofs.read_kept.Goals.{then-version-eq0-via-then-version-eq0, then-version-eq0-via-else-version-eq0+then-newest-version, then-version-eq0-via-else-version-eq0+else-newest-version+then-newest-version-ge4}

pub returns-then-version-eq0 : goal.returns-then-version-eq0
unfolding read_kept_of kept_rules first_fault is_gone
returns-then-version-eq0 c = elim c.then-version-eq0.branch [
  | then-version-eq0-via-then-version-eq0 w ↦ rw (← c.version_at-newest.ensures, eq-eqb _ _ w.if-version-eq0.true)
  | then-version-eq0-via-else-version-eq0+then-newest-version w ↦ rw (← c.version_at-newest.ensures, ne_eqb _ _ w.if-version-eq0.false, lt-ltb _ _ w.if-newest-version.true)
  | then-version-eq0-via-else-version-eq0+else-newest-version+then-newest-version-ge4 w ↦
      rw (← c.version_at-newest.ensures, ne_eqb _ _ w.if-version-eq0.false, le-ltb _ _ w.if-newest-version.false, le-leb (c.args.version + 4) c.version_at-newest.result (omega (arith, w.if-newest-version-ge4.true, w.if-newest-version.false)))
]

pub line_read-requires : goal.line_read-requires
line_read-requires c =
    let e = c.version_at-newest.ensures in
    let r = c.requires.readable c.args.version (omega (arith, c.if-version-eq0.false), omega (arith, e, c.if-newest-version.false), omega (arith, e, c.if-newest-version-ge4.false)) in
    record { k_in_bounds = omega (arith, c.if-newest-version-ge4.false, c.requires.slot_in_bounds); k_in_bounds_2 = rw e r }

pub returns : goal.returns
unfolding read_kept_of kept_rules first_fault is_gone
returns c = rw (← c.version_at-newest.ensures, ne_eqb _ _ c.if-version-eq0.false, le-ltb _ _ c.if-newest-version.false, lt-leb (c.args.version + 4) c.version_at-newest.result (omega (arith, c.if-newest-version-ge4.false, c.if-newest-version.false)), ← c.line_read.ensures)
