-- `salvage::mend_byte` meets its contract.
use native.Mathlib.Omega.{arith}
use Prim.Native.Nat.{◌+◌}
use lib.ListN.{set, length-set}
use Rattle.salvage.specs.Laws.{at_same, at_changed, byte_entry}
use Rattle.salvage.proofs.mend_byte.Goals as goal

pub returns-then-byte-le1 : goal.returns-then-byte-le1
returns-then-byte-le1 c = let a = c.args in at_same a.health.now a.report.now a.i a.byte a.place a.at c.requires.1 c.if-byte-le1.true

pub bounds-report-at : goal.bounds-report-at
bounds-report-at c = let a = c.args in omega (arith, byte_entry a.place a.byte c.if-byte-le1.false, c.requires.2)

pub bounds-report-at-2 : goal.bounds-report-at-2
bounds-report-at-2 c = let a = c.args in omega (arith, byte_entry a.place a.byte c.if-byte-le1.false, c.requires.2, length-set a.report.now a.at a.place)

pub bounds-report-at-3 : goal.bounds-report-at-3
bounds-report-at-3 c = let a = c.args in omega (arith, byte_entry a.place a.byte c.if-byte-le1.false, c.requires.2, length-set a.report.now a.at a.place, length-set (set a.report.now a.at a.place) (a.at + 1) a.byte)

pub returns : goal.returns
returns c = let a = c.args in at_changed a.health.now a.report.now a.i a.byte a.place a.at c.if-byte-le1.false
