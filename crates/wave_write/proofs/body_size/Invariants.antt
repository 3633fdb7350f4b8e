-- `wave_write::body_size` meets its contract.
use Prim.Native.Nat.{◌≤◌, ◌+◌, ◌*◌}
use mathlib.Core.Path.{◌≡◌}
use lib.ListN.{length, drop}
use Rattle.wave_rules.specs.Lines.{joined}
use Rattle.wave_rules.specs.Dump.{no_bits, body_of}
use Rattle.wave_write.proofs.body_size.Given as goal

abbrev pub invariant-loop-s : goal.invariant-loop-s
invariant-loop-s l = (l.size ≤ 10 * l.s) × (l.size + length (joined (body_of l.n (l.s + 1) l.bits (drop (3 * l.s) l.script))) ≡ length (joined (body_of l.n 1 no_bits l.script)))
