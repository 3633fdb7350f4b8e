-- `wave_write::put_body` meets its contract.
use Prim.Native.Nat.{◌+◌, ◌*◌}
use mathlib.Core.Path.{◌≡◌}
use lib.ListN.{length, drop}
use Rattle.wave_rules.specs.Lines.{joined}
use Rattle.wave_rules.specs.Dump.{no_bits, body_of}
use Rattle.print.specs.Print.{put_of}
use Rattle.wave_write.proofs.put_body.Given as goal

abbrev pub invariant-loop-s : goal.invariant-loop-s
invariant-loop-s l = (length l.out ≡ length l.initial.out) × (put_of l.out l.used (joined (body_of l.n (l.s + 1) l.bits (drop (3 * l.s) l.script))) ≡ put_of l.initial.out l.at (joined (body_of l.n 1 no_bits l.script)))
