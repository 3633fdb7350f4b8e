use Rattle.print.specs.Print.{put_of, form_from}
use lib.ListN.{length, drop}
use mathlib.Core.Path.{◌≡◌}
use Prim.Native.Nat.{◌≤◌, ◌-◌, ◌+◌, ◌*◌}
use Rattle.print.proofs.put_form.Given as goal

abbrev pub invariant-loop-byte : goal.invariant-loop-byte
invariant-loop-byte l = (length l.out ≡ length l.initial.out) × (l.byte-index ≤ length l.form) × (l.k ≤ l.byte-index) × (l.used + 20 * (length l.form - l.byte-index) ≤ l.at + 20 * length l.form) × (put_of l.out l.used (form_from l.numbers l.k (drop l.byte-index l.form)) ≡ put_of l.initial.out l.at (form_from l.numbers 0 l.form))
