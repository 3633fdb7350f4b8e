use Rattle.print.specs.Laws.{put_place, piece_few, after_next, form_turn, form_end}
use Rattle.print.specs.Print.{form_of}
use lib.ListN.{get_or}
use native.Mathlib.Omega.{arith}
use mathlib.Core.Path.{◌∙◌}
use Rattle.std.proofs.Common.{rules}
use Rattle.print.proofs.put_form.Goals as goal

pub loop-byte-preserved : goal.loop-byte-preserved
loop-byte-preserved c =
    let l = c.loop-byte in
    let a = c.args in
    let b = get_or a.form.now l.byte-index 0 in (
      omega (arith, c.put_piece-used.auto, l.invariant.0),
      search rules,
      omega (arith, c.after-k.ensures, after_next l.k b, l.invariant.2),
      omega (arith, put_place _ _ _ _ _ c.put_piece-used.ensures, piece_few a.numbers.now l.k b, l.invariant.3, c.loop-byte-test.true),
      rw c.after-k.ensures (form_turn l.out _ a.numbers.now a.form.now l.used _ l.k l.byte-index (search rules) c.put_piece-used.ensures ∙ l.invariant.4),
    )

pub returns : goal.returns
unfolding form_of
returns c =
    let l = c.loop-byte in
    let a = c.args in
    form_end l.out a.numbers.now a.form.now l.used l.k l.byte-index (search rules) ∙ l.invariant.4
