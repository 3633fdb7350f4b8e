use Rattle.report_rules.specs.Report.{number_form, count_form, row_of}
use Rattle.report_names.specs.Table.{name_short}
use Rattle.print.specs.Laws.{put_none, put_join, put_place, form_size}
use Rattle.print.specs.Print.{form_of}
use Rattle.model.specs.Names.{name_of}
use borrow.Author.Tests.{eq-eqb, ne_eqb}
use mathlib.Core.List.{[], ◌∷◌, ◌++◌}
use native.Mathlib.Omega.{arith}
use Rattle.report_call.proofs.put_row.Goals as goal

pub returns-then-count-eq0 : goal.returns-then-count-eq0
unfolding row_of
returns-then-count-eq0 c = rw (eq-eqb _ _ c.if-count-eq0.true) (put_none _ _)

pub put_name-b-requires : goal.put_name-b-requires
put_name-b-requires c =
    let a = c.args in
    omega (arith, put_place _ _ _ _ _ c.put_form-a.ensures, c.put_form-a.auto, form_size number_form (a.number ∷ []), c.requires)

pub put_form-requires : goal.put_form-requires
put_form-requires c =
    let a = c.args in
    omega (arith, put_place _ _ _ _ _ c.put_form-a.ensures, c.put_form-a.auto, form_size number_form (a.number ∷ []), put_place _ _ _ _ _ c.put_name-b.ensures, c.put_name-b.auto, name_short a.number, c.requires)

pub returns : goal.returns
unfolding row_of
returns c =
    let n = c.args.number in
    let k = c.args.count in
    rw (ne_eqb _ _ c.if-count-eq0.false)
    (put_join _ _ _ _ _ _ (form_of number_form (n ∷ [])) (name_of n ++ form_of count_form (k ∷ [])) c.put_form-a.ensures
    (put_join _ _ _ _ _ _ (name_of n) (form_of count_form (k ∷ [])) c.put_name-b.ensures c.put_form.ensures))
