-- `wave_write::put_head` meets its contract.
use mathlib.Core.List.{[], ◌∷◌, ◌++◌}
use native.Mathlib.Omega.{arith}
use Rattle.text.specs.Decimal.{decimal_of, digit_count, digit_count_in}
use Rattle.wave_rules.specs.Lines.{joined}
use Rattle.wave_rules.specs.Dump.{timescale, scope_line, upscope, end_line, time_line, vars_of, first_of}
use Rattle.wave_write.specs.Writer.{head_of}
use Rattle.print.specs.Laws.{put_join, put_place}
use Rattle.wave_write.specs.Laws.{head_size}
use Rattle.wave_write.proofs.put_head.Goals as goal

pub put-a-requires : goal.put-a-requires
put-a-requires c = omega (arith, head_size c.args.n)

pub put_vars-b-requires : goal.put_vars-b-requires
put_vars-b-requires c = omega (arith, head_size c.args.n, put_place _ _ _ _ _ c.put-a.ensures, c.put-a.auto)

pub put-c-requires : goal.put-c-requires
put-c-requires c = omega (arith, head_size c.args.n, put_place _ _ _ _ _ c.put-a.ensures, c.put-a.auto, put_place _ _ _ _ _ c.put_vars-b.ensures, c.put_vars-b.auto)

pub put_first-requires : goal.put_first-requires
put_first-requires c = omega (arith, head_size c.args.n, put_place _ _ _ _ _ c.put-a.ensures, c.put-a.auto, put_place _ _ _ _ _ c.put_vars-b.ensures, c.put_vars-b.auto, put_place _ _ _ _ _ c.put-c.ensures, c.put-c.auto)

pub returns : goal.returns
unfolding head_of joined timescale scope_line upscope end_line time_line decimal_of digit_count digit_count_in
returns c =
    let n = c.args.n in
    put_join _ _ _ _ _ _ (joined (timescale ∷ scope_line ∷ [])) ((joined (vars_of 0 n [])) ++ ((joined (upscope ∷ end_line ∷ time_line 0 ∷ [])) ++ (joined (first_of 0 n [])))) c.put-a.ensures
    (put_join _ _ _ _ _ _ (joined (vars_of 0 n [])) ((joined (upscope ∷ end_line ∷ time_line 0 ∷ [])) ++ (joined (first_of 0 n []))) c.put_vars-b.ensures
    (put_join _ _ _ _ _ _ (joined (upscope ∷ end_line ∷ time_line 0 ∷ [])) (joined (first_of 0 n [])) c.put-c.ensures c.put_first.ensures))
