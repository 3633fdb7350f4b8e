-- `text::read_number` meets its contract.
use Prim.Native.Nat.{◌+◌, ◌-◌, ◌*◌, ◌<◌}
use mathlib.Core.Path.{◌≡◌, sym, ◌∙◌}
use native.Mathlib.Omega.{arith}
use lib.ListN.{drop, get_or, length}
use Rattle.text.specs.Laws.{digit_turn, digit_stop, value_end, digits_end, number_ends, number_large, number_past, rest_is}
use Rattle.std.proofs.Common.{rules}
use Rattle.text.proofs.read_number.Goals as goal

pub returns-in_err-rest : goal.returns-in_err-rest
returns-in_err-rest c = c.from_residual.ensures ∙ sym (number_past c.args.line.now c.args.at (omega (arith, c.in_err-rest.ensures.lookup.0)))

pub returns-then-not-is_ascii_digit : goal.returns-then-not-is_ascii_digit
returns-then-not-is_ascii_digit c =
    let l = c.loop-digits in
    let rest = c.in_ok-rest.rest.now in
    let stop = digit_stop l.value rest l.digits (search rules) (sym c.is_ascii_digit.ensures.value ∙ c.if-not-is_ascii_digit.true) in
    rw (← rest_is c.args.line.now rest c.args.at c.in_ok-rest.ensures.lookup.0.2)
    (c.ended.ensures ∙ number_ends rest l.digits l.value l.invariant.0 (sym l.invariant.1 ∙ stop.0) (omega (arith, stop.1, l.invariant.2)))

pub returns-in_err-checked_mul : goal.returns-in_err-checked_mul
returns-in_err-checked_mul c =
    let l = c.loop-digits in
    let rest = c.in_ok-rest.rest.now in
    let turn = digit_turn l.value rest l.digits (search rules) (sym c.is_ascii_digit.ensures.value ∙ c.if-not-is_ascii_digit.false) in
    let big : 4294967295 < 10 * l.value + (get_or rest l.digits 0 - 48) = omega arith in
    rw (← rest_is c.args.line.now rest c.args.at c.in_ok-rest.ensures.lookup.0.2)
    (c.from_residual-in_err-checked_mul.ensures ∙ number_large rest _ (drop (l.digits + 1) rest) big (turn.2 ∙ l.invariant.1))

pub returns-in_err-value : goal.returns-in_err-value
returns-in_err-value c =
    let l = c.loop-digits in
    let rest = c.in_ok-rest.rest.now in
    let turn = digit_turn l.value rest l.digits (search rules) (sym c.is_ascii_digit.ensures.value ∙ c.if-not-is_ascii_digit.false) in
    let big : 4294967295 < 10 * l.value + (get_or rest l.digits 0 - 48) = omega arith in
    rw (← rest_is c.args.line.now rest c.args.at c.in_ok-rest.ensures.lookup.0.2)
    (c.from_residual-in_err-value.ensures ∙ number_large rest _ (drop (l.digits + 1) rest) big (turn.2 ∙ l.invariant.1))

pub loop-digits-preserved : goal.loop-digits-preserved
loop-digits-preserved c =
    let l = c.loop-digits in
    let rest = c.in_ok-rest.rest.now in
    let turn = digit_turn l.value rest l.digits (search rules) (sym c.is_ascii_digit.ensures.value ∙ c.if-not-is_ascii_digit.false) in
    let e : c.in_ok-value.value ≡ 10 * l.value + (get_or rest l.digits 0 - 48) = omega arith in
    (search rules, rw e (turn.2 ∙ l.invariant.1), omega (arith, turn.3, l.invariant.2))

pub returns : goal.returns
returns c =
    let l = c.loop-digits in
    let rest = c.in_ok-rest.rest.now in
    let n : l.digits ≡ length rest = omega arith in
    let v = value_end l.value rest l.digits (omega arith) in
    let d = digits_end rest l.digits (omega arith) in
    rw (← rest_is c.args.line.now rest c.args.at c.in_ok-rest.ensures.lookup.0.2)
    (c.ended-2.ensures ∙ number_ends rest (length rest) l.value l.invariant.0 (sym l.invariant.1 ∙ v) (omega (arith, d, n, l.invariant.2)))
