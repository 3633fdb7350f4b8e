-- `wave_read::fill` meets its contract.
use Rattle.std.proofs.Common.{◌≡◌, ◌+◌, ◌-◌, refl, ◌∙◌, arith, rules}
use Rattle.wave_rules.specs.declared.Stage.TheVariants.{Waiting}
use Rattle.wave_rules.specs.Dump.{no_bits, flip_of}
use Rattle.wave_read.specs.Laws.{right_time, Pair, pair_of, put_turn, put_room, put_all, words_end}
use Rattle.wave_read.proofs.fill.Goals.{After-time_in-time}
use Rattle.wave_read.proofs.fill.Goals as goal

pub loop-at-init : goal.loop-at-init
unfolding no_bits
loop-at-init c = (c.requires.1, search rules, c.requires.2, refl)

pub time_in-time-requires : goal.time_in-time-requires
time_in-time-requires c =
    let l = c.loop-at in
    let a = c.args in
    (c.loop-at-test.true, omega (arith, (right_time a.text.now l.at a.n l.last l.bits c.loop-at-test.true l.invariant.2).0))

-- what the two lines tell
pair : (c : After-time_in-time) → Pair c.args.text.now c.loop-at.at c.args.n c.loop-at.last c.loop-at.bits c.time_in-time.result
pair c = pair_of c.args.text.now c.loop-at.at c.args.n c.loop-at.last c.loop-at.bits _ c.loop-at-test.true c.loop-at.invariant.2 c.time_in-time.ensures

pub bounds-text-i : goal.bounds-text-i
bounds-text-i c = omega (arith, (pair (goal.at.bounds-text-i c).After-time_in-time).inside)

pub overflow_sub-text : goal.overflow_sub-text
overflow_sub-text c = (pair (goal.at.overflow_sub-text c).After-time_in-time).code

pub bounds-bits-cell : goal.bounds-bits-cell
bounds-bits-cell c = omega (arith, (pair (goal.at.bounds-bits-cell c).After-time_in-time).cell, c.requires.0)

pub overflow_sub-t : goal.overflow_sub-t
overflow_sub-t c = omega (arith, (pair (goal.at.overflow_sub-t c).After-time_in-time).later)

pub overflow_sub-t-in-loop-at : goal.overflow_sub-t-in-loop-at
overflow_sub-t-in-loop-at c = omega (arith, (pair (goal.at.overflow_sub-t-in-loop-at c).After-time_in-time).later)

pub put_change-used-requires : goal.put_change-used-requires
put_change-used-requires c =
    let l = c.loop-at in
    let a = c.args in
    let p = pair (goal.at.put_change-used-requires c).After-time_in-time in
    let room = put_room l.out a.out.now l.used 0 _ _ _ _ _ _ p.words l.invariant.3 in
    omega (arith, room, p.later, l.invariant.1, c.requires.3)

pub bounds-bits-cell-in-loop-at : goal.bounds-bits-cell-in-loop-at
bounds-bits-cell-in-loop-at c = omega (arith, (pair (goal.at.bounds-bits-cell-in-loop-at c).After-time_in-time).cell, c.requires.0)

pub loop-at-smaller : goal.loop-at-smaller
loop-at-smaller c = let p = pair (goal.at.loop-at-smaller c).After-time_in-time in omega (arith, p.inside, p.ahead)

pub loop-at-preserved : goal.loop-at-preserved
unfolding flip_of
loop-at-preserved c =
    let l = c.loop-at in
    let a = c.args in
    let p = pair (goal.at.loop-at-preserved c).After-time_in-time in
    let t = c.time_in-time.result.value in
    let gap : t - 1 - l.last ≡ t - (l.last + 1) = omega arith in (
      p.inside,
      omega (arith, c.put_change-used.auto, l.invariant.1),
      rw (c.turned.ensures, c.from-cell.ensures) p.turn,
      rw (c.turned.ensures, c.from-cell.ensures) (put_turn l.out _ l.used _ _ _ _ p.words (rw (gap, c.kind_for.ensures, c.from-cell.ensures) at c.put_change-used.ensures) ∙ l.invariant.3),
    )

pub returns : goal.returns
returns c =
    let l = c.loop-at in
    let a = c.args in
    put_all a.out.now l.out l.used _ (rw (words_end a.text.now l.at (Waiting a.n l.last) l.bits (search rules)) at l.invariant.3)
