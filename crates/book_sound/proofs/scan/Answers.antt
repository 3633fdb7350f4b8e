-- `book_sound::scan` meets its contract.
use Rattle.std.proofs.Common.{ℕ, ◌-◌, ap, sym, ◌∙◌, arith, rules}
use Rattle.book_rules.proofs.Sound.{kept_fits}
use Rattle.book_sound.specs.Scan.{wanted_more, scan_turn, scan_end}
use Rattle.book_sound.proofs.scan.Goals as goal
use Rattle.book_sound.proofs.scan.Goals.{then-not-is_falling-via-then-not-is_falling, then-not-is_falling-via-else-not-is_falling+then-not-is_fitting, then-is_kept+else-not-is_clear, else-is_kept}

pub returns-then-not-is_falling : goal.returns-then-not-is_falling
returns-then-not-is_falling c =
    let turn = scan_turn c.args.n c.args.book.now c.loop-k.k c.loop-k.marks c.loop-k-test.true in
    elim c.then-not-is_falling.branch [
      | then-not-is_falling-via-then-not-is_falling w ↦ rw (← c.loop-k.invariant.rest, turn, ← c.is_falling.ensures, w.if-not-is_falling.true)
      | then-not-is_falling-via-else-not-is_falling+then-not-is_fitting w ↦ rw (← c.loop-k.invariant.rest, turn, ← c.is_falling.ensures, w.if-not-is_falling.false, ← w.is_fitting.ensures, w.if-not-is_fitting.true)
    ]

pub behind-d-requires : goal.behind-d-requires
behind-d-requires c =
    let f = kept_fits c.args.n c.args.book.now c.loop-k.k (sym c.is_fitting.ensures ∙ c.if-not-is_fitting.false) (sym c.is_kept.ensures ∙ c.if-is_kept.true) in
    record { n_bound = search rules; k_in_bounds = search rules; k_value = f.0; n_bound_2 = f.1 }

pub is_clear-requires : goal.is_clear-requires
is_clear-requires c =
    let f = kept_fits c.args.n c.args.book.now c.loop-k.k (sym c.is_fitting.ensures ∙ c.if-not-is_fitting.false) (sym c.is_kept.ensures ∙ c.if-is_kept.true) in
    record { c_in_bounds = omega (arith, f.1, f.2, c.behind-d.ensures, c.loop-k.auto.marks, c.requires.book_len_bound); r_bound = omega arith }

pub returns-then-not-is_clear : goal.returns-then-not-is_clear
returns-then-not-is_clear c =
    let turn = scan_turn c.args.n c.args.book.now c.loop-k.k c.loop-k.marks c.loop-k-test.true in
    rw (← c.loop-k.invariant.rest, turn, ← c.is_falling.ensures, c.if-not-is_falling.false, ← c.is_fitting.ensures, c.if-not-is_fitting.false, ← c.is_kept.ensures, c.if-is_kept.true, ← c.behind-d.ensures, ← c.from-c.ensures, ← c.is_clear.ensures, c.if-not-is_clear.true)

pub bounds-marks-c : goal.bounds-marks-c
bounds-marks-c c =
    let f = kept_fits c.args.n c.args.book.now c.loop-k.k (sym c.is_fitting.ensures ∙ c.if-not-is_fitting.false) (sym c.is_kept.ensures ∙ c.if-is_kept.true) in
    omega (arith, f.1, f.2, c.behind-d.ensures, c.loop-k.auto.marks, c.requires.book_len_bound)

pub loop-k-preserved : goal.loop-k-preserved
loop-k-preserved c =
    let turn = scan_turn c.args.n c.args.book.now c.loop-k.k c.loop-k.marks c.loop-k-test.true in
    let wanted = wanted_more c.args.book.now c.loop-k.k _ (sym c.is_falling.ensures ∙ c.if-not-is_falling.false) (c.saturating_sub-wanted.ensures ∙ ap (λ (v : ℕ). v - 1) c.version_at.ensures) in
    elim c.if-is_kept.branch [
      | then-is_kept+else-not-is_clear w ↦ record { wanted = wanted; rest = rw (w.marks-is, ← c.loop-k.invariant.rest, turn, ← c.is_falling.ensures, c.if-not-is_falling.false, ← c.is_fitting.ensures, c.if-not-is_fitting.false, ← c.is_kept.ensures, w.if-is_kept.true, ← w.behind-d.ensures, ← w.from-c.ensures, ← w.is_clear.ensures, w.if-not-is_clear.false) }
      | else-is_kept w ↦ record { wanted = wanted; rest = rw (w.marks-is, ← c.loop-k.invariant.rest, turn, ← c.is_falling.ensures, c.if-not-is_falling.false, ← c.is_fitting.ensures, c.if-not-is_fitting.false, ← c.is_kept.ensures, w.if-is_kept.false) }
    ]

pub returns : goal.returns
returns c = rw (← c.loop-k.invariant.rest, scan_end c.args.n c.args.book.now c.loop-k.k c.loop-k.marks c.loop-k-test.false)
