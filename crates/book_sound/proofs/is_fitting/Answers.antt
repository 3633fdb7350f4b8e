-- `book_sound::is_fitting` meets its contract.
use Rattle.std.proofs.Common.{◌≡◌, ℕ, ◌+◌, ◌*◌, ◌-◌, ◌%◌, ◌^◌, ◌<◌, ◌≤◌, Option, Some, None, refl, length, arith, eq-eqb, le-leb, le-ltb}
use Rattle.std.specs.Option.{is_some}
use Rattle.setpoint.specs.declared.Setpoint.{Setpoint}
use Rattle.book_rules.specs.Layout.{place_at, length_at, setting_at, is_setting, is_fitting}
use Rattle.book_sound.specs.Scan.{in_places, out_places, zero_word}
use Rattle.book_sound.proofs.is_fitting.Goals as goal

pub returns-then-not-is_kept : goal.returns-then-not-is_kept
unfolding is_fitting
returns-then-not-is_kept c = rw (← c.is_kept.ensures, c.if-not-is_kept.true) (zero_word _ _ _ c.word_at-word.ensures.0)

-- `Option::is_some` is the test of the rules
is_some_lem : (d : Option Setpoint) → is_some d ≡ is_setting d
is_some_lem (Some s) = refl
is_some_lem None = refl

-- the word less the least one that fits
abbrev less : ℕ → ℕ → ℕ
less w n = (w + (2 ^ 64 - (327680 + 32 * n))) % 2 ^ 64

wraps : (w n : ℕ) → n ≤ 64 → w < 2 ^ 32 → (less w n + (327680 + 32 * n)) % 2 ^ 64 ≡ w
wraps w n few small = omega arith

pub setting_at-requires : goal.setting_at-requires
setting_at-requires c =
    let a = c.args in
    let p = c.requires in
    let w = c.word_at-word.result in
    let q = in_places a.n (place_at a.book.now a.k) (length_at a.book.now a.k) (length a.book.now) w (less w a.n) p.n_bound p.book_len_bound c.word_at-word.ensures.0 c.word_at-word.ensures.1 (wraps w a.n p.n_bound c.word_at-word.type_inv) (omega (arith, c.if-d-places.true, p.places_value)) in
    omega (arith, q.2, q.3)

pub returns-then-d-places : goal.returns-then-d-places
unfolding is_fitting
returns-then-d-places c =
    let a = c.args in
    let p = c.requires in
    let w = c.word_at-word.result in
    let q = in_places a.n (place_at a.book.now a.k) (length_at a.book.now a.k) (length a.book.now) w (less w a.n) p.n_bound p.book_len_bound c.word_at-word.ensures.0 c.word_at-word.ensures.1 (wraps w a.n p.n_bound c.word_at-word.type_inv) (omega (arith, c.if-d-places.true, p.places_value)) in
    rw (← c.is_kept.ensures, c.if-not-is_kept.false, eq-eqb _ _ q.0, le-leb _ _ q.1, le-leb _ _ q.2, q.3, ← is_some_lem _, ← c.setting_at.ensures) c.is_some.ensures

pub returns-else-d-places : goal.returns-else-d-places
unfolding is_fitting
returns-else-d-places c =
    let a = c.args in
    let p = c.requires in
    let b = a.book.now in
    let w = c.word_at-word.result in
    let out = out_places a.n (place_at b a.k) (length_at b a.k) (length b) w (less w a.n) p.n_bound p.book_len_bound c.word_at-word.ensures.0 c.word_at-word.ensures.1 (wraps w a.n p.n_bound c.word_at-word.type_inv) (is_setting (setting_at b (place_at b a.k))) (omega arith) (omega (arith, c.if-d-places.false, p.places_value)) in
    rw (← c.is_kept.ensures, c.if-not-is_kept.false, out) (le-ltb _ _ c.if-d-places.false)
