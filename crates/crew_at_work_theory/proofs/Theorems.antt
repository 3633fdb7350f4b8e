-- The theorems of this crate by the names of their statements.
use Rattle.std.specs.Prelude.{ℕ, ◌<◌, ◌≡◌, refl, List, length, get_or, Ok, Err}
use Rattle.std.proofs.Common.{sym, ap, ◌∙◌, subst, arith, ext_get_or}
use Rattle.std.proofs.Math.Decide.{dec_lt}
use Rattle.std.proofs.Math.ListN.{get_or-eq_default}
use Rattle.types.specs.Checks.{Check}
use Rattle.model.specs.Refusals.{first}
use Rattle.model.specs.Crew.{adds, summed_of, crew_at_work_rules, crew_start, crew_at_work_of, order_of}
use Rattle.types.specs.declared.Head.{Head}
use Rattle.laws.specs.Crew.{member}
use Rattle.crew_at_work_theory.specs.Statements.{replay_of, AllFinished, OneAfterAnother, OverRemainders, counters_by, AddsAreAll, SumsWrap, StaysLow, Owes, OwesOnly, AsReplayed, NamedOnce, ReleasedFirst, AnyOrder}
use Rattle.crew_at_work_theory.proofs.Due.{Settled, level, waits}
use Rattle.crew_at_work_theory.proofs.Kept.{Good, turns_good, start_good}
use Rattle.crew_at_work_theory.proofs.Reorders.{reorder}
use Rattle.crew_at_work_theory.proofs.First as first_of
use Rattle.crew_at_work_theory.specs.Counters.{counters_long, turns_count}
use Rattle.crew_at_work_theory.specs.Wraps.{counters_at, replay_remainders}
use Rattle.crew_at_work_theory.proofs.Once.{done_fine, fit, wide, end, log, reply, result_is, at_most_once, owes_so, owes_none, named_so, all_moved}

module _ (h : Head) (t g counts cells turns counters : List ℕ) (fine : first (crew_at_work_rules h t g counts cells turns counters) ≡ Ok tt) where
  abbrev replayed : List ℕ
  replayed = replay_of counts cells counters (order_of (log h t g counts cells turns counters fine))

  ended : Good h (length t) counts cells (fit h t g counts cells turns counters fine) (end h t g counts cells turns counters fine) replayed
  ended =
      let f = fit h t g counts cells turns counters fine in
      turns_good h (length t) counts cells f g (crew_start h t counters) turns counters (start_good h (length t) counts cells f g t counters refl (wide h t g counts cells turns counters fine))

  owes : (c : ℕ) → (Owes counts cells (log h t g counts cells turns counters fine) c → ⊥) → get_or (end h t g counts cells turns counters fine).counters c 0 ≡ get_or replayed c 0
  owes c none = go (ended.owed.settled c)
    where
      go : Settled summed_of counts cells (end h t g counts cells turns counters fine).made (end h t g counts cells turns counters fine).counters replayed c
          → get_or (end h t g counts cells turns counters fine).counters c 0 ≡ get_or replayed c 0
      go (level e) = sym e
      go (waits m j d e) = absurd (none (subst (Owes counts cells (log h t g counts cells turns counters fine)) e (owes_so h t g counts cells turns counters fine m j d)))

  all_replayed : AllFinished counts (reply h t g counts cells turns counters fine) → (end h t g counts cells turns counters fine).counters ≡ replayed
  all_replayed all = ext_get_or 0 _ _ (ended.wide ∙ sym ended.replay_wide) (λ c _. go c (ended.owed.settled c))
    where
      go : (c : ℕ) → Settled summed_of counts cells (end h t g counts cells turns counters fine).made (end h t g counts cells turns counters fine).counters replayed c
          → get_or (end h t g counts cells turns counters fine).counters c 0 ≡ get_or replayed c 0
      go c (level e) = sym e
      go c (waits m j d e) = absurd (omega (arith, all_moved h t g counts cells turns counters fine all m (member counts m (omega (arith, d.2))), d.1, d.2))

pub one_after_another : OneAfterAnother crew_at_work_of
one_after_another h t g counts cells turns counters done =
    let fine = done_fine h t g counts cells turns counters done in
    rw (result_is h t g counts cells turns counters fine) (all_replayed h t g counts cells turns counters fine)

pub over_remainders : OverRemainders crew_at_work_of
over_remainders h t g counts cells turns counters done all low c =
    ap (λ (l : List ℕ). get_or l c 0) (one_after_another h t g counts cells turns counters done all)
    ∙ (replay_remainders counts cells counters counters _ (record { long = refl; each = λ d. omega (arith, low d) })).each c

pub adds_are_all : AddsAreAll crew_at_work_of
unfolding crew_at_work_of counters_by
adds_are_all h t g counts cells turns counters = go (first (crew_at_work_rules h t g counts cells turns counters)) refl
  where
    go : (k : Check) → first (crew_at_work_rules h t g counts cells turns counters) ≡ k
        → (crew_at_work_of h t g counts cells turns counters).seen.1.1 ≡ counters_by counters (crew_at_work_of h t g counts cells turns counters).log
    go (Ok tt) e = rw (result_is h t g counts cells turns counters e) (turns_count adds h g counts cells (crew_start h t counters) turns)
    go (Err r) e = rw e

pub sums_wrap : SumsWrap crew_at_work_of
sums_wrap h t g counts cells turns counters done low c l =
    ap (λ (x : List ℕ). get_or x c 0) (adds_are_all h t g counts cells turns counters) ∙ counters_at c counters (crew_at_work_of h t g counts cells turns counters).log (l, low c)

pub owes_only : OwesOnly crew_at_work_of
owes_only h t g counts cells turns counters done =
    let fine = done_fine h t g counts cells turns counters done in
    rw (result_is h t g counts cells turns counters fine) (owes h t g counts cells turns counters fine)

pub as_replayed : AsReplayed crew_at_work_of
as_replayed h t g counts cells turns counters c done =
    let fine = done_fine h t g counts cells turns counters done in
    rw (result_is h t g counts cells turns counters fine) (λ all. owes h t g counts cells turns counters fine c (λ (m, j, i, a, b, e). owes_none h t g counts cells turns counters fine m j i a b (all m j b e)))

pub named_once : NamedOnce crew_at_work_of
named_once h t g counts cells turns counters m done =
    let fine = done_fine h t g counts cells turns counters done in
    rw (result_is h t g counts cells turns counters fine) (named_so h t g counts cells turns counters fine m)

pub released_first : ReleasedFirst crew_at_work_of
released_first h t g counts cells turns counters m j q i done two mj qi shared =
    let fine = done_fine h t g counts cells turns counters done in
    rw (result_is h t g counts cells turns counters fine)
    (first_of.gives_way h (length t) counts cells (fit h t g counts cells turns counters fine) g m j q i two mj qi shared t counters turns refl)

pub any_order : AnyOrder crew_at_work_of
any_order h t g counts cells turns counters others done all same keeps =
    let fine = done_fine h t g counts cells turns counters done in
    let e = result_is h t g counts cells turns counters fine in
    one_after_another h t g counts cells turns counters done all
    ∙ reorder summed_of h (length t) counts cells (fit h t g counts cells turns counters fine) counters (order_of (crew_at_work_of h t g counts cells turns counters).log) others
    (wide h t g counts cells turns counters fine)
    (record { same = same; once = λ m. rw e (at_most_once h t g counts cells turns counters fine m); keeps = keeps })

pub stays_low : StaysLow crew_at_work_of
stays_low h t g counts cells turns counters low c =
    let l = adds_are_all h t g counts cells turns counters in
    rw l (go (dec_lt c (length counters)))
  where
    go : Dec (c < length counters) → get_or (counters_by counters (crew_at_work_of h t g counts cells turns counters).log) c 0 < 65536
    go (yes k) = omega (arith, counters_at c counters (crew_at_work_of h t g counts cells turns counters).log (k, low c))
    go (no k) = omega (arith, get_or-eq_default (counters_by counters (crew_at_work_of h t g counts cells turns counters).log) 0 {n = c} (omega (arith, counters_long counters (crew_at_work_of h t g counts cells turns counters).log)))
