-- Two events on different places, in one order and in the other.
use Rattle.std.specs.Prelude.{ℕ, ◌+◌, ◌*◌, ◌<◌, ◌≡◌, refl, List, ◌≢◌, length, set}
use Rattle.std.proofs.Common.{sym, ◌∙◌, arith, length-set, set-set, get_or-set_same, get_or-set_other}
use Rattle.std.proofs.lemmas.List.{set_comm}
use Rattle.model.specs.Log.{Actor, Event, took, released, waiters_set}
use Rattle.model.specs.Arena.{bit_at, owner_at, waiters_at, set_cell, set_waiters}
use Rattle.laws.specs.Words.{length_set_cell, owner_set, owner_set_other}
use Rattle.history.specs.World.{World, cells, Legal, after_event}
use Rattle.swaps.specs.Steps.{on_table, exchanged}
use Rattle.swaps.specs.Logs.{Still, attempts, boundaries, yields, spins, drops, holds, sums, Apart, still_first, still_second, take_release, release_take, release_release, take_waiters, waiters_take, release_waiters, waiters_release, waiters_waiters, take_health, health_take, release_health, health_release, waiters_health, health_waiters, health_health, Both}
use Rattle.swaps.specs.Statements.{ExchangedWords, TwoEvents, TwoTakeEvents}
use Rattle.swaps.specs.Fine.{Fine, fine, state_kept, live_kept, at}

-- ---- writes in two orders

cells_swap : (t : List ℕ) (c b o d b' o' : ℕ) → c ≢ d → set_cell (set_cell t c b o) d b' o' ≡ set_cell (set_cell t d b' o') c b o
unfolding set_cell
cells_swap t c b o d b' o' n =
    rw (
      set_comm (set t (3 * c) b) (3 * c + 1) (3 * d) o b' (omega arith),
      set_comm t (3 * c) (3 * d) b b' (omega arith),
      set_comm (set (set t (3 * d) b') (3 * c) b) (3 * c + 1) (3 * d + 1) o o' (omega arith),
      set_comm (set t (3 * d) b') (3 * c) (3 * d + 1) b o' (omega arith),
    )

waiters_cell : (t : List ℕ) (c n d b o : ℕ) → set_cell (set_waiters t c n) d b o ≡ set_waiters (set_cell t d b o) c n
unfolding set_cell set_waiters
waiters_cell t c n d b o =
    rw (set_comm t (3 * c + 2) (3 * d) n b (omega arith), set_comm (set t (3 * d) b) (3 * c + 2) (3 * d + 1) n o (omega arith))

waiters_swap : (t : List ℕ) (c n d m : ℕ) → c ≢ d → set_waiters (set_waiters t c n) d m ≡ set_waiters (set_waiters t d m) c n
unfolding set_waiters
waiters_swap t c n d m e = set_comm t (3 * c + 2) (3 * d + 2) n m (omega arith)

takes_exchange : (t : List ℕ) (c d b o o' : ℕ) → c ≢ d → 3 * c + 1 < length t → 3 * d + 1 < length t
    → set_cell (set_cell t d b o) c b o' ≡ exchanged c d (set_cell (set_cell t c b o) d b o')
unfolding exchanged set_cell
takes_exchange t c d b o o' n p q =
    let at_d : owner_at (set_cell (set_cell t c b o) d b o') d ≡ o' = owner_set (set_cell t c b o) d b o' (rw (length_set_cell t c b o) q) in
    let at_c : owner_at (set_cell (set_cell t c b o) d b o') c ≡ o = owner_set_other (set_cell t c b o) d b o' c n ∙ owner_set t c b o p in
    cells_swap t d b o c b o' (λ e. n (sym e))
    ∙ rw (
      at_d,
      at_c,
      set_comm (set (set_cell t c b o) (3 * d) b) (3 * d + 1) (3 * c + 1) o' o' (omega arith),
      set-set (set (set (set_cell t c b o) (3 * d) b) (3 * c + 1) o') (3 * d + 1) o' o,
      set_comm (set_cell t c b o) (3 * d) (3 * c + 1) b o' (omega arith),
      set-set (set t (3 * c) b) (3 * c + 1) o o',
    )

pub exchanged_cells : ExchangedWords
unfolding exchanged bit_at owner_at waiters_at
exchanged_cells c d t n p q =
    record {
      bits = λ e. get_or-set_other (one_set) (3 * d + 1) (3 * e) (owner_at t c) 0 (omega arith) ∙ get_or-set_other t (3 * c + 1) (3 * e) (owner_at t d) 0 (omega arith);
      waiters = λ e.
          get_or-set_other one_set (3 * d + 1) (3 * e + 2) (owner_at t c) 0 (omega arith) ∙ get_or-set_other t (3 * c + 1) (3 * e + 2) (owner_at t d) 0 (omega arith);
      first_owner = get_or-set_other one_set (3 * d + 1) (3 * c + 1) (owner_at t c) 0 (omega arith) ∙ get_or-set_same t (3 * c + 1) (owner_at t d) 0 p;
      second_owner = get_or-set_same one_set (3 * d + 1) (owner_at t c) 0 (rw (length-set t (3 * c + 1) (owner_at t d)) q);
      other_owners = λ e x y.
          get_or-set_other one_set (3 * d + 1) (3 * e + 1) (owner_at t c) 0 (omega arith) ∙ get_or-set_other t (3 * c + 1) (3 * e + 1) (owner_at t d) 0 (omega arith);
    }
  where
    one_set : List ℕ
    one_set = set t (3 * c + 1) (owner_at t d)

-- ---- events that are apart

pub apart_sym : {e f : Event} → Apart e f → Apart f e
apart_sym (still_first q) = still_second q
apart_sym (still_second q) = still_first q
apart_sym (take_release n) = release_take (λ x. n (sym x))
apart_sym (release_take n) = take_release (λ x. n (sym x))
apart_sym (release_release n) = release_release (λ x. n (sym x))
apart_sym take_waiters = waiters_take
apart_sym waiters_take = take_waiters
apart_sym release_waiters = waiters_release
apart_sym waiters_release = release_waiters
apart_sym (waiters_waiters n) = waiters_waiters (λ x. n (sym x))
apart_sym take_health = health_take
apart_sym health_take = take_health
apart_sym release_health = health_release
apart_sym health_release = release_health
apart_sym waiters_health = health_waiters
apart_sym health_waiters = waiters_health
apart_sym (health_health n) = health_health (λ x. n (sym x))

pub still_world : (w : World) {e : Event} → Still e → after_event w e ≡ w
still_world w attempts = refl
still_world w boundaries = refl
still_world w yields = refl
still_world w spins = refl
still_world w drops = refl
still_world w holds = refl
still_world w sums = refl

still_legal : (w : World) {e : Event} → Still e → Legal w e
still_legal w attempts = tt
still_legal w boundaries = tt
still_legal w yields = tt
still_legal w spins = tt
still_legal w drops = tt
still_legal w holds = tt
still_legal w sums = tt

-- the world left is the same either way: this needs no premise at all
pub commute : (w : World) {e f : Event} → Apart e f → after_event (after_event w e) f ≡ after_event (after_event w f) e
commute w {e = e} {f = f} (still_first q) = rw (still_world w q, still_world (after_event w f) q)
commute w {e = e} {f = f} (still_second q) = rw (still_world w q, still_world (after_event w e) q)
commute w (take_release {c = c} {s = s} {d = d} n) = rw (cells_swap w.table c 1 s d 0 0 n)
commute w (release_take {c = c} {d = d} {r = r} n) = rw (cells_swap w.table c 0 0 d 1 r n)
commute w (release_release {c = c} {d = d} n) = rw (cells_swap w.table c 0 0 d 0 0 n)
commute w (take_waiters {c = c} {s = s} {d = d} {n = n}) = rw (waiters_cell w.table d n c 1 s)
commute w (waiters_take {c = c} {s = s} {d = d} {n = n}) = rw (waiters_cell w.table d n c 1 s)
commute w (release_waiters {c = c} {d = d} {n = n}) = rw (waiters_cell w.table d n c 0 0)
commute w (waiters_release {c = c} {d = d} {n = n}) = rw (waiters_cell w.table d n c 0 0)
commute w (waiters_waiters {c = c} {n = n} {d = d} {m = m} x) = rw (waiters_swap w.table c n d m x)
commute w take_health = refl
commute w health_take = refl
commute w release_health = refl
commute w health_release = refl
commute w waiters_health = refl
commute w health_waiters = refl
commute w (health_health {i = i} {n = n} {j = j} {m = m} x) = rw (set_comm w.health i j n m x)

-- whether the second is legal does not hang on the first having happened
pub before : (w : World) {e f : Event} → Fine w → Apart e f → Legal (after_event w e) f → Legal w f
before w g (still_first {f = f} q) l = rw (still_world w q) at l
before w g (still_second q) l = still_legal w q
before w g (take_release {a = a} {c = c} {s = s} {d = d} {r = r} n) l = sym (live_kept w (took a c s) d r g (λ x. n (sym x))) ∙ l
before w g (release_take {a = a} {c = c} {s = s} {d = d} n) l =
    ((l.0.0, sym (state_kept w (released a c s) d g l.0.0 (λ x. n (sym x))) ∙ l.0.1), l.1)
before w g (release_release {a = a} {c = c} {s = s} {d = d} {r = r} n) l = sym (live_kept w (released a c s) d r g (λ x. n (sym x))) ∙ l
before w g take_waiters l = l
before w g (waiters_take {c = c} {d = d} {n = n}) l = ((l.0.0, sym (state_kept w (waiters_set d n) c g l.0.0 tt) ∙ l.0.1), l.1)
before w g release_waiters l = l
before w g (waiters_release {c = c} {s = s} {d = d} {n = n}) l = sym (live_kept w (waiters_set d n) c s g tt) ∙ l
before w g (waiters_waiters n) l = l
before w g take_health l = l
before w g health_take l = l
before w g release_health l = l
before w g health_release l = l
before w g waiters_health l = l
before w g health_waiters l = l
before w g (health_health n) l = l

pub after : (w : World) {e f : Event} → Fine w → Apart e f → Legal w f → Legal (after_event w e) f
after w g (still_first q) l = rw (still_world w q) l
after w {e = e} g (still_second q) l = still_legal (after_event w e) q
after w g (take_release {a = a} {c = c} {s = s} {d = d} {r = r} n) l = live_kept w (took a c s) d r g (λ x. n (sym x)) ∙ l
after w g (release_take {a = a} {c = c} {s = s} {d = d} n) l =
    ((l.0.0, state_kept w (released a c s) d g l.0.0 (λ x. n (sym x)) ∙ l.0.1), l.1)
after w g (release_release {a = a} {c = c} {s = s} {d = d} {r = r} n) l = live_kept w (released a c s) d r g (λ x. n (sym x)) ∙ l
after w g take_waiters l = l
after w g (waiters_take {c = c} {d = d} {n = n}) l = ((l.0.0, state_kept w (waiters_set d n) c g l.0.0 tt ∙ l.0.1), l.1)
after w g release_waiters l = l
after w g (waiters_release {c = c} {s = s} {d = d} {n = n}) l = live_kept w (waiters_set d n) c s g tt ∙ l
after w g (waiters_waiters n) l = l
after w g take_health l = l
after w g health_take l = l
after w g release_health l = l
after w g health_release l = l
after w g waiters_health l = l
after w g health_waiters l = l
after w g (health_health n) l = l

-- ---- the pair laws

pub events_swap : TwoEvents
events_swap w e f g a l =
    let h = fine w g in
    ((before w h a l.1, after w h (apart_sym a) l.0), commute w (apart_sym a))

pub takes_swap : (w : World) (a b : Actor) (c d n : ℕ) → Fine w → c ≢ d → Both w (took a c n) (took b d (n + 1))
    → Both w (took b d n) (took a c (n + 1))
    × (after_event (after_event w (took b d n)) (took a c (n + 1)) ≡ on_table (exchanged c d) (after_event (after_event w (took a c n)) (took b d (n + 1))))
takes_swap w a b c d n h x l =
    let in_c : c < cells w = l.0.0.0 in
    let in_d : d < cells w = l.1.0.0 in (
      (
        (((in_d, sym (state_kept w (took a c n) d h in_d (λ e. x (sym e))) ∙ l.1.0.1), (l.0.1.0, omega (arith, l.1.1.1)))),
        ((in_c, state_kept w (took b d n) c h in_c x ∙ l.0.0.1), (l.1.1.0, l.1.1.1)),
      ),
      rw (takes_exchange w.table c d 1 n (n + 1) x (omega (arith, at w h c in_c)) (omega (arith, at w h d in_d))),
    )

pub take_events_swap : TwoTakeEvents
take_events_swap w a b c d n g x l = takes_swap w a b c d n (fine w g) x l
