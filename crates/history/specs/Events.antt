-- Laws of one event that is legal: what it keeps of a whole arena, of a live lease, of a spent serial, and what it does to the counts.
use Rattle.std.specs.Prelude.{ℕ, zero, suc, ◌+◌, ◌*◌, ◌≤◌, ◌<◌, ◌≡◌, refl, List, true, ◌≢◌, eqb, length}
use Rattle.std.proofs.Common.{sym, ap, ◌∙◌, arith, length-set, le-leb, eq-eqb}
use Rattle.std.proofs.Math.Decide.{ℕ_discrete, dec_lt}
use Rattle.model.specs.Log.{Actor, Event, attempt_begun, boundary_run, yielded, spun, step_dropped, took, released, waiters_set, health_set, held_all_lem, added}
use Rattle.model.specs.Arena.{last_serial, cells_of, head_fits, shape_fits, health_fits, spent_to, hold_of, bit_at, owner_at, set_cell, set_waiters, state_at, is_live}
use Rattle.types.specs.declared.Head.{Head}
use Rattle.types.specs.declared.Hold.{Hold}
use Rattle.laws.specs.Shape.{Shaped, shaped, healthy}
use Rattle.laws.specs.Words.{length_set_cell, length_set_waiters, bit_set, bit_set_other, owner_set_other, bit_set_waiters, owner_set_waiters, Seen, here, there, see}
use Rattle.history.specs.World.{World, cells, Live, Legal, after_event, Whole, Apart, one, bits, Kind, kind_of_lem, code, takes, releases, Releases, Spent}
use Rattle.history.specs.Tests.{Status, free, held, undamaged, not_damaged, free_words, Alive, alive, live, holds_equal}

-- ---- a whole arena, as facts about its words

pub record Good (w : World) : Type 0 where
  pub shape : Shaped w.head (length w.table)
  pub health_is : length w.health ≡ w.head.headers
  pub status : (c : ℕ) → c < cells w → Status (bit_at w.table c) (owner_at w.table c) w.head.next

pub fits : (h : Head) (words : ℕ) → Shaped h words → shape_fits h words ≡ true
unfolding head_fits shape_fits
fits h words s =
    rw (
      le-leb 1 h.headers s.some_headers,
      le-leb h.headers 64 s.few_headers,
      le-leb 1 h.buckets s.some_buckets,
      le-leb h.buckets 1024 s.few_buckets,
      le-leb (cells_of h) 4096 s.few_cells,
      le-leb 1 h.next s.low,
      le-leb h.next last_serial s.high,
      eq-eqb words (3 * cells_of h) s.words_are,
    )

-- an owner in the table was issued before
pub issued : {b o n : ℕ} → Status b o n → b ≡ 1 → (1 ≤ o) × (o < n)
issued (free b o) h = absurd (omega arith)
issued (held b o p) h = (o, p)

pub good : (w : World) → Whole w → Good w
unfolding state_at
good w s =
    record {
      shape = shaped w.head (length w.table) s.fits;
      health_is = healthy w.head (length w.health) s.healthy;
      status = λ c l. undamaged w.head.next (bit_at w.table c) (owner_at w.table c) (s.undamaged c l);
    }

pub whole : (w : World) → Good w → Whole w
unfolding state_at health_fits
whole w g =
    record {
      fits = fits w.head (length w.table) g.shape;
      healthy = eq-eqb (length w.health) w.head.headers g.health_is;
      undamaged = λ c l. not_damaged w.head.next (bit_at w.table c) (owner_at w.table c) (g.status c l);
    }

-- the facts of a live lease
pub lives : (w : World) (l : Hold) → Live w l → Alive w.head.next (cells w) w.table l
lives w l v = alive w.head.next (cells w) w.table l v

pub older : {b o n : ℕ} → Status b o n → Status b o (n + 1)
older (free b o) = free b o
older (held b o p) = held b o (omega arith)

-- the shape alone: what a call's first check leaves, whatever the table holds
pub record Fit (w : World) : Type 0 where
  pub shape : Shaped w.head (length w.table)

pub fit : {w : World} → Good w → Fit w
fit g = record { shape = g.shape }

pub at : (w : World) → Fit w → (c : ℕ) → c < cells w → 3 * c + 2 < length w.table
at w f c l = omega (arith, f.shape.words_are)

-- one cell written, in range or not
pub status_put : (cells n : ℕ) (t : List ℕ) (c b o : ℕ) → length t ≡ 3 * cells → Status b o n
    → ((d : ℕ) → d < cells → Status (bit_at t d) (owner_at t d) n) → (d : ℕ) → d < cells → Status (bit_at (set_cell t c b o) d) (owner_at (set_cell t c b o) d) n
status_put cells n t c b o e new old d k = go (ℕ_discrete d c)
  where
    go : Dec (d ≡ c) → Status (bit_at (set_cell t c b o) d) (owner_at (set_cell t c b o) d) n
    go (yes x) = here_put (see t c b o d (omega arith))
      where
        here_put : Seen t c b o d → Status (bit_at (set_cell t c b o) d) (owner_at (set_cell t c b o) d) n
        here_put (here _ p q) = rw (p, q) new
        here_put (there y _ _) = absurd (y x)
    go (no x) = rw (bit_set_other t c b o d x, owner_set_other t c b o d x) (old d k)

-- another table, and perhaps another next serial
pub reshaped : (h : Head) (n m words : ℕ) → Shaped h m → 1 ≤ n → n ≤ last_serial → words ≡ m → Shaped (spent_to h n) words
reshaped h n m words s a b e =
    record {
      some_headers = s.some_headers;
      few_headers = s.few_headers;
      some_buckets = s.some_buckets;
      few_buckets = s.few_buckets;
      few_cells = s.few_cells;
      low = a;
      high = b;
      words_are = e ∙ s.words_are;
    }

pub good_after : (w : World) (e : Event) → Good w → Legal w e → Good (after_event w e)
good_after w attempt_begun g l = g
good_after w boundary_run g l = g
good_after w yielded g l = g
good_after w spun g l = g
good_after w step_dropped g l = g
good_after w (took a c s) g l =
    record {
      shape = reshaped w.head (w.head.next + 1) (length w.table) (length (set_cell w.table c 1 s)) g.shape (omega arith) (omega arith) (length_set_cell w.table c 1 s);
      health_is = g.health_is;
      status = status_put (cells w) (w.head.next + 1) w.table c 1 s g.shape.words_are (held refl (omega (arith, g.shape.low)) (omega arith)) (λ d k. older (g.status d k));
    }
good_after w (released a c s) g l =
    let i = (lives w (hold_of c s) l).in_range in
    record {
      shape = reshaped w.head w.head.next (length w.table) (length (set_cell w.table c 0 0)) g.shape g.shape.low g.shape.high (length_set_cell w.table c 0 0);
      health_is = g.health_is;
      status = status_put (cells w) w.head.next w.table c 0 0 g.shape.words_are (free refl refl) g.status;
    }
good_after w (waiters_set c n) g l =
    record {
      shape = reshaped w.head w.head.next (length w.table) (length (set_waiters w.table c n)) g.shape g.shape.low g.shape.high (length_set_waiters w.table c n);
      health_is = g.health_is;
      status = λ d k. simp (bit_set_waiters, owner_set_waiters) (g.status d k);
    }
good_after w (health_set i n) g l = record { shape = g.shape; health_is = length-set w.health i n ∙ g.health_is; status = g.status }
good_after w (held_all_lem m) g l = g
good_after w (added m c v) g l = g

pub fit_after : (w : World) (e : Event) → Fit w → Legal w e → Fit (after_event w e)
fit_after w attempt_begun f l = f
fit_after w boundary_run f l = f
fit_after w yielded f l = f
fit_after w spun f l = f
fit_after w step_dropped f l = f
fit_after w (took a c s) f l =
    record { shape = reshaped w.head (w.head.next + 1) (length w.table) (length (set_cell w.table c 1 s)) f.shape (omega arith) (omega arith) (length_set_cell w.table c 1 s) }
fit_after w (released a c s) f l =
    record { shape = reshaped w.head w.head.next (length w.table) (length (set_cell w.table c 0 0)) f.shape f.shape.low f.shape.high (length_set_cell w.table c 0 0) }
fit_after w (waiters_set c n) f l =
    record { shape = reshaped w.head w.head.next (length w.table) (length (set_waiters w.table c n)) f.shape f.shape.low f.shape.high (length_set_waiters w.table c n) }
fit_after w (health_set i n) f l = record { shape = f.shape }
fit_after w (held_all_lem m) f l = f
fit_after w (added m c v) f l = f

-- the head but for the next serial stays
pub same_arena : (w : World) (e : Event) → (after_event w e).head ≡ spent_to w.head (after_event w e).head.next
same_arena w attempt_begun = refl
same_arena w boundary_run = refl
same_arena w yielded = refl
same_arena w spun = refl
same_arena w step_dropped = refl
same_arena w (took a c s) = refl
same_arena w (released a c s) = refl
same_arena w (waiters_set c n) = refl
same_arena w (health_set i n) = refl
same_arena w (held_all_lem m) = refl
same_arena w (added m c v) = refl

-- ---- leases

-- live words in another table, with the next serial no lower
moved_live : (next cells next' : ℕ) (t u : List ℕ) (l : Hold) → Alive next cells t l → next ≤ next'
    → bit_at u l.cell ≡ bit_at t l.cell → owner_at u l.cell ≡ owner_at t l.cell → is_live next' cells u l ≡ true
moved_live next cells next' t u l a n p q =
    live next' cells u l (record { in_range = a.in_range; bit_is = p ∙ a.bit_is; owner_is = q ∙ a.owner_is; low = a.low; high = omega (arith, a.high) })

pub keep_after : (w : World) (e : Event) (l : Hold) → Fit w → Legal w e → Live w l → (Releases l e → ⊥) → Live (after_event w e) l
keep_after w attempt_begun l g k v n = v
keep_after w boundary_run l g k v n = v
keep_after w yielded l g k v n = v
keep_after w spun l g k v n = v
keep_after w step_dropped l g k v n = v
keep_after w (took a c s) l g k v n = go (see w.table c 1 s l.cell (omega (arith, at w g c k.0.0))) (lives w l v)
  where
    go : Seen w.table c 1 s l.cell → Alive w.head.next (cells w) w.table l → Live (after_event w (took a c s)) l
    go (here e p q) x =
        let z : bit_at w.table l.cell ≡ 0 = rw e (free_words w.head.next w.table c k.0.1).0 in
        absurd (omega (arith, x.bit_is))
    go (there e p q) x = moved_live w.head.next (cells w) (w.head.next + 1) w.table (set_cell w.table c 1 s) l x (omega arith) p q
keep_after w (released a c s) l g k v n =
    go (see w.table c 0 0 l.cell (omega (arith, at w g c (lives w (hold_of c s) k).in_range))) (lives w l v) (lives w (hold_of c s) k)
  where
    go : Seen w.table c 0 0 l.cell → Alive w.head.next (cells w) w.table l → Alive w.head.next (cells w) w.table (hold_of c s)
        → Live (after_event w (released a c s)) l
    go (here e p q) x y = absurd (n (holds_equal l (hold_of c s) e (sym x.owner_is ∙ ap (owner_at w.table) e ∙ y.owner_is)))
    go (there e p q) x y = moved_live w.head.next (cells w) w.head.next w.table (set_cell w.table c 0 0) l x (omega arith) p q
keep_after w (waiters_set c n) l g k v u =
    moved_live w.head.next (cells w) w.head.next w.table (set_waiters w.table c n) l (lives w l v) (omega arith)
    (bit_set_waiters w.table c n l.cell) (owner_set_waiters w.table c n l.cell)
keep_after w (health_set i n) l g k v u = v
keep_after w (held_all_lem i) l g k v n = v
keep_after w (added i d x) l g k v n = v

-- a live lease after an event was live before it, or its serial is the one just issued
pub live_before : (w : World) (e : Event) (l : Hold) → Fit w → Legal w e → Live (after_event w e) l → l.serial < w.head.next → Live w l
live_before w attempt_begun l g k v o = v
live_before w boundary_run l g k v o = v
live_before w yielded l g k v o = v
live_before w spun l g k v o = v
live_before w step_dropped l g k v o = v
live_before w (took a c s) l g k v o = go (see w.table c 1 s l.cell (omega (arith, at w g c k.0.0))) (lives (after_event w (took a c s)) l v)
  where
    go : Seen w.table c 1 s l.cell → Alive (w.head.next + 1) (cells w) (set_cell w.table c 1 s) l → Live w l
    go (here e p q) x = absurd (omega (arith, x.owner_is, k.1.0))
    go (there e p q) x =
        live w.head.next (cells w) w.table l (record { in_range = x.in_range; bit_is = sym p ∙ x.bit_is; owner_is = sym q ∙ x.owner_is; low = x.low; high = o })
live_before w (released a c s) l g k v o =
    go (see w.table c 0 0 l.cell (omega (arith, at w g c (lives w (hold_of c s) k).in_range))) (lives (after_event w (released a c s)) l v)
  where
    go : Seen w.table c 0 0 l.cell → Alive w.head.next (cells w) (set_cell w.table c 0 0) l → Live w l
    go (here e p q) x = absurd (omega (arith, x.bit_is))
    go (there e p q) x = moved_live w.head.next (cells w) w.head.next (set_cell w.table c 0 0) w.table l x (omega arith) (sym p) (sym q)
live_before w (waiters_set c n) l g k v o =
    moved_live w.head.next (cells w) w.head.next (set_waiters w.table c n) w.table l (lives (after_event w (waiters_set c n)) l v) (omega arith)
    (sym (bit_set_waiters w.table c n l.cell)) (sym (owner_set_waiters w.table c n l.cell))
live_before w (health_set i n) l g k v o = v
live_before w (held_all_lem i) l g k v o = v
live_before w (added i d x) l g k v o = v

-- ---- counts

-- 1 if the event is of the kind
abbrev pub counts : Kind → Event → ℕ
counts k e = one (eqb (code (kind_of_lem e)) (code k))

pub next_after : (w : World) (e : Event) → (after_event w e).head.next ≡ w.head.next + counts takes e
next_after w attempt_begun = omega arith
next_after w boundary_run = omega arith
next_after w yielded = omega arith
next_after w spun = omega arith
next_after w step_dropped = omega arith
next_after w (took a c s) = refl
next_after w (released a c s) = omega arith
next_after w (waiters_set c n) = omega arith
next_after w (health_set i n) = omega arith
next_after w (held_all_lem m) = omega arith
next_after w (added m c v) = omega arith

pub spent_after : (w : World) (e : Event) (s : ℕ) → Fit w → Legal w e → Spent w s → Spent (after_event w e) s
spent_after w e s g k p =
    record {
      was_issued = omega (arith, p.was_issued, next_after w e);
      owns_none = λ c v. p.owns_none c (live_before w e (hold_of c s) g k v p.was_issued);
    }

-- ---- no serial owns two cells

-- a serial that an event issues is the cell's that it took
pub new_owner : (w : World) (a : Actor) (c s : ℕ) → Good w → Legal w (took a c s) → (d n : ℕ) → (n < w.head.next → ⊥)
    → Live (after_event w (took a c s)) (hold_of d n) → d ≡ c
new_owner w a c s g k d n old v = go (see w.table c 1 s d (omega (arith, at w (fit g) c k.0.0))) (lives (after_event w (took a c s)) (hold_of d n) v)
  where
    go : Seen w.table c 1 s d → Alive (w.head.next + 1) (cells w) (set_cell w.table c 1 s) (hold_of d n) → d ≡ c
    go (here e p q) x = e
    go (there e p q) x =
        absurd (old (omega (arith, x.owner_is, (issued (g.status d x.in_range) (sym p ∙ x.bit_is)).1)))

late_apart : (w : World) (e : Event) → Good w → Legal w e → (c d s : ℕ) → (s < w.head.next → ⊥)
    → Live (after_event w e) (hold_of c s) → Live (after_event w e) (hold_of d s) → c ≡ d
late_apart w attempt_begun g k c d s n x y = absurd (n (lives w (hold_of c s) x).high)
late_apart w boundary_run g k c d s n x y = absurd (n (lives w (hold_of c s) x).high)
late_apart w yielded g k c d s n x y = absurd (n (lives w (hold_of c s) x).high)
late_apart w spun g k c d s n x y = absurd (n (lives w (hold_of c s) x).high)
late_apart w step_dropped g k c d s n x y = absurd (n (lives w (hold_of c s) x).high)
late_apart w (took a i m) g k c d s n x y = new_owner w a i m g k c s n x ∙ sym (new_owner w a i m g k d s n y)
late_apart w (released a i m) g k c d s n x y = absurd (n (lives (after_event w (released a i m)) (hold_of c s) x).high)
late_apart w (waiters_set i m) g k c d s n x y = absurd (n (lives (after_event w (waiters_set i m)) (hold_of c s) x).high)
late_apart w (health_set i m) g k c d s n x y = absurd (n (lives w (hold_of c s) x).high)
late_apart w (held_all_lem i) g k c d s n x y = absurd (n (lives w (hold_of c s) x).high)
late_apart w (added i j v) g k c d s n x y = absurd (n (lives w (hold_of c s) x).high)

pub apart_after : (w : World) (e : Event) → Good w → Legal w e → Apart w → Apart (after_event w e)
apart_after w e g k a c d s x y = go (dec_lt s w.head.next)
  where
    go : Dec (s < w.head.next) → c ≡ d
    go (yes o) = a c d s (live_before w e (hold_of c s) (fit g) k x o) (live_before w e (hold_of d s) (fit g) k y o)
    go (no n) = late_apart w e g k c d s n x y

bits_same : (n : ℕ) (t u : List ℕ) → ((d : ℕ) → d < n → bit_at t d ≡ bit_at u d) → bits n t ≡ bits n u
unfolding bits
bits_same zero t u h = refl
bits_same (suc n) t u h = cc (h n (omega arith), bits_same n t u (λ d l. h d (omega arith)))

bits_change : (n : ℕ) (t u : List ℕ) (c : ℕ) → c < n → ((d : ℕ) → d ≢ c → bit_at t d ≡ bit_at u d)
    → bits n t + one (eqb (bit_at u c) 1) ≡ bits n u + one (eqb (bit_at t c) 1)
unfolding bits
bits_change zero t u c l h = absurd (omega arith)
bits_change (suc n) t u c l h = go (ℕ_discrete n c) (λ k. bits_change n t u c k h)
  where
    is : List ℕ → ℕ → ℕ
    is v d = one (eqb (bit_at v d) 1)

    go : Dec (n ≡ c) → (c < n → bits n t + is u c ≡ bits n u + is t c) → is t n + bits n t + is u c ≡ is u n + bits n u + is t c
    go (yes e) r = omega (arith, ap (is t) e, ap (is u) e, bits_same n t u (λ d m. h d (omega arith)))
    go (no e) r = omega (arith, ap (λ (b : ℕ). one (eqb b 1)) (h n e), r (omega arith))

bits_put : (n : ℕ) (t : List ℕ) (c b o : ℕ) → c < n → 3 * c + 2 < length t → bits n (set_cell t c b o) + one (eqb (bit_at t c) 1) ≡ bits n t + one (eqb b 1)
bits_put n t c b o l h =
    bits_change n (set_cell t c b o) t c l (λ d e. bit_set_other t c b o d e) ∙ ap (λ (x : ℕ). bits n t + one (eqb x 1)) (bit_set t c b o (omega arith))

pub bits_after_lem : (w : World) (e : Event) → Fit w → Legal w e
    → bits (cells w) (after_event w e).table + counts releases e ≡ bits (cells w) w.table + counts takes e
bits_after_lem w attempt_begun g k = refl
bits_after_lem w boundary_run g k = refl
bits_after_lem w yielded g k = refl
bits_after_lem w spun g k = refl
bits_after_lem w step_dropped g k = refl
bits_after_lem w (took a c s) g k =
    omega (arith, bits_put (cells w) w.table c 1 s k.0.0 (at w g c k.0.0), ap (λ (x : ℕ). one (eqb x 1)) (free_words w.head.next w.table c k.0.1).0)
bits_after_lem w (released a c s) g k =
    let i = lives w (hold_of c s) k in
    omega (arith, bits_put (cells w) w.table c 0 0 i.in_range (at w g c i.in_range), ap (λ (x : ℕ). one (eqb x 1)) i.bit_is)
bits_after_lem w (waiters_set c n) g k = ap (λ (x : ℕ). x + 0) (bits_same (cells w) (set_waiters w.table c n) w.table (λ d l. bit_set_waiters w.table c n d))
bits_after_lem w (health_set i n) g k = refl
bits_after_lem w (held_all_lem m) g k = refl
bits_after_lem w (added m c v) g k = refl

-- the lease that a take makes
pub taken_live : (w : World) (a : Actor) (c : ℕ) → Fit w → c < cells w → Live (after_event w (took a c w.head.next)) (hold_of c w.head.next)
taken_live w a c g l = go (see w.table c 1 w.head.next c (omega (arith, at w g c l)))
  where
    go : Seen w.table c 1 w.head.next c → Live (after_event w (took a c w.head.next)) (hold_of c w.head.next)
    go (here e p q) =
        live (w.head.next + 1) (cells w) (set_cell w.table c 1 w.head.next) (hold_of c w.head.next)
        (record { in_range = l; bit_is = p; owner_is = q; low = g.shape.low; high = omega arith })
    go (there e p q) = absurd (e refl)
