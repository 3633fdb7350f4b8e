-- Renamings of serials, and two worlds that differ by one: one event in both.
-- ---- renamings
use Rattle.std.specs.Prelude.{ℕ, zero, suc, ◌+◌, ◌*◌, ◌≤◌, ◌<◌, ◌≡◌, refl, List, [], ◌∷◌, ◌≢◌, length, set, get_or}
use Rattle.std.proofs.Common.{sym, ap, ◌∙◌, subst, arith, eq-eqb, ne_eqb}
use Rattle.std.proofs.Math.Decide.{ℕ_discrete, dec_lt}
use Rattle.model.specs.Log.{Actor, Event, attempt_begun, boundary_run, yielded, spun, step_dropped, took, released, waiters_set, health_set, held_all_lem, added}
use Rattle.model.specs.Arena.{spent_to, cells_of, hold_of, bit_at, owner_at, waiters_at, set_cell, set_waiters, state_at}
use Rattle.types.specs.declared.Head.{Head}
use Rattle.laws.specs.Words.{length_set_cell, length_set_waiters, waiters_set_cell, bit_set_waiters, owner_set_waiters, waiters_set_same, waiters_set_other, Seen, here, there, see}
use Rattle.history.specs.World.{World, world_of, cells, Legal, after_event, now, Lawful}
use Rattle.history.specs.Tests.{Status, free, held, free_words, state_free, alive, live}
use Rattle.history.specs.Events.{next_after}
use Rattle.swaps.specs.Steps.{on_table}
use Rattle.swaps.specs.Logs.{Both}
use Rattle.swaps.specs.Renaming.{Serials, flip, renamed_owners, renamed, renamed_all}
use Rattle.swaps.specs.Statements.{Renames, RenamedWords, IssuedStay}
use Rattle.swaps.specs.Fine.{Fine, fine_on, at}
use Rattle.swaps.specs.Owners.{Renamed, Follows, SeenTwo, at_second, at_first, elsewhere}

module _ {old next : ℕ} {to back : ℕ → ℕ} (z : Serials old next to back) where
  pub into : (s r : ℕ) → to s ≡ to r → s ≡ r
  into s r e = sym (z.back_to s) ∙ ap back e ∙ z.back_to r

  issued_stays : (s : ℕ) → s < next → to s < next
  issued_stays s l = go (dec_lt (to s) next)
    where
      go : Dec (to s < next) → to s < next
      go (yes k) = k
      go (no k) = absurd (omega (arith, into (to s) s (z.new_stay (to s) (omega arith))))

  positive : (s : ℕ) → 1 ≤ old → 1 ≤ s → 1 ≤ to s
  positive s o l = go (ℕ_discrete (to s) 0)
    where
      go : Dec (to s ≡ 0) → 1 ≤ to s
      go (yes e) = absurd (omega (arith, into s 0 (e ∙ sym (z.old_stay 0 (omega arith)))))
      go (no e) = omega arith

-- the inverse is a renaming too
turned : {old next : ℕ} {to back : ℕ → ℕ} → Serials old next to back → Serials old next back to
turned {back = back} z =
    record {
      back_to = z.to_back;
      to_back = z.back_to;
      old_stay = λ s l. ap back (sym (z.old_stay s l)) ∙ z.back_to s;
      new_stay = λ s l. ap back (sym (z.new_stay s l)) ∙ z.back_to s;
    }

pub issued_moves : IssuedStay
issued_moves old next to back z s l k = (within to back z, within back to (turned z))
  where
    within : (f g : ℕ → ℕ) → Serials old next f g → (old ≤ f s) × (f s < next)
    within f g y = (go (dec_lt (f s) old), issued_stays y s k)
      where
        go : Dec (f s < old) → old ≤ f s
        go (yes j) = absurd (omega (arith, into y (f s) s (y.old_stay (f s) j)))
        go (no j) = omega arith

pub weaker : {old next old' next' : ℕ} {to back : ℕ → ℕ} → old' ≤ old → next ≤ next' → Serials old next to back → Serials old' next' to back
weaker p q z = record { back_to = z.back_to; to_back = z.to_back; old_stay = λ s l. z.old_stay s (omega arith); new_stay = λ s l. z.new_stay s (omega arith) }

pub identity : (old next : ℕ) → Serials old next (λ s. s) (λ s. s)
identity old next = record { back_to = λ s. refl; to_back = λ s. refl; old_stay = λ s l. refl; new_stay = λ s l. refl }

pub composed : {old next : ℕ} {to back to' back' : ℕ → ℕ} → Serials old next to back → Serials old next to' back'
    → Serials old next (λ s. to' (to s)) (λ s. back (back' s))
composed {to = to} {back = back} {to' = to'} {back' = back'} z y =
    record {
      back_to = λ s. ap back (y.back_to (to s)) ∙ z.back_to s;
      to_back = λ s. ap to' (z.to_back (back' s)) ∙ y.to_back s;
      old_stay = λ s l. ap to' (z.old_stay s l) ∙ y.old_stay s l;
      new_stay = λ s l. ap to' (z.new_stay s l) ∙ y.new_stay s l;
    }

flip_first : (n s : ℕ) → s ≡ n → flip n s ≡ n + 1
unfolding flip
flip_first n s e = rw (eq-eqb s n e)

flip_second : (n s : ℕ) → s ≡ n + 1 → flip n s ≡ n
unfolding flip
flip_second n s e = let f : s ≢ n = λ x. omega arith in rw (ne_eqb s n f, eq-eqb s (n + 1) e)

flip_other : (n s : ℕ) → s ≢ n → s ≢ n + 1 → flip n s ≡ s
unfolding flip
flip_other n s e f = rw (ne_eqb s n e, ne_eqb s (n + 1) f)

flip_twice : (n s : ℕ) → flip n (flip n s) ≡ s
flip_twice n s = go (ℕ_discrete s n) (ℕ_discrete s (n + 1))
  where
    go : Dec (s ≡ n) → Dec (s ≡ n + 1) → flip n (flip n s) ≡ s
    go (yes e) f = flip_second n (flip n s) (flip_first n s e) ∙ sym e
    go (no e) (yes f) = flip_first n (flip n s) (flip_second n s f) ∙ sym f
    go (no e) (no f) = ap (flip n) (flip_other n s e f) ∙ flip_other n s e f

pub flips : (n : ℕ) → Serials n (n + 1 + 1) (flip n) (flip n)
flips n =
    record {
      back_to = flip_twice n;
      to_back = flip_twice n;
      old_stay = λ s l. flip_other n s (λ e. omega arith) (λ e. omega arith);
      new_stay = λ s l. flip_other n s (λ e. omega arith) (λ e. omega arith);
    }

-- ---- the renamed table, word by word

-- three words on, one cell on, or one step of a script
pub three_on : (a b c : ℕ) (t : List ℕ) (i j : ℕ) → i ≡ suc (suc (suc j)) → get_or (a ∷ b ∷ c ∷ t) i 0 ≡ get_or t j 0
three_on a b c t i j e = ap (λ (k : ℕ). get_or (a ∷ b ∷ c ∷ t) k 0) e

pub renamed_cells : RenamedWords
unfolding renamed_owners bit_at owner_at waiters_at
renamed_cells to zero [] e = record { words = refl; bits = λ c l. refl; owners = λ c l. absurd (omega arith); waiters = λ c l. refl }
renamed_cells to zero (a ∷ t) e = absurd (omega arith)
renamed_cells to (suc n) [] e = absurd (omega arith)
renamed_cells to (suc n) (a ∷ []) e = absurd (omega arith)
renamed_cells to (suc n) (a ∷ b ∷ []) e = absurd (omega arith)
renamed_cells to (suc n) (a ∷ b ∷ x ∷ t) e =
    let i = renamed_cells to n t (omega arith) in
    record { words = ap (λ (k : ℕ). suc (suc (suc k))) i.words; bits = bits i; owners = owners i; waiters = waiters i }
  where
    u : List ℕ
    u = renamed_owners to t

    bits : Renames to n t → (c : ℕ) → c < suc n → get_or (a ∷ to b ∷ x ∷ u) (3 * c) 0 ≡ get_or (a ∷ b ∷ x ∷ t) (3 * c) 0
    bits i zero l = refl
    bits i (suc c) l =
        three_on a (to b) x u (3 * suc c) (3 * c) (omega arith) ∙ i.bits c (omega arith) ∙ sym (three_on a b x t (3 * suc c) (3 * c) (omega arith))

    owners : Renames to n t → (c : ℕ) → c < suc n → get_or (a ∷ to b ∷ x ∷ u) (3 * c + 1) 0 ≡ to (get_or (a ∷ b ∷ x ∷ t) (3 * c + 1) 0)
    owners i zero l = refl
    owners i (suc c) l =
        three_on a (to b) x u (3 * suc c + 1) (3 * c + 1) (omega arith) ∙ i.owners c (omega arith)
        ∙ ap to (sym (three_on a b x t (3 * suc c + 1) (3 * c + 1) (omega arith)))

    waiters : Renames to n t → (c : ℕ) → c < suc n → get_or (a ∷ to b ∷ x ∷ u) (3 * c + 2) 0 ≡ get_or (a ∷ b ∷ x ∷ t) (3 * c + 2) 0
    waiters i zero l = refl
    waiters i (suc c) l =
        three_on a (to b) x u (3 * suc c + 2) (3 * c + 2) (omega arith) ∙ i.waiters c (omega arith)
        ∙ sym (three_on a b x t (3 * suc c + 2) (3 * c + 2) (omega arith))

-- two tables of n cells with the same words are one table
same_words : (n : ℕ) (t u : List ℕ) → length t ≡ 3 * n → length u ≡ 3 * n → ((c : ℕ) → c < n → bit_at u c ≡ bit_at t c)
    → ((c : ℕ) → c < n → owner_at u c ≡ owner_at t c) → ((c : ℕ) → c < n → waiters_at u c ≡ waiters_at t c) → u ≡ t
unfolding bit_at owner_at waiters_at
same_words zero [] [] e f b o x = refl
same_words zero [] (a ∷ u) e f b o x = absurd (omega arith)
same_words zero (a ∷ t) u e f b o x = absurd (omega arith)
same_words (suc n) [] u e f b o x = absurd (omega arith)
same_words (suc n) (p ∷ []) u e f b o x = absurd (omega arith)
same_words (suc n) (p ∷ q ∷ []) u e f b o x = absurd (omega arith)
same_words (suc n) (p ∷ q ∷ r ∷ t) [] e f b o x = absurd (omega arith)
same_words (suc n) (p ∷ q ∷ r ∷ t) (p' ∷ []) e f b o x = absurd (omega arith)
same_words (suc n) (p ∷ q ∷ r ∷ t) (p' ∷ q' ∷ []) e f b o x = absurd (omega arith)
same_words (suc n) (p ∷ q ∷ r ∷ t) (p' ∷ q' ∷ r' ∷ u) e f b o x =
    let i : u ≡ t = same_words n t u (omega arith) (omega arith)
    (λ c l. sym (three_on p' q' r' u (3 * suc c) (3 * c) (omega arith)) ∙ b (suc c) (omega arith) ∙ three_on p q r t (3 * suc c) (3 * c) (omega arith))
    (λ c l. sym (three_on p' q' r' u (3 * suc c + 1) (3 * c + 1) (omega arith)) ∙ o (suc c) (omega arith) ∙ three_on p q r t (3 * suc c + 1) (3 * c + 1) (omega arith))
    (λ c l. sym (three_on p' q' r' u (3 * suc c + 2) (3 * c + 2) (omega arith)) ∙ x (suc c) (omega arith) ∙ three_on p q r t (3 * suc c + 2) (3 * c + 2) (omega arith)) in
    let a₀ : p' ≡ p = b 0 (omega arith) in
    let a₁ : q' ≡ q = o 0 (omega arith) in
    let a₂ : r' ≡ r = x 0 (omega arith) in
    ap (λ (k : ℕ). k ∷ q' ∷ r' ∷ u) a₀ ∙ ap (λ (k : ℕ). p ∷ k ∷ r' ∷ u) a₁ ∙ ap (λ (k : ℕ). p ∷ q ∷ k ∷ u) a₂ ∙ ap (λ (v : List ℕ). p ∷ q ∷ r ∷ v) i

pub unrenamed : (w v : World) → v ≡ w → Renamed (λ s. s) w v
unrenamed w v e =
    subst (λ (u : World). Renamed (λ s. s) w u) (sym e)
    (record { head = refl; health = refl; words = refl; bits = λ c l. refl; owners = λ c l. refl; waiters = λ c l. refl })

pub onto : {to to' : ℕ → ℕ} (w v u : World) → Renamed to w v → Renamed to' v u → Renamed (λ s. to' (to s)) w u
onto {to} {to'} w v u r q =
    record {
      head = q.head ∙ r.head;
      health = q.health ∙ r.health;
      words = q.words ∙ r.words;
      bits = λ c l. q.bits c (inside c l) ∙ r.bits c l;
      owners = λ c l. q.owners c (inside c l) ∙ ap to' (r.owners c l);
      waiters = λ c l. q.waiters c (inside c l) ∙ r.waiters c l;
    }
  where
    inside : (c : ℕ) → c < cells w → c < cells v
    inside c l = subst (λ h. c < cells_of h) (sym r.head) l

-- the same as one equation
pub one_table : (to : ℕ → ℕ) (w v : World) → Fine w → Renamed to w v → v ≡ on_table (renamed_owners to) w
one_table to w v f r =
    let i = renamed_cells to (cells w) w.table f.words in
    let t : v.table ≡ renamed_owners to w.table =
    same_words (cells w) (renamed_owners to w.table) v.table (i.words ∙ f.words) (r.words ∙ f.words) (λ c l. r.bits c l ∙ sym (i.bits c l))
    (λ c l. r.owners c l ∙ sym (i.owners c l)) (λ c l. r.waiters c l ∙ sym (i.waiters c l)) in
    ap (λ (h : Head). world_of h v.table v.health) r.head ∙ ap (λ (t : List ℕ). world_of w.head t v.health) t
    ∙ ap (λ (g : List ℕ). world_of w.head (renamed_owners to w.table) g) r.health

-- ---- one event in both worlds

module _ (to : ℕ → ℕ) (w v : World) (f : Fine w) (r : Renamed to w v) where
  inside : (c : ℕ) → c < cells w → c < cells v
  inside c l = subst (λ (h : Head). c < cells_of h) (sym r.head) l

  same_next : v.head.next ≡ w.head.next
  same_next = ap (λ (h : Head). h.next) r.head

  -- one cell written in both tables
  put_bits : (c b o o' : ℕ) → c < cells w → (d : ℕ) → d < cells w → bit_at (set_cell v.table c b o') d ≡ bit_at (set_cell w.table c b o) d
  put_bits c b o o' l d k = go (see w.table c b o d (omega (arith, at w f c l))) (see v.table c b o' d (omega (arith, at w f c l, r.words)))
    where
      go : Seen w.table c b o d → Seen v.table c b o' d → bit_at (set_cell v.table c b o') d ≡ bit_at (set_cell w.table c b o) d
      go (here _ p _) (here _ q _) = q ∙ sym p
      go (here e _ _) (there g _ _) = absurd (g e)
      go (there e _ _) (here g _ _) = absurd (e g)
      go (there _ p _) (there _ q _) = q ∙ r.bits d k ∙ sym p

  put_owners : (c b o o' : ℕ) → c < cells w → o' ≡ to o → (d : ℕ) → d < cells w
      → owner_at (set_cell v.table c b o') d ≡ to (owner_at (set_cell w.table c b o) d)
  put_owners c b o o' l x d k = go (see w.table c b o d (omega (arith, at w f c l))) (see v.table c b o' d (omega (arith, at w f c l, r.words)))
    where
      go : Seen w.table c b o d → Seen v.table c b o' d → owner_at (set_cell v.table c b o') d ≡ to (owner_at (set_cell w.table c b o) d)
      go (here _ _ p) (here _ _ q) = q ∙ x ∙ ap to (sym p)
      go (here e _ _) (there g _ _) = absurd (g e)
      go (there e _ _) (here g _ _) = absurd (e g)
      go (there _ _ p) (there _ _ q) = q ∙ r.owners d k ∙ ap to (sym p)

  put_waiters : (c b o o' : ℕ) (d : ℕ) → d < cells w → waiters_at (set_cell v.table c b o') d ≡ waiters_at (set_cell w.table c b o) d
  put_waiters c b o o' d k = waiters_set_cell v.table c b o' d ∙ r.waiters d k ∙ sym (waiters_set_cell w.table c b o d)

  set_waiters_lem : (c n d : ℕ) → c < cells w → d < cells w → waiters_at (set_waiters v.table c n) d ≡ waiters_at (set_waiters w.table c n) d
  set_waiters_lem c n d l k = go (ℕ_discrete d c)
    where
      go : Dec (d ≡ c) → waiters_at (set_waiters v.table c n) d ≡ waiters_at (set_waiters w.table c n) d
      go (yes e) = rw e (waiters_set_same v.table c n (omega (arith, at w f c l, r.words)) ∙ sym (waiters_set_same w.table c n (at w f c l)))
      go (no e) = waiters_set_other v.table c n d e ∙ r.waiters d k ∙ sym (waiters_set_other w.table c n d e)

pub follow : {old : ℕ} {to back : ℕ → ℕ} (w v : World) (e : Event) → Fine w → Serials old w.head.next to back → 1 ≤ old → Renamed to w v
    → Legal w e → Follows to w v e
unfolding state_at
follow w v attempt_begun f z o r l = (tt, r)
follow w v boundary_run f z o r l = (tt, r)
follow w v yielded f z o r l = (tt, r)
follow w v spun f z o r l = (tt, r)
follow w v (held_all_lem m) f z o r l = (tt, r)
follow w v (added m c x) f z o r l = (tt, r)
follow w v step_dropped f z o r l = (tt, r)
follow {to = to} w v (took a c s) f z o r l =
    let i : c < cells w = l.0.0 in
    let p = free_words w.head.next w.table c l.0.1 in (
      (
        (
          inside to w v f r c i,
          state_free v.head.next (bit_at v.table c) (owner_at v.table c) (r.bits c i ∙ p.0)
              (r.owners c i ∙ ap to p.1 ∙ z.old_stay 0 (omega arith)),
        ),
        (l.1.0 ∙ sym (same_next to w v f r), l.1.1),
      ),
      record {
        head = ap (λ (h : Head). spent_to h (h.next + 1)) r.head;
        health = r.health;
        words = length_set_cell v.table c 1 s ∙ r.words ∙ sym (length_set_cell w.table c 1 s);
        bits = put_bits to w v f r c 1 s s i;
        owners = put_owners to w v f r c 1 s s i (sym (z.new_stay s (omega (arith, l.1.0))));
        waiters = put_waiters to w v f r c 1 s s;
      },
    )
follow {to = to} w v (released a c s) f z o r l =
    let x = alive w.head.next (cells w) w.table (hold_of c s) l in
    let i : c < cells w = x.in_range in (
      live v.head.next (cells v) v.table (hold_of c (to s))
          (record {
            in_range = inside to w v f r c i;
            bit_is = r.bits c i ∙ x.bit_is;
            owner_is = r.owners c i ∙ ap to x.owner_is;
            low = positive z s o x.low;
            high = omega (arith, issued_stays z s x.high, same_next to w v f r);
          }),
      record {
        head = r.head;
        health = r.health;
        words = length_set_cell v.table c 0 0 ∙ r.words ∙ sym (length_set_cell w.table c 0 0);
        bits = put_bits to w v f r c 0 0 0 i;
        owners = put_owners to w v f r c 0 0 0 i (sym (z.old_stay 0 (omega arith)));
        waiters = put_waiters to w v f r c 0 0 0;
      },
    )
follow {to = to} w v (waiters_set c n) f z o r l = (
  inside to w v f r c l,
  record {
    head = r.head;
    health = r.health;
    words = length_set_waiters v.table c n ∙ r.words ∙ sym (length_set_waiters w.table c n);
    bits = λ d k. bit_set_waiters v.table c n d ∙ r.bits d k ∙ sym (bit_set_waiters w.table c n d);
    owners = λ d k. owner_set_waiters v.table c n d ∙ r.owners d k ∙ ap to (sym (owner_set_waiters w.table c n d));
    waiters = λ d k. set_waiters_lem to w v f r c n d l k;
  },
)
follow {to = to} w v (health_set i n) f z o r l = (
  (omega (arith, l.0, ap (λ (h : Head). h.headers) r.head), l.1),
  record { head = r.head; health = ap (λ (g : List ℕ). set g i n) r.health; words = r.words; bits = r.bits; owners = r.owners; waiters = r.waiters },
)

-- ---- a whole log in both worlds

pub grows : (w : World) (e : Event) → w.head.next ≤ (after_event w e).head.next
grows w e = omega (arith, next_after w e)

pub grows_now : (w : World) (es : List Event) → w.head.next ≤ (now w es).head.next
grows_now w [] = omega arith
grows_now w (e ∷ es) = omega (arith, grows w e, grows_now (after_event w e) es)

pub fine_now : (w : World) (es : List Event) → Fine w → Lawful w es → Fine (now w es)
fine_now w [] f l = f
fine_now w (e ∷ es) f l = fine_now (after_event w e) es (fine_on w e f l.0) l.1

pub follow_all : {old : ℕ} {to back : ℕ → ℕ} (w v : World) (es : List Event) → Fine w → Serials old w.head.next to back → 1 ≤ old → Renamed to w v
    → Lawful w es → Lawful v (renamed_all to es) × Renamed to (now w es) (now v (renamed_all to es))
follow_all w v [] f z o r l = (tt, r)
follow_all {to = to} w v (e ∷ es) f z o r l =
    let p = follow w v e f z o r l.0 in
    let q = follow_all (after_event w e) (after_event v (renamed to e)) es (fine_on w e f l.0) (weaker (omega arith) (grows w e) z) o p.1 l.1 in
    ((p.0, q.0), q.1)

see_two : (t : List ℕ) (c o d o' x : ℕ) → 3 * c + 1 < length t → 3 * d + 1 < length t → SeenTwo t c o d o' x
see_two t c o d o' x p q = go (see t c 1 o x p) (see (set_cell t c 1 o) d 1 o' x (omega (arith, length_set_cell t c 1 o)))
  where
    go : Seen t c 1 o x → Seen (set_cell t c 1 o) d 1 o' x → SeenTwo t c o d o' x
    go y (here e b k) = at_second e b k
    go (here e b k) (there g b' k') = at_first e (b' ∙ b) (k' ∙ k)
    go (there e b k) (there g b' k') = elsewhere e g (b' ∙ b) (k' ∙ k)

owner_low : {b o n : ℕ} → Status b o n → 1 ≤ n → o < n
owner_low (free p q) l = omega arith
owner_low (held p q r) l = r

module _ (w : World) (a b : Actor) (c d n : ℕ) (f : Fine w) (x : c ≢ d) (l : Both w (took a c n) (took b d (n + 1))) where
  abbrev one_way : World
  one_way = after_event (after_event w (took a c n)) (took b d (n + 1))

  abbrev other_way : World
  other_way = after_event (after_event w (took b d n)) (took a c (n + 1))

  in_c : 3 * c + 1 < length w.table
  in_c = omega (arith, at w f c l.0.0.0)

  in_d : 3 * d + 1 < length w.table
  in_d = omega (arith, at w f d l.1.0.0)

  takes_bits : (e : ℕ) → bit_at other_way.table e ≡ bit_at one_way.table e
  takes_bits e = go (see_two w.table c n d (n + 1) e in_c in_d) (see_two w.table d n c (n + 1) e in_d in_c)
    where
      go : SeenTwo w.table c n d (n + 1) e → SeenTwo w.table d n c (n + 1) e → bit_at other_way.table e ≡ bit_at one_way.table e
      go (at_first _ p _) (at_first _ q _) = q ∙ sym p
      go (at_first _ p _) (at_second _ q _) = q ∙ sym p
      go (at_first p _ _) (elsewhere _ q _ _) = absurd (q p)
      go (at_second _ p _) (at_first _ q _) = q ∙ sym p
      go (at_second _ p _) (at_second _ q _) = q ∙ sym p
      go (at_second p _ _) (elsewhere q _ _ _) = absurd (q p)
      go (elsewhere _ p _ _) (at_first q _ _) = absurd (p q)
      go (elsewhere p _ _ _) (at_second q _ _) = absurd (p q)
      go (elsewhere _ _ p _) (elsewhere _ _ q _) = q ∙ sym p

  takes_owners : (e : ℕ) → e < cells w → owner_at other_way.table e ≡ flip n (owner_at one_way.table e)
  takes_owners e k = go (see_two w.table c n d (n + 1) e in_c in_d) (see_two w.table d n c (n + 1) e in_d in_c)
    where
      go : SeenTwo w.table c n d (n + 1) e → SeenTwo w.table d n c (n + 1) e → owner_at other_way.table e ≡ flip n (owner_at one_way.table e)
      go (at_first p _ _) (at_first q _ _) = absurd (x (sym p ∙ q))
      go (at_first _ _ p) (at_second _ _ q) = q ∙ sym (flip_first n _ p)
      go (at_first p _ _) (elsewhere _ q _ _) = absurd (q p)
      go (at_second _ _ p) (at_first _ _ q) = q ∙ sym (flip_second n _ p)
      go (at_second p _ _) (at_second q _ _) = absurd (x (sym q ∙ p))
      go (at_second p _ _) (elsewhere q _ _ _) = absurd (q p)
      go (elsewhere _ p _ _) (at_first q _ _) = absurd (p q)
      go (elsewhere p _ _ _) (at_second q _ _) = absurd (p q)
      go (elsewhere _ _ _ p) (elsewhere _ _ _ q) =
          let low : owner_at w.table e < n = omega (arith, owner_low (f.status e k) f.low, l.0.1.0) in
          q ∙ sym p ∙ sym (flip_other n (owner_at one_way.table e) (λ z. omega arith) (λ z. omega arith))

  pub takes_renamed : Renamed (flip n) one_way other_way
  takes_renamed =
      record {
        head = refl;
        health = refl;
        words = length_set_cell (set_cell w.table d 1 n) c 1 (n + 1) ∙ length_set_cell w.table d 1 n
            ∙ sym (length_set_cell (set_cell w.table c 1 n) d 1 (n + 1) ∙ length_set_cell w.table c 1 n);
        bits = λ e k. takes_bits e;
        owners = takes_owners;
        waiters = λ e k.
            waiters_set_cell (set_cell w.table d 1 n) c 1 (n + 1) e ∙ waiters_set_cell w.table d 1 n e
            ∙ sym (waiters_set_cell (set_cell w.table c 1 n) d 1 (n + 1) e ∙ waiters_set_cell w.table c 1 n e);
      }
