-- From document 01's words to upstream's: valid and authorized, events and steps, refusals.
-- ---- valid: no cell is damaged
use Rattle.std.specs.Prelude.{ℕ, zero, suc, ◌+◌, ◌*◌, ◌≤◌, ◌<◌, ◌≡◌, refl, List, [], ◌∷◌, ◌++◌, true, ◌⊎◌, length, Ok, Err}
use Rattle.std.proofs.Common.{sym, ap, ◌∙◌, subst, inl, inr, arith, eq-eqb, ne_eqb}
use Rattle.std.proofs.Math.Decide.{dec_lt}
use Rattle.model.specs.Log.{Made, Event, attempt_begun, boundary_run, yielded, spun, step_dropped, took, released, waiters_set, health_set, held_all_lem, added}
use Rattle.model.specs.Arena.{cells_of, hold_of, hold_in, leases_of, holds_of, bit_at, owner_at, set_cell, shape_fits}
use Rattle.model.specs.Refusals.{Rule, refusal_of, first}
use Rattle.model.specs.Lock.{hold_at, no_hold}
use Rattle.types.specs.declared.Hold.{Hold}
use Rattle.types.specs.declared.Refusal.{Refusal}
use Rattle.laws.specs.Shape.{shaped}
use Rattle.laws.specs.Words.{length_set_cell, length_set_waiters, bit_set_waiters, owner_set_waiters, Seen, here, there, see}
use Rattle.laws.specs.Checks.{first_hit, first_skip}
use Rattle.history.specs.World as world
use Rattle.history.specs.World.{World, world_of, Live, Legal, Lawful, now, Unreleased, Whole}
use Rattle.history.specs.Items.{Call, Says, unchanged, perform, Clear, rules}
use Rattle.history.specs.Tests.{Status, free as is_free_lem, held as is_held_lem, live, free_words, in_index, holds_equal}
use Rattle.history.specs.Events.{good, lives}
use Rattle.history.specs.Judged.{past_checks, clear_fine, performed_by}
use Rattle.history.proofs.Shared.{in_place}
use Rattle.upstream.specs.Vocabulary.{Key, Cell, cell, Authority, Leases, next_serial, dom, contains_key, cells, insert, CellsAre, ValidCell, valid, authorized, framed, Acquires, Step, Acquire, Release, Observe, step, releases, protected_valid, held_ids, leases_authorized}
use Rattle.upstream.specs.Premises.{lease_at, keeps_valid, leases_valid}
use Rattle.upstream.specs.Protocol.{Trace, ended, first as one}
use Rattle.upstream.proofs.Protocol.{trace_keeps_one, trace_buries, step_grants}
use Rattle.upstream.specs.Bridge.{event_of, Sized}

pub status_valid : (next : ℕ) (c : Cell) → Status c.bit c.owner next → ValidCell next c
status_valid next c (is_free_lem p q) = record { bits = inl p; owned = (λ s. absurd (omega arith), λ b. absurd (omega arith)); below = λ s. absurd (omega arith) }
status_valid next c (is_held_lem p q r) = record { bits = inr p; owned = (λ s. p, λ b. q); below = λ s. omega arith }

pub valid_status : (next : ℕ) (c : Cell) → ValidCell next c → Status c.bit c.owner next
valid_status next c v = go v.bits c.owner refl
  where
    go : (c.bit ≡ 0) ⊎ (c.bit ≡ 1) → (o : ℕ) → c.owner ≡ o → Status c.bit c.owner next
    go (inl p) zero e = is_free_lem p e
    go (inl p) (suc o) e = absurd (omega (arith, v.owned.0 (omega arith)))
    go (inr p) o e = is_held_lem p (v.owned.1 p) (v.below (v.owned.1 p))

pub sound_valid : (w : Authority) → Whole w → valid w
sound_valid w s k i = status_valid (next_serial w) (cells w k) ((good w s).status k i)

-- where every cell that was valid is valid, and the keys are the same, `valid` stays
pub valid_from : (w v : Authority) → keeps_valid w v → dom v ≡ dom w → valid w → valid v
valid_from w v f e x k i = let inside : contains_key w k = omega arith in f k inside (x k inside)

pub framed_valid : (w v : Authority) (key : Key) → keeps_valid w v → framed w v key → valid w → valid v
framed_valid w v key f n x k i = let inside = (n k).0.1 i in f k inside (x k inside)

pub not_le : (a b : ℕ) → (a ≤ b → ⊥) → b < a
not_le a b n = go (dec_lt b a)
  where
    go : Dec (b < a) → b < a
    go (yes l) = l
    go (no l) = absurd (n (omega arith))

-- ---- authorized: the lease is live

pub authorized_live : (w : Authority) (l : Hold) → valid w → authorized w l → Live w l
authorized_live w l v a =
    live (next_serial w) (dom w) w.table l
    (record { in_range = a.inside; bit_is = a.locked; owner_is = a.mine.1; low = a.mine.0; high = omega (arith, (v l.cell a.inside).below (omega (arith, a.mine)), a.mine) })

pub live_authorized : (w : Authority) (l : Hold) → Live w l → authorized w l
live_authorized w l x = let a = lives w l x in record { inside = a.in_range; locked = a.bit_is; mine = (a.low, a.owner_is) }

-- authorized, with a serial that was issued: live
pub issued_live : (w : Authority) (l : Hold) → authorized w l → l.serial < next_serial w → Live w l
issued_live w l a n = live (next_serial w) (dom w) w.table l (record { in_range = a.inside; bit_is = a.locked; owner_is = a.mine.1; low = a.mine.0; high = n })

-- a trace keeps the leases alive that it protects, whatever else the table holds
pub trace_live : {protected : Leases} {w v : Authority} → Trace protected w v → ((l : Hold) → protected l → Live w l) → (l : Hold) → protected l → Live v l
trace_live {w = w} {v = v} t p l i =
    issued_live v l (trace_keeps_one t l i (live_authorized w l (p l i))) (omega (arith, (lives w l (p l i)).high, (trace_buries t).rises))

-- the lease that a step makes is live
pub grants_live : (before after : Authority) (key : Key) → Acquires before after key (next_serial before) → Live after (hold_of key (next_serial before))
grants_live b a key x = issued_live a (hold_of key (next_serial b)) (step_grants b a key (next_serial b) x) (omega (arith, x.rises))

-- authorized, and its cell is valid: live
pub cell_live : (w : Authority) (l : Hold) → authorized w l → ValidCell (next_serial w) (cells w l.cell) → Live w l
cell_live w l a v = issued_live w l a (omega (arith, v.below (omega (arith, a.mine)), a.mine))

-- of a valid table the cells of authorized leases are valid
pub valid_leases : (w : Authority) (ls : List Hold) → valid w → leases_authorized w ls → leases_valid w ls
valid_leases w ls v p i l = v (hold_at ls i).cell (p i l).inside

-- its cell is valid
pub live_cell : (w : Authority) (l : Hold) → Live w l → ValidCell (next_serial w) (cells w l.cell)
live_cell w l x =
    let a = lives w l x in
    status_valid (next_serial w) (cells w l.cell) (is_held_lem a.bit_is (omega (arith, a.owner_is, a.low)) (omega (arith, a.owner_is, a.high)))

-- a list of authorized leases protects each of them, by place or by name
pub by_name : (w : Authority) (ls : List Hold) → leases_authorized w ls → protected_valid w (held_ids ls)
by_name w ls p l i = let x = in_index ls l no_hold i in subst (authorized w) (sym x.2) (p x.0 x.1)

pub by_place : (w : Authority) (ls : List Hold) → protected_valid w (held_ids ls) → leases_authorized w ls
by_place w ls p i k = p (hold_at ls i) (in_place ls i k)

-- ---- leases with their boot numbers, and without

pub hold_at_lem : (ws : List ℕ) (i : ℕ) → hold_at (holds_of ws) i ≡ hold_in (lease_at (leases_of ws) i)
unfolding holds_of leases_of
hold_at_lem [] i = refl
hold_at_lem (c ∷ []) i = refl
hold_at_lem (c ∷ s ∷ []) i = refl
hold_at_lem (c ∷ s ∷ b ∷ ws) zero = refl
hold_at_lem (c ∷ s ∷ b ∷ ws) (suc i) = hold_at_lem ws i

pub fits_sized : (w : Authority) → shape_fits w.head (length w.table) ≡ true → Sized w
fits_sized w e = let s = shaped w.head (length w.table) e in (s.words_are, s.low)

-- a cell written
pub put_cells : (w : Authority) (n c b o : ℕ) → Sized w → contains_key w c
    → CellsAre w (world_of (record { headers = w.head.headers; buckets = w.head.buckets; next = n; boot = w.head.boot }) (set_cell w.table c b o) w.health) (insert (cells w) c (cell b o))
put_cells w n c b o z i = record { same_keys = refl; each = λ k l. go k (see w.table c b o k (omega arith)) }
  where
    go : (k : Key) → Seen w.table c b o k → cell (bit_at (set_cell w.table c b o) k) (owner_at (set_cell w.table c b o) k) ≡ insert (cells w) c (cell b o) k
    go k (here e p q) = rw (p, q, eq-eqb k c e)
    go k (there e p q) = rw (p, q, ne_eqb k c e)

same : (w v : Authority) → v.head ≡ w.head → v.table ≡ w.table → step w v Observe
same w v p q =
    record {
      same = record { same_keys = ap cells_of p; each = λ k i. ap {B = Cell} (λ t. cell (bit_at t k) (owner_at t k)) q };
      stays = cc;
    }

pub event_step : (w : Authority) (e : Event) → Sized w → Legal w e → step w (world.after_event w e) (event_of e)
event_step w attempt_begun z k = same w w refl refl
event_step w boundary_run z k = same w w refl refl
event_step w yielded z k = same w w refl refl
event_step w spun z k = same w w refl refl
event_step w step_dropped z k = same w w refl refl
event_step w (took a c s) z k =
    let p = free_words (next_serial w) w.table c k.0.1 in
    record {
      inside = k.0.0;
      unlocked = p.0;
      nobody = p.1;
      next_one = k.1.0;
      somebody = omega (arith, k.1.0);
      rises = refl;
      written = put_cells w (next_serial w + 1) c 1 s z k.0.0;
    }
event_step w (released a c s) z k =
    let x = lives w (hold_of c s) k in
    record { inside = x.in_range; locked = x.bit_is; owner_is = (x.low, x.owner_is); stays = refl; written = put_cells w (next_serial w) c 0 0 z x.in_range }
event_step w (waiters_set c n) z k =
    record { same = record { same_keys = refl; each = λ k i. rw (bit_set_waiters w.table c n k, owner_set_waiters w.table c n k) }; stays = refl }
event_step w (health_set i n) z k = same w _ refl refl
event_step w (held_all_lem m) z k = same w w refl refl
event_step w (added m c v) z k = same w w refl refl

sized_after : (w : Authority) (e : Event) → Sized w → Sized (world.after_event w e)
sized_after w attempt_begun z = z
sized_after w boundary_run z = z
sized_after w yielded z = z
sized_after w spun z = z
sized_after w step_dropped z = z
sized_after w (took a c s) z = (length_set_cell w.table c 1 s ∙ z.0, omega arith)
sized_after w (released a c s) z = (length_set_cell w.table c 0 0 ∙ z.0, z.1)
sized_after w (waiters_set c n) z = (length_set_waiters w.table c n ∙ z.0, z.1)
sized_after w (health_set i n) z = z
sized_after w (held_all_lem m) z = z
sized_after w (added m c v) z = z

pub sized_now : (w : Authority) (es : List Event) → Sized w → Sized (now w es)
sized_now w [] z = z
sized_now w (e ∷ es) z = sized_now (world.after_event w e) es (sized_after w e z)

released_is : (e : Event) (l : Hold) → (world.Releases l e → ⊥) → releases (event_of e) l.cell l.serial → ⊥
released_is attempt_begun l n r = r
released_is boundary_run l n r = r
released_is yielded l n r = r
released_is spun l n r = r
released_is step_dropped l n r = r
released_is (took a c s) l n r = r
released_is (released a c s) l n r = n (holds_equal l (hold_of c s) (sym r.0) (sym r.1))
released_is (waiters_set c k) l n r = r
released_is (health_set i k) l n r = r
released_is (held_all_lem m) l n r = r
released_is (added m c v) l n r = r

-- a lawful log is a trace of upstream's steps
pub lawful_trace : (protected : Leases) (w : Authority) (es : List Event) → Sized w → Lawful w es → ((l : Hold) → protected l → Unreleased l es)
    → Trace protected w (now w es)
lawful_trace protected w [] z k u = ended w
lawful_trace protected w (e ∷ es) z k u =
    one w (world.after_event w e) (now w (e ∷ es)) (event_of e) (event_step w e z k.0) (λ l p. released_is e l (u l p).0)
    (lawful_trace protected (world.after_event w e) es (sized_after w e z) k.1 (λ l p. (u l p).1))

-- ---- checks

-- none of the checks before it applies
pub first_after : (xs : List Rule) (x : Rule) (ys : List Rule) → Clear xs → x.applies ≡ true → first (xs ++ (x ∷ ys)) ≡ Err (refusal_of x.number x.carries)
first_after [] x ys c e = first_hit x ys e
first_after (y ∷ xs) x ys c e = first_skip y (xs ++ (x ∷ ys)) c.0 ∙ first_after xs x ys c.1 e

-- what holds of a call that a check refuses and of its steps, holds of the call
pub by_checks : (P : Made (World × Says) → Type 0) (w : World) (k : Call)
    → ((r : Refusal) → first (rules w k) ≡ Err r → P (unchanged w k r)) → (first (rules w k) ≡ Ok tt → Clear (rules w k) → P (past_checks w k)) → P (perform w k)
by_checks P w k x y = performed_by P w k x (λ c. y (clear_fine (rules w k) c) c)
