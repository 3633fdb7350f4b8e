-- The laws of one event over a whole log, and over a part of it; and `Kept`, what every step of a call keeps.
-- ---- logs one behind the other
use Rattle.std.specs.Prelude.{ℕ, ◌+◌, ◌*◌, ◌≤◌, ◌<◌, ◌≡◌, refl, List, [], ◌∷◌, ◌++◌}
use Rattle.std.proofs.Common.{sym, ap, ◌∙◌, subst, append-nil, arith}
use Rattle.model.specs.Log.{Event}
use Rattle.model.specs.Arena.{spent_to}
use Rattle.types.specs.declared.Head.{Head}
use Rattle.types.specs.declared.Hold.{Hold}
use Rattle.history.specs.World.{World, cells, Live, Apart, Legal, after_event, now, Lawful, bits, takes, releases, number_of_lem, Releases, Unreleased, Spent}
use Rattle.history.specs.Events.{Good, good_after, apart_after, Fit, fit_after, same_arena, keep_after, live_before, next_after, spent_after, bits_after_lem}
use Rattle.history.specs.Logs.{Kept}

pub now_append : (w : World) (xs ys : List Event) → now w (xs ++ ys) ≡ now (now w xs) ys
now_append w [] ys = refl
now_append w (x ∷ xs) ys = now_append (after_event w x) xs ys

pub lawful_append : (w : World) (xs ys : List Event) → Lawful w xs → Lawful (now w xs) ys → Lawful w (xs ++ ys)
lawful_append w [] ys p q = q
lawful_append w (x ∷ xs) ys p q = (p.0, lawful_append (after_event w x) xs ys p.1 q)

pub lawful_split : (w : World) (xs ys : List Event) → Lawful w (xs ++ ys) → Lawful w xs × Lawful (now w xs) ys
lawful_split w [] ys p = (tt, p)
lawful_split w (x ∷ xs) ys p = let r = lawful_split (after_event w x) xs ys p.1 in ((p.0, r.0), r.1)

unreleased_append : (l : Hold) (xs ys : List Event) → Unreleased l xs → Unreleased l ys → Unreleased l (xs ++ ys)
unreleased_append l [] ys p q = q
unreleased_append l (x ∷ xs) ys p q = (p.0, unreleased_append l xs ys p.1 q)

pub unreleased_front : (l : Hold) (xs ys : List Event) → Unreleased l (xs ++ ys) → Unreleased l xs
unreleased_front l [] ys p = tt
unreleased_front l (x ∷ xs) ys p = (p.0, unreleased_front l xs ys p.1)

-- ---- from one end of a log to the other

pub good_now : (w : World) (es : List Event) → Good w → Lawful w es → Good (now w es)
good_now w [] g t = g
good_now w (e ∷ es) g t = good_now (after_event w e) es (good_after w e g t.0) t.1

pub apart_now : (w : World) (es : List Event) → Good w → Lawful w es → Apart w → Apart (now w es)
apart_now w [] g t a = a
apart_now w (e ∷ es) g t a = apart_now (after_event w e) es (good_after w e g t.0) t.1 (apart_after w e g t.0 a)

pub fit_now : (w : World) (es : List Event) → Fit w → Lawful w es → Fit (now w es)
fit_now w [] f t = f
fit_now w (e ∷ es) f t = fit_now (after_event w e) es (fit_after w e f t.0) t.1

pub arena_now : (w : World) (es : List Event) → (now w es).head ≡ spent_to w.head (now w es).head.next
arena_now w [] = refl
arena_now w (e ∷ es) = arena_now (after_event w e) es ∙ ap (λ h. spent_to h (now (after_event w e) es).head.next) (same_arena w e)

-- no event changes the boot number
pub boot_now : (w : World) (es : List Event) → (now w es).head.boot ≡ w.head.boot
boot_now w es = ap (λ (h : Head). h.boot) (arena_now w es)

pub next_now : (w : World) (es : List Event) → (now w es).head.next ≡ w.head.next + number_of_lem takes es
unfolding number_of_lem
next_now w [] = omega arith
next_now w (e ∷ es) = omega (arith, next_now (after_event w e) es, next_after w e)

pub bits_now : (w : World) (es : List Event) → Fit w → Lawful w es
    → bits (cells w) (now w es).table + number_of_lem releases es ≡ bits (cells w) w.table + number_of_lem takes es
unfolding number_of_lem
bits_now w [] g t = omega arith
bits_now w (e ∷ es) g t =
    let same : cells (after_event w e) ≡ cells w = ap (λ h. h.headers * h.buckets) (same_arena w e) in
    omega (arith, rw same at (bits_now (after_event w e) es (fit_after w e g t.0) t.1), bits_after_lem w e g t.0)

pub keep_now : (w : World) (es : List Event) (l : Hold) → Fit w → Lawful w es → Live w l → Unreleased l es → Live (now w es) l
keep_now w [] l g t v u = v
keep_now w (e ∷ es) l g t v u = keep_now (after_event w e) es l (fit_after w e g t.0) t.1 (keep_after w e l g t.0 v u.0) u.1

-- a live lease behind a log was live before it, if its serial was issued before
pub live_back : (w : World) (es : List Event) (l : Hold) → Fit w → Lawful w es → l.serial < w.head.next → Live (now w es) l → Live w l
live_back w [] l g t o v = v
live_back w (e ∷ es) l g t o v =
    live_before w e l g t.0 (live_back (after_event w e) es l (fit_after w e g t.0) t.1 (omega (arith, next_after w e)) v) o

pub spent_now : (w : World) (es : List Event) (s : ℕ) → Fit w → Lawful w es → Spent w s → Spent (now w es) s
spent_now w [] s g t p = p
spent_now w (e ∷ es) s g t p = spent_now (after_event w e) es s (fit_after w e g t.0) t.1 (spent_after w e s g t.0 p)

pub nothing : {w : World} {P : Hold → Type 0} → Kept w P w []
nothing = record { lawful = tt; leads = refl; spares = λ l p v. tt }

pub event : {w : World} {P : Hold → Type 0} (e : Event) → Legal w e → ((l : Hold) → P l → Live w l → Releases l e → ⊥) → Kept w P (after_event w e) (e ∷ [])
event e k n = record { lawful = (k, tt); leads = refl; spares = λ l p v. (n l p v, tt) }

pub kept_fit : {w v : World} {P : Hold → Type 0} {es : List Event} → Fit w → Kept w P v es → Fit v
kept_fit {w} {v} {P} {es} g k = rw k.leads (fit_now w es g k.lawful)

pub kept_live : {w v : World} {P : Hold → Type 0} {es : List Event} → Fit w → Kept w P v es → (l : Hold) → P l → Live w l → Live v l
kept_live {w} {v} {P} {es} g k l p x = subst (λ u. Live u l) (sym k.leads) (keep_now w es l g k.lawful x (k.spares l p x))

pub kept_next : {w v : World} {P : Hold → Type 0} {es : List Event} → Kept w P v es → w.head.next ≤ v.head.next
kept_next {w} {v} {P} {es} k = omega (arith, ap (λ u. u.head.next) k.leads, next_now w es)

pub weaken : {w v : World} {P Q : Hold → Type 0} {es : List Event} → ((l : Hold) → Q l → Live w l → P l) → Kept w P v es → Kept w Q v es
weaken f k = record { lawful = k.lawful; leads = k.leads; spares = λ l q x. k.spares l (f l q x) x }

-- one after the other
pub chain : {w v u : World} {P : Hold → Type 0} {xs ys : List Event} → Fit w → Kept w P v xs → Kept v P u ys → Kept w P u (xs ++ ys)
chain {w} {v} {u} {P} {xs} {ys} g a b =
    record {
      lawful = lawful_append w xs ys a.lawful (subst (λ x. Lawful x ys) a.leads b.lawful);
      leads = b.leads ∙ ap (λ x. now x ys) a.leads ∙ sym (now_append w xs ys);
      spares = λ l p x. unreleased_append l xs ys (a.spares l p x) (b.spares l p (kept_live g a l p x));
    }

pub ended : {w v : World} {P : Hold → Type 0} {es : List Event} → Kept w P v es → Kept w P v (es ++ [])
ended {w} {v} {P} {es} k = subst (Kept w P v) (sym (append-nil es)) k
