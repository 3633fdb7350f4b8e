-- "one compare-and-set takes a cell exactly if it is free and a serial remains", read off what is said of `try_acquire`: of any build that meets it.
use Rattle.std.specs.Prelude.{ℕ, ◌<◌, ◌≡◌, List, ◌↔◌}
use Rattle.std.proofs.Common.{ap, sym, ◌∙◌, inl, inr, arith}
use Rattle.std.proofs.Math.Decide.{ℕ_discrete}
use Rattle.model.specs.Log.{Made, Event}
use Rattle.types.specs.declared.Answer.{Answer}
use Rattle.types.specs.declared.Answer.TheVariants.{Granted}
use Rattle.types.specs.declared.Lease.{Lease}
use Rattle.history.specs.World.{World}
use Rattle.history.specs.Items.{Build, Says, try_acquire}
use Rattle.pinned.specs.Words.{logged, IsFree, IsHeld, IsDamaged, bit, owner}
use Rattle.pinned.specs.Steps.{Takes}
use Rattle.pinned.specs.Statements.{Passes, Meets}

-- the lease that a take gives: the cell, the next serial, the head's boot number
abbrev pub next_lease : World → ℕ → Lease
next_lease w c = record { cell = c; serial = w.head.next; boot = w.head.boot }

abbrev pub TakesExactly : Build → Type 0
TakesExactly b =
    (w : World) (c : ℕ) (l : Lease) → Passes w (try_acquire c)
    → ((b w (try_acquire c)).seen.1.answer ≡ Granted l) ↔ (IsFree w c × (w.head.next < 4_294_967_295) × (l ≡ next_lease w c))

-- neither damaged nor held
left_free : (w : World) (c : ℕ) → (IsDamaged w c → ⊥) → (IsHeld w c → ⊥) → IsFree w c
left_free w c d h = go (ℕ_discrete (bit w c) 0) (ℕ_discrete (owner w c) 0)
  where
    go : Dec (bit w c ≡ 0) → Dec (owner w c ≡ 0) → IsFree w c
    go (yes p) (yes q) = (p, q)
    go (yes p) (no q) = absurd (d ((λ f. q f.1), h))
    go (no p) q = absurd (d ((λ f. p f.0), h))

said : {t : Made (World × Answer)} {w : World} {a : Answer} {es : List Event} → t ≡ logged (w, a) es → t.seen.1 ≡ a
said e = ap (λ (x : Made (World × Answer)). x.seen.1) e

grants : (w : World) (c : ℕ) (l : Lease) (t : Made (World × Answer)) → Takes w c t
    → (t.seen.1 ≡ Granted l) ↔ (IsFree w c × (w.head.next < 4_294_967_295) × (l ≡ next_lease w c))
grants w c l t (inl (d, e)) =
    ((λ g. let a = said e in let z : ◌≡◌ {A = ℕ} 0 1 = cc in absurd (omega arith)), λ f. absurd (d.0 f.0))
grants w c l t (inr (_, inl (h, e))) =
    ((λ g. let a = said e in let z : ◌≡◌ {A = ℕ} 0 1 = cc in absurd (omega arith)), λ f. absurd (omega (arith, h.0, f.0.0)))
grants w c l t (inr (_, inr (_, inl (s, e)))) =
    ((λ g. let a = said e in let z : ◌≡◌ {A = ℕ} 0 1 = cc in absurd (omega arith)), λ f. absurd (omega (arith, f.1)))
grants w c l t (inr (d, inr (h, inr (s, e)))) =
    ((λ g. let a = said e in let i : l ≡ next_lease w c = cc in (left_free w c d h, omega arith, i)), λ f. said e ∙ ap (λ (x : Lease). Granted x) (sym f.2))

pub takes_exactly : (b : Build) → Meets b → TakesExactly b
takes_exactly b m w c l p =
    let x = m.beyond w (try_acquire c) p in
    let t = x.1.0 in
    let same : (b w (try_acquire c)).seen.1.answer ≡ t.seen.1 =
    ap (λ (y : Made (World × Says)). y.seen.1.answer) x.2 ∙ ap (λ (y : Made (World × Says)). y.seen.1.answer) x.1.2 in
    let g = grants w c l t x.1.1 in
    ((λ e. g.0 (sym same ∙ e)), λ f. same ∙ g.1 f)
