-- When a write is done, in plain numbers, of any build that meets `Statement`.
use Rattle.std.specs.Prelude.{ℕ, ◌+◌, ◌*◌, ◌≤◌, ◌<◌, ◌≡◌, refl, ◌≢◌, ◌↔◌, List, [], Bool, true, false, length, Ok, Err}
use Rattle.std.proofs.Common.{sym, ap, ◌∙◌, inl, inr, arith}
use Rattle.std.proofs.Math.Decide.{ℕ_discrete}
use Rattle.model.specs.Arena.{shape_fits, hold_in, is_live, cells_of}
use Rattle.types.specs.declared.Head.{Head}
use Rattle.types.specs.declared.Lease.{Lease}
use Rattle.setpoint.specs.declared.Setpoint.{Setpoint}
use Rattle.book_rules.specs.declared.BookDone.TheVariants.{Written}
use Rattle.book_rules.specs.Layout.{is_sound}
use Rattle.book_rules.proofs.Sound.{sound_is, is_sound_lem}
use Rattle.book_rules.specs.declared.BookRefusal.{BookRefusal}
use Rattle.book_rules.specs.declared.BookRefusal.TheVariants.{BadShape, BadSlot, StaleBoot, NotHeld, NotFinite, DamagedBook, VersionsSpent, BookFull}
use Rattle.history.specs.Tests.{differ}
use Rattle.pinned.specs.Words.{arena, Shape, IsLive}
use Rattle.pinned.proofs.Decided.{shape_there, shape_back, owned, owning}
use Rattle.book_pinned.specs.Statement.{slots, newest, IsNotFinite, Undamaged, staying, Puts, WritesOver, Writes, BookBuild, MeetsBook}
use Rattle.book_pinned.specs.Plain.{undamaged_there, undamaged_back}
use Rattle.book_rules.specs.Rules.{BookAnswer}

-- a live lease of this boot on the slot's cell, a finite setpoint, an undamaged book of a right length, a version left, and room for five bytes more
pub record MayWrite (h : Head) (t b : List ℕ) (slot : ℕ) (l : Lease) (s : Setpoint) : Type 0 where
  pub shape : Shape h (length t)
  pub contents : 32 * slots h ≤ length b
  pub limit : length b ≤ 32768
  pub a_slot : slot < slots h
  pub this_boot : l.boot ≡ h.boot
  pub live : IsLive (arena h t []) l.cell l.serial
  pub on_slot : l.cell ≡ slot
  pub finite : IsNotFinite s → ⊥
  pub undamaged : Undamaged (slots h) b
  pub version_left : newest b slot ≢ 4_294_967_295
  pub room : 32 * slots h + 5 * staying (slots h) b slot + 5 ≤ length b

abbrev pub WritesExactly : BookBuild → Type 0
WritesExactly f =
    (h : Head) (t b : List ℕ) (slot : ℕ) (l : Lease) (s : Setpoint)
    → ((v : ℕ) × (m : ℕ) × ((f.write h t b slot l s).0 ≡ Ok (Written v m))) ↔ MayWrite h t b slot l s

-- what a test decides is so if it is not not so
stable : (b : Bool) {C : Type 0} → (b ≡ true → C) → (C → b ≡ true) → ((C → ⊥) → ⊥) → C
stable true f g k = f refl
stable false f g k = absurd (k (λ c. differ (g c)))

same : (a b : ℕ) → (a ≢ b → ⊥) → a ≡ b
same a b k = go (ℕ_discrete a b)
  where
    go : Dec (a ≡ b) → a ≡ b
    go (yes e) = e
    go (no d) = absurd (k d)

-- refused is not written
apart : (x : BookAnswer × List ℕ) (r : BookRefusal) (c : List ℕ) (v m : ℕ) → x ≡ (Err r, c) → x.0 ≡ Ok (Written v m) → ⊥
apart x r c v m e f = let g : Err r ≡ Ok (Written v m) = sym (ap (λ (y : BookAnswer × List ℕ). y.0) e) ∙ f in let z : ◌≡◌ {A = ℕ} 0 1 = cc in omega arith

module _ (h : Head) (t b : List ℕ) (slot : ℕ) (l : Lease) (s : Setpoint) (x : BookAnswer × List ℕ) where
  puts_written : Puts (slots h) b slot s x → (v : ℕ) × (m : ℕ) × (x.0 ≡ Ok (Written v m))
  puts_written (inl (c, (d, p, e))) = (_, _, ap (λ (y : BookAnswer × List ℕ). y.0) e)
  puts_written (inr (c, (q, p, (d, r, e)))) = (_, _, ap (λ (y : BookAnswer × List ℕ). y.0) e)

  over_written : WritesOver (slots h) b slot s x → (v m : ℕ) → x.0 ≡ Ok (Written v m)
      → Undamaged (slots h) b × (newest b slot ≢ 4_294_967_295) × (32 * slots h + 5 * staying (slots h) b slot + 5 ≤ length b)
  over_written (inl (c, e)) v m q = absurd (apart x DamagedBook b v m e q)
  over_written (inr (n1, inl (c, e))) v m q = absurd (apart x VersionsSpent b v m e q)
  over_written (inr (n1, inr (n2, inl (c, e)))) v m q = absurd (apart x BookFull b v m e q)
  over_written (inr (n1, inr (n2, inr (n3, p)))) v m q = (
    stable (is_sound (slots h) b) (λ e. undamaged_there (slots h) b (sound_is (slots h) b e)) (λ u. is_sound_lem (slots h) b (undamaged_back (slots h) b u)) n1,
    n2,
    omega (arith, n3),
  )

  written_may : Writes h t b slot l s x → (v m : ℕ) → x.0 ≡ Ok (Written v m) → MayWrite h t b slot l s
  written_may (inl (c, e)) v m q = absurd (apart x BadShape b v m e q)
  written_may (inr (n1, inl (c, e))) v m q = absurd (apart x BadSlot b v m e q)
  written_may (inr (n1, inr (n2, inl (c, e)))) v m q = absurd (apart x StaleBoot b v m e q)
  written_may (inr (n1, inr (n2, inr (n3, inl (c, e))))) v m q = absurd (apart x NotHeld b v m e q)
  written_may (inr (n1, inr (n2, inr (n3, inr (n4, inl (c, e)))))) v m q = absurd (apart x NotFinite b v m e q)
  written_may (inr (n1, inr (n2, inr (n3, inr (n4, inr (n5, p)))))) v m q =
      let o = over_written p v m q in
      let short : length b < 32 * slots h → ⊥ = (λ z. n2 (inl (inl z))) in
      let long : 32768 < length b → ⊥ = (λ z. n2 (inl (inr z))) in
      let none : slots h ≤ slot → ⊥ = (λ z. n2 (inr z)) in
      record {
        shape = stable (shape_fits h (length t)) (shape_there h (length t)) (shape_back h (length t)) n1;
        contents = omega (arith, short);
        limit = omega (arith, long);
        a_slot = omega (arith, none);
        this_boot = same l.boot h.boot n3;
        live =
            stable (is_live h.next (cells_of h) t (hold_in l)) (owned (arena h t []) l.cell l.serial) (owning (arena h t []) l.cell l.serial)
            (λ k. n4 (λ z. k z.0));
        on_slot = same l.cell slot (λ k. n4 (λ z. k z.1));
        finite = n5;
        undamaged = o.0;
        version_left = o.1;
        room = o.2;
      }

  may_over : WritesOver (slots h) b slot s x → MayWrite h t b slot l s → (v : ℕ) × (m : ℕ) × (x.0 ≡ Ok (Written v m))
  may_over (inl (c, e)) w = absurd (c w.undamaged)
  may_over (inr (n1, inl (c, e))) w = absurd (w.version_left c)
  may_over (inr (n1, inr (n2, inl (c, e)))) w = absurd (omega (arith, w.room))
  may_over (inr (n1, inr (n2, inr (n3, p)))) w = puts_written p

  may_written : Writes h t b slot l s x → MayWrite h t b slot l s → (v : ℕ) × (m : ℕ) × (x.0 ≡ Ok (Written v m))
  may_written (inl (c, e)) w = absurd (c w.shape)
  may_written (inr (n1, inl (inl (inl c), e))) w = absurd (omega (arith, w.contents))
  may_written (inr (n1, inl (inl (inr c), e))) w = absurd (omega (arith, w.limit))
  may_written (inr (n1, inl (inr c, e))) w = absurd (omega (arith, w.a_slot))
  may_written (inr (n1, inr (n2, inl (c, e)))) w = absurd (c w.this_boot)
  may_written (inr (n1, inr (n2, inr (n3, inl (c, e))))) w = absurd (c (w.live, w.on_slot))
  may_written (inr (n1, inr (n2, inr (n3, inr (n4, inl (c, e)))))) w = absurd (w.finite c)
  may_written (inr (n1, inr (n2, inr (n3, inr (n4, inr (n5, p)))))) w = may_over p w

pub writes_exactly : (f : BookBuild) → MeetsBook f → WritesExactly f
writes_exactly f m h t b slot l s = (
  (λ w. written_may h t b slot l s (f.write h t b slot l s) (m.writes h t b slot l s) w.0 w.1 w.2),
  may_written h t b slot l s (f.write h t b slot l s) (m.writes h t b slot l s),
)
