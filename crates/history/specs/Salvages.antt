-- A salvage (document 02, L6) as the start of a history: what comes of it, by cases, and that one that is done leaves a whole arena.
use Rattle.std.specs.Prelude.{ℕ, ◌+◌, ◌*◌, ◌≤◌, ◌<◌, ◌≡◌, List, Bool, ◌&&◌, ◌⊎◌, length, Err}
use Rattle.std.proofs.Math.Path.{refl}
use Rattle.std.proofs.Common.{sym, ◌∙◌, arith}
use Rattle.std.proofs.Math.Bool.{true, false}
use Rattle.std.proofs.Math.Logic.{inl, inr}
use Rattle.types.specs.declared.SalvageRefusal.TheVariants.{BadShape, ReportFull}
use Rattle.model.specs.Arena.{cells_of, bit_at, owner_at, state_of, state_at, shape_fits, health_fits}
use Rattle.model.specs.Refusals.{first}
use Rattle.model.specs.Checks.{prepare_rules}
use Rattle.model.specs.Salvage.{kept_in, kept_of, mended_table, mended_health, is_report_full, salvaged_of, unsalvaged, go_over_of, salvage_of}
use Rattle.types.specs.declared.Head.{Head}
use Rattle.types.specs.declared.State.{State}
use Rattle.types.specs.declared.State.TheVariants as state
use Rattle.laws.specs.Shape.{Shaped}
use Rattle.laws.specs.Salvage.{length_mended, length_mended_health, bit_mended, owner_mended}
use Rattle.history.specs.World.{world_of}
use Rattle.history.specs.Tests.{differ, state_free, undamaged}
use Rattle.history.specs.Events.{Good, issued, reshaped}

-- ---- what comes of it

module _ (h : Head) (t g report list : List ℕ) where
  -- the head and both lengths keep the arena's rules
  abbrev fits : Bool
  fits = shape_fits h (length t) && health_fits h (length g)

  pub data Came : Type 0 where
    bad : fits ≡ false → salvage_of h t g report list ≡ unsalvaged h t g report list (Err BadShape) → Came
    full : fits ≡ true → is_report_full h t g report list ≡ true → salvage_of h t g report list ≡ unsalvaged h t g report list (Err ReportFull) → Came
    done : fits ≡ true → is_report_full h t g report list ≡ false → salvage_of h t g report list ≡ salvaged_of h t g report list → Came

  pub came : Came
  unfolding salvage_of go_over_of prepare_rules first
  came = go (shape_fits h (length t)) (health_fits h (length g)) (is_report_full h t g report list) refl refl refl
    where
      go : (a b c : Bool) → shape_fits h (length t) ≡ a → health_fits h (length g) ≡ b → is_report_full h t g report list ≡ c → Came
      go true true true e f k = full (rw (e, f)) k (rw (e, f, k))
      go true true false e f k = done (rw (e, f)) k (rw (e, f, k))
      go true false c e f k = bad (rw (e, f)) (rw (e, f))
      go false b c e f k = bad (rw e) (rw e)

-- ---- a cell that is mended

kept_sound : (next b o x : ℕ) → (state_of next b o ≡ state.Damaged → ⊥) → kept_of next b o x ≡ x
unfolding kept_of
kept_sound next b o x n = go (state_of next b o) n
  where
    go : (s : State) → (s ≡ state.Damaged → ⊥) → kept_in s x ≡ x
    go state.Free n = refl
    go (state.Held p) n = refl
    go state.Damaged n = absurd (n refl)

kept_damaged : (next b o x : ℕ) → state_of next b o ≡ state.Damaged → kept_of next b o x ≡ 0
unfolding kept_of
kept_damaged next b o x e = rw e

-- a cell keeps both words, or is freed
pub data Mending (next b o : ℕ) : Type 0 where
  keeps : (state_of next b o ≡ state.Damaged → ⊥) → ((x : ℕ) → kept_of next b o x ≡ x) → Mending next b o
  frees : state_of next b o ≡ state.Damaged → ((x : ℕ) → kept_of next b o x ≡ 0) → Mending next b o

pub mending : (next b o : ℕ) → Mending next b o
mending next b o = go (state_of next b o) refl
  where
    go : (s : State) → state_of next b o ≡ s → Mending next b o
    go state.Free e =
        let n : state_of next b o ≡ state.Damaged → ⊥ = λ d. differ (let q : state.Free ≡ state.Damaged = sym e ∙ d in cc) in
        keeps n (λ x. kept_sound next b o x n)
    go (state.Held p) e =
        let n : state_of next b o ≡ state.Damaged → ⊥ = λ d. differ (let q : state.Held p ≡ state.Damaged = sym e ∙ d in cc) in
        keeps n (λ x. kept_sound next b o x n)
    go state.Damaged e = frees e (λ x. kept_damaged next b o x e)

module _ (h : Head) (t : List ℕ) (s : Shaped h (length t)) (c : ℕ) (l : c < cells_of h) where
  abbrev pub u : List ℕ
  u = mended_table h.next t

  pub inside : 3 * c + 2 < length t
  inside = omega (arith, s.words_are)

  -- a cell that is mended: it was sound and is as it was, or it was damaged and is free
  abbrev pub StandsNow : Type 0
  StandsNow =
      ((state_at h.next t c ≡ state.Damaged → ⊥) × (bit_at u c ≡ bit_at t c) × (owner_at u c ≡ owner_at t c))
      ⊎ ((state_at h.next t c ≡ state.Damaged) × (bit_at u c ≡ 0) × (owner_at u c ≡ 0))

  mended_state : Mending h.next (bit_at t c) (owner_at t c) → StandsNow
  unfolding state_at
  mended_state (keeps n k) = inl (n, bit_mended h.next t c inside ∙ k (bit_at t c), owner_mended h.next t c inside ∙ k (owner_at t c))
  mended_state (frees e k) = inr (e, bit_mended h.next t c inside ∙ k (bit_at t c), owner_mended h.next t c inside ∙ k (owner_at t c))

  pub came_state : StandsNow
  came_state = mended_state (mending h.next (bit_at t c) (owner_at t c))

  free_again : bit_at u c ≡ 0 → owner_at u c ≡ 0 → state_at h.next u c ≡ state.Free
  unfolding state_at
  free_again p q = state_free h.next (bit_at u c) (owner_at u c) p q

  same_state : bit_at u c ≡ bit_at t c → owner_at u c ≡ owner_at t c → state_at h.next u c ≡ state_at h.next t c
  unfolding state_at
  same_state p q = rw (p, q)

  pub now_whole : state_at h.next u c ≡ state.Damaged → ⊥
  now_whole e = go came_state
    where
      go : StandsNow → ⊥
      go (inl x) = x.0 (sym (same_state x.1 x.2) ∙ e)
      go (inr x) = differ (let q : state.Free ≡ state.Damaged = sym (free_again x.1 x.2) ∙ e in cc)

  pub now_owned : bit_at u c ≡ 1 → (1 ≤ owner_at u c) × (owner_at u c < h.next)
  unfolding state_at
  now_owned b = issued (undamaged h.next (bit_at u c) (owner_at u c) now_whole) b

  pub now_freed : state_at h.next t c ≡ state.Damaged → state_at h.next u c ≡ state.Free
  now_freed e = go came_state
    where
      go : StandsNow → state_at h.next u c ≡ state.Free
      go (inl x) = absurd (x.0 e)
      go (inr x) = free_again x.1 x.2

  pub now_kept : (state_at h.next t c ≡ state.Damaged → ⊥) → (bit_at u c ≡ bit_at t c) × (owner_at u c ≡ owner_at t c)
  now_kept n = go came_state
    where
      go : StandsNow → (bit_at u c ≡ bit_at t c) × (owner_at u c ≡ owner_at t c)
      go (inl x) = (x.1, x.2)
      go (inr x) = absurd (n x.0)

pub mended_good : (h : Head) (t g : List ℕ) → Shaped h (length t) → length g ≡ h.headers → Good (world_of h (mended_table h.next t) (mended_health g))
unfolding state_at
mended_good h t g s e =
    let v = mended_table h.next t in
    record {
      shape = reshaped h h.next (length t) (length v) s s.low s.high (length_mended h.next t);
      health_is = length_mended_health g ∙ e;
      status = λ c l. undamaged h.next (bit_at v c) (owner_at v c) (now_whole h t s c l);
    }
