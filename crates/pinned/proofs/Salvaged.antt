-- The salvage: ours is as `Statements` says, and nothing else is.
use Rattle.std.specs.Prelude.{ℕ, zero, suc, ◌+◌, ◌*◌, ◌/◌, ◌≤◌, ◌<◌, ◌≡◌, refl, List, [], ◌∷◌, ◌++◌, Bool, true, false, not, ◌&&◌, ◌||◌, ◌⊎◌, ◌≢◌, ltb, leb, eqb, length, get_or, if◌then◌else◌, Ok, Err}
use Rattle.std.proofs.Common.{sym, ◌∙◌, inl, inr, arith, ltb-true, leb-true, leb-false, eqb-true, eq-eqb, le-leb, lt-ltb}
use Rattle.std.proofs.lemmas.Bool.{eqb-false}
use Rattle.types.specs.Checks.{Check}
use Rattle.types.specs.declared.SalvageRefusal.TheVariants as salvaged
use Rattle.choice.specs.Pick.{both}
use Rattle.model.specs.Arena.{bit_at, owner_at, is_held, shape_fits, health_fits}
use Rattle.model.specs.Refusals.{first, judge}
use Rattle.model.specs.Checks.{prepare_rules}
use Rattle.model.specs.Salvage.{kept_in, kept_of, mended_cell, mended_table, mended_byte, mended_health, change_of, changes_from, changes_of, held_from, left_held, over_of, is_report_full, mend_of, go_over_of, salvage_of}
use Rattle.types.specs.declared.Head.{Head}
use Rattle.types.specs.declared.SalvageReply.{SalvageReply}
use Rattle.types.specs.declared.State.{State}
use Rattle.history.specs.Tests.{Stands, stands, is_free_lem, is_held_lem, is_damaged, if_cases, differ}
use Rattle.pinned.specs.Words.{Is, If◌Then◌Else◌, With, Shape}
use Rattle.pinned.specs.Statements.{Mends, MendsBytes, Changes, LeftHeld, over, concluded, Salvager, SalvagesArena}
use Rattle.pinned.specs.Decided.{Decides}
use Rattle.pinned.proofs.Decided.{shape_decides, health_decides, or_decides, ltb_decides}
use Rattle.pinned.specs.Same.{Same, is_same, if_same, with_same}

mends_are : (next : ℕ) (t : List ℕ) → Mends next t (mended_table next t)
unfolding Mends mended_table mended_cell kept_of
mends_are next [] = refl
mends_are next (b ∷ []) = refl
mends_are next (b ∷ o ∷ []) = refl
mends_are next (b ∷ o ∷ n ∷ t) = (mended_table next t, mends_are next t, go (stands next b o))
  where
    go : {s : State} → Stands next b o s
        → If◌Then◌Else◌ (((b ≡ 0) × (o ≡ 0) → ⊥) × ((b ≡ 1) × (1 ≤ o) × (o < next) → ⊥)) (Is (0 ∷ 0 ∷ 0 ∷ mended_table next t)) (Is (b ∷ o ∷ 0 ∷ mended_table next t)) (kept_in s b ∷ kept_in s o ∷ 0 ∷ mended_table next t)
    go (is_free_lem p q) = inr ((λ d. d.0 (p, q)), refl)
    go (is_held_lem p q r) = inr ((λ d. d.1 (p, q, r)), refl)
    go (is_damaged f g) = inl (((λ p. f p.0 p.1), (λ p. g p.0 p.1 p.2)), refl)

bytes_are : (g : List ℕ) → MendsBytes g (mended_health g)
unfolding MendsBytes mended_health mended_byte
bytes_are [] = refl
bytes_are (b ∷ g) = (mended_health g, bytes_are g, go (leb b 1) refl)
  where
    go : (x : Bool) → leb b 1 ≡ x → If◌Then◌Else◌ (b ≤ 1) (Is (b ∷ mended_health g)) (Is (1 ∷ mended_health g)) ((if x then b else 1) ∷ mended_health g)
    go true e = inl (leb-true b 1 e, refl)
    go false e = inr ((λ l. let k = leb-false b 1 e in omega arith), refl)

changes_are : (place : ℕ) (old new : List ℕ) → Changes place old new (changes_from place old new)
unfolding Changes changes_from change_of
changes_are place [] new = refl
changes_are place (a ∷ old) [] = refl
changes_are place (a ∷ old) (b ∷ new) = (changes_from (place + 1) old new, changes_are (place + 1) old new, go (eqb a b) refl)
  where
    go : (x : Bool) → eqb a b ≡ x
        → If◌Then◌Else◌ (a ≡ b) (Is (changes_from (place + 1) old new)) (Is (place ∷ a ∷ b ∷ changes_from (place + 1) old new)) ((if x then [] else (place ∷ a ∷ b ∷ [])) ++ changes_from (place + 1) old new)
    go true e = inl (eqb-true a b e, refl)
    go false e = inr (eqb-false a b e, refl)

left_are : (next left c : ℕ) (t : List ℕ) → LeftHeld next left c t (held_from next left c t)
unfolding LeftHeld held_from is_held bit_at owner_at
left_are next zero c t = refl
left_are next (suc left) c t = (held_from next left (c + 1) t, left_are next left (c + 1) t, go (is_held next (bit_at t c) (owner_at t c)) refl)
  where
    go : (x : Bool) → is_held next (bit_at t c) (owner_at t c) ≡ x
        → If◌Then◌Else◌ ((get_or t (3 * c) 0 ≡ 1) × (1 ≤ get_or t (3 * c + 1) 0) × (get_or t (3 * c + 1) 0 < next)) (Is (c ∷ held_from next left (c + 1) t)) (Is (held_from next left (c + 1) t)) (if x then c ∷ held_from next left (c + 1) t else held_from next left (c + 1) t)
    go true e =
        let p = both (eqb (get_or t (3 * c) 0) 1) (leb 1 (get_or t (3 * c + 1) 0) && ltb (get_or t (3 * c + 1) 0) next) e in
        let q = both (leb 1 (get_or t (3 * c + 1) 0)) (ltb (get_or t (3 * c + 1) 0) next) p.1 in
        inl ((eqb-true _ 1 p.0, leb-true 1 _ q.0, ltb-true _ next q.1), refl)
    go false e =
        inr ((λ k. differ (sym e ∙ rw (eq-eqb (get_or t (3 * c) 0) 1 k.0, le-leb 1 (get_or t (3 * c + 1) 0) k.1, lt-ltb (get_or t (3 * c + 1) 0) next k.2))), refl)

pub salvages : SalvagesArena salvage_of
unfolding salvage_of prepare_rules first go_over_of is_report_full mend_of changes_of left_held over_of
salvages h t g report list =
    if_cases (λ (k : Check). P (judged k)) (not (shape_fits h (length t))) (λ e. inl ((shape_decides h (length t)).0 e, refl))
    (λ e. inr (
      (shape_decides h (length t)).1 e,
      if_cases (λ (k : Check). Q (judged k)) (not (health_fits h (length g))) (λ f. inl ((health_decides h (length g)).0 f, refl))
          (λ f. inr (
            (health_decides h (length g)).1 f,
            (
              u,
              mends_are h.next t,
              (
                v,
                bytes_are g,
                (
                  changes_from 0 t u,
                  changes_are 0 t u,
                  (
                    changes_from (3 * (h.headers * h.buckets)) g v,
                    changes_are (3 * (h.headers * h.buckets)) g v,
                    (
                      held_from h.next (h.headers * h.buckets) 0 u,
                      left_are h.next (h.headers * h.buckets) 0 u,
                      if_cases R (ltb (length report / 3) (length xs / 3) || ltb (length list) (length cs))
                          (λ i. inl (full.0 i, refl)) (λ i. inr (full.1 i, refl)),
                    ),
                  ),
                ),
              ),
            ),
          )),
    ))
  where
    u : List ℕ
    u = mended_table h.next t

    v : List ℕ
    v = mended_health g

    xs : List ℕ
    xs = changes_from 0 t u ++ changes_from (3 * (h.headers * h.buckets)) g v

    cs : List ℕ
    cs = held_from h.next (h.headers * h.buckets) 0 u

    full : Decides (ltb (length report / 3) (length xs / 3) || ltb (length list) (length cs)) ((length report / 3 < length xs / 3) ⊎ (length list < length cs))
    full = or_decides (ltb (length report / 3) (length xs / 3)) (ltb (length list) (length cs)) (ltb_decides (length report / 3) (length xs / 3)) (ltb_decides (length list) (length cs))

    Out : Type 0
    Out = SalvageReply × (List ℕ × (List ℕ × (List ℕ × List ℕ)))

    judged : Check → Out
    judged k = judge k (λ r. (concluded h (Err salvaged.BadShape), (t, (g, (report, list))))) (go_over_of h t g report list)

    R : Out → Type 0
    R =
        If◌Then◌Else◌ ((length report / 3 < length xs / 3) ⊎ (length list < length cs)) (Is (concluded h (Err salvaged.ReportFull), (t, (g, (report, list)))))
        (Is (concluded h (Ok ((length xs / 3), (length cs))), (u, (v, (over xs report, over cs list)))))

    Q : Out → Type 0
    Q =
        If◌Then◌Else◌ (length g ≢ h.headers) (Is (concluded h (Err salvaged.BadShape), (t, (g, (report, list)))))
        (With (Mends h.next t) λ u.
        With (MendsBytes g) λ v.
        With (Changes 0 t u) λ x.
        With (Changes (3 * (h.headers * h.buckets)) g v) λ y.
        With (LeftHeld h.next (h.headers * h.buckets) 0 u) λ cs.
        If◌Then◌Else◌ ((length report / 3 < length (x ++ y) / 3) ⊎ (length list < length cs)) (Is (concluded h (Err salvaged.ReportFull), (t, (g, (report, list)))))
        (Is (concluded h (Ok ((length (x ++ y) / 3), (length cs))), (u, (v, (over (x ++ y) report, over cs list))))))

    P : Out → Type 0
    P = If◌Then◌Else◌ (Shape h (length t) → ⊥) (Is (concluded h (Err salvaged.BadShape), (t, (g, (report, list))))) Q

-- ---- one answer only

mends_same : (next : ℕ) (t : List ℕ) → Same (Mends next t) (Mends next t)
unfolding Mends
mends_same next [] = is_same
mends_same next (b ∷ []) = is_same
mends_same next (b ∷ o ∷ []) = is_same
mends_same next (b ∷ o ∷ n ∷ t) = with_same (mends_same next t) (λ u. if_same is_same is_same)

bytes_same : (g : List ℕ) → Same (MendsBytes g) (MendsBytes g)
unfolding MendsBytes
bytes_same [] = is_same
bytes_same (b ∷ g) = with_same (bytes_same g) (λ u. if_same is_same is_same)

changes_same : (place : ℕ) (old new : List ℕ) → Same (Changes place old new) (Changes place old new)
unfolding Changes
changes_same place [] new = is_same
changes_same place (a ∷ old) [] = is_same
changes_same place (a ∷ old) (b ∷ new) = with_same (changes_same (place + 1) old new) (λ cs. if_same is_same is_same)

left_same : (next left c : ℕ) (t : List ℕ) → Same (LeftHeld next left c t) (LeftHeld next left c t)
unfolding LeftHeld
left_same next zero c t = is_same
left_same next (suc left) c t = with_same (left_same next left (c + 1) t) (λ cs. if_same is_same is_same)

pub no_other_salvage : (f : Salvager) → SalvagesArena f → (h : Head) (t g report list : List ℕ) → f h t g report list ≡ salvage_of h t g report list
no_other_salvage f s h t g report list =
    if_same is_same (if_same is_same (with_same (mends_same h.next t) (λ u. with_same (bytes_same g) (λ v. with_same (changes_same 0 t u) (λ x.
    with_same (changes_same (3 * (h.headers * h.buckets)) g v) (λ y. with_same (left_same h.next (h.headers * h.buckets) 0 u) (λ cs. if_same is_same is_same))))))) _ _
    (s h t g report list) (salvages h t g report list)
