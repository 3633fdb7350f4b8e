-- Our calls of the setpoint book do what `Statement` asks, and nothing else does: whatever meets it gives the same answers and leaves the same bytes, for every
-- head, table, book, slot, lease and setpoint. So what is proved of ours holds of it.
use Rattle.std.specs.Prelude.{ℕ, ◌≡◌, true, List, ◌↔◌}
use Rattle.std.proofs.Common.{sym, ap, ◌∙◌, subst}
use Rattle.std.proofs.Math.Path.{fun_ext}
use Rattle.types.specs.declared.Head.{Head}
use Rattle.types.specs.declared.Lease.{Lease}
use Rattle.setpoint.specs.declared.Setpoint.{Setpoint}
use Rattle.book_rules.specs.Layout.{is_sound}
use Rattle.book_rules.proofs.Sound.{sound_is, is_sound_lem}
use Rattle.book_pinned.specs.Statement.{Undamaged, BookBuild, MeetsBook}
use Rattle.book_pinned.specs.Same.{SameBook}
use Rattle.book_pinned.specs.Same as same
use Rattle.book_pinned.specs.Met.{ours}
use Rattle.book_pinned.specs.Met as met
use Rattle.book_pinned.specs.Exactly as exactly
use Rattle.book_pinned.specs.Plain as plain
use Rattle.book_rules.specs.Rules.{BookAnswer}

pub book_meets : MeetsBook ours
book_meets = met.book_meets

-- two builds that meet it answer the same and leave the same bytes
pub one_book : (f g : BookBuild) → MeetsBook f → MeetsBook g → SameBook f g
one_book = same.one_book

pub no_other_book : (f : BookBuild) → MeetsBook f → SameBook f ours
no_other_book f m = same.one_book f ours m met.book_meets

-- so they are the same four functions
book_is_ours : (f : BookBuild) → SameBook f ours → f ≡ ours
book_is_ours f e =
    ap (λ (x : Head → List ℕ → BookAnswer × List ℕ). record { prepare = x; write = f.write; read = f.read; read_version = f.read_version })
    (fun_ext (λ h. fun_ext (λ b. e.prepare h b)))
    ∙ ap (λ (x : Head → List ℕ → List ℕ → ℕ → Lease → Setpoint → BookAnswer × List ℕ).
    record { prepare = ours.prepare; write = x; read = f.read; read_version = f.read_version })
    (fun_ext (λ h. fun_ext (λ t. fun_ext (λ b. fun_ext (λ slot. fun_ext (λ l. fun_ext (λ s. e.write h t b slot l s)))))))
    ∙ ap (λ (x : Head → List ℕ → ℕ → BookAnswer). record { prepare = ours.prepare; write = ours.write; read = x; read_version = f.read_version })
    (fun_ext (λ h. fun_ext (λ b. fun_ext (λ slot. e.read h b slot))))
    ∙ ap (λ (x : Head → List ℕ → ℕ → ℕ → BookAnswer). record { prepare = ours.prepare; write = ours.write; read = ours.read; read_version = x })
    (fun_ext (λ h. fun_ext (λ b. fun_ext (λ slot. fun_ext (λ w. e.read_version h b slot w)))))

pub exactly_our_book : (f : BookBuild) → MeetsBook f ↔ (f ≡ ours)
exactly_our_book f = ((λ m. book_is_ours f (no_other_book f m)), λ e. subst MeetsBook (sym e) book_meets)

-- and what is proved of ours is so of it
pub so_of_any_book : (P : BookBuild → Type 0) → P ours → (f : BookBuild) → MeetsBook f → P f
so_of_any_book P p f m = subst P (sym (book_is_ours f (no_other_book f m))) p

-- a write is done exactly if: any build's that meets it
pub writes_exactly : (f : BookBuild) → MeetsBook f → exactly.WritesExactly f
writes_exactly = exactly.writes_exactly

-- ---- the words of older theorems in plain numbers

pub undamaged_is : (n : ℕ) (b : List ℕ) → (is_sound n b ≡ true) ↔ Undamaged n b
undamaged_is n b = ((λ e. plain.undamaged_there n b (sound_is n b e)), λ u. is_sound_lem n b (plain.undamaged_back n b u))
