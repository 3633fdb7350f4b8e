-- What a salvage that is done has given.
use Rattle.std.specs.Prelude.{ℕ, ◌+◌, ◌*◌, ◌/◌, ◌≤◌, List, ◌++◌, true, ltb, Ok, Err}
use Rattle.std.proofs.Math.Path.{◌≡◌, sym, ap}
use Rattle.std.proofs.Common.{◌∙◌}
use native.Mathlib.Omega.{arith}
use Rattle.std.proofs.Math.ListN.{length}
use Rattle.types.specs.declared.SalvageRefusal.TheVariants.{BadShape, ReportFull}
use borrow.Author.Tests.{ltb-false}
use Rattle.choice.specs.Pick.{both, neither}
use Rattle.model.specs.Arena.{cells_of, shape_fits, health_fits}
use Rattle.model.specs.Salvage.{Salvage, mended_table, mended_health, changes_from, changes_of, entries_of, left_held, over_of, is_report_full, mend_of, salvage_of}
use Rattle.types.specs.declared.Head.{Head}
use Rattle.laws.specs.Shape.{Shaped, shaped, healthy}
use Rattle.laws.specs.Salvage.{differing, length_mended, entries_are}
use Rattle.history.specs.Salvages.{Came, bad, full, done, came}
use Rattle.salvage_theory.specs.Statements.{answer_in, table_in, health_in, report_in, list_in, fits}
use Rattle.salvage_theory.specs.Report.{changes_join, differing_join}

module _ (h : Head) (t g report list : List ℕ) where
  abbrev made : Salvage
  made = salvage_of h t g report list

  -- how many words the entries take: three for each place whose word differs
  pub words_are : length (changes_of h t g) ≡ 3 * differing (t ++ g) (mended_table h.next t ++ mended_health g)
  words_are =
      entries_are h t g
      ∙ ap (λ (n : ℕ). 3 * n) (sym (differing_join t (mended_table h.next t) g (mended_health g) (sym (length_mended h.next t))))

  -- ---- a salvage that is done

  pub record WasDone (e n : ℕ) : Type 0 where
    pub good : fits h t g ≡ true
    pub shape : Shaped h (length t)
    pub bytes : length g ≡ h.headers
    pub entries : 3 * e ≡ length (changes_of h t g)
    pub cells : n ≡ length (left_held h.next (cells_of h) t)
    pub report_room : 3 * e ≤ length report
    pub list_room : n ≤ length list
    pub table_is : table_in made ≡ mended_table h.next t
    pub health_is : health_in made ≡ mended_health g
    pub report_is : report_in made ≡ over_of (changes_of h t g) report
    pub list_is : list_in made ≡ over_of (left_held h.next (cells_of h) t) list

  pub was_done : (e n : ℕ) → answer_in made ≡ Ok (e, n) → WasDone e n
  unfolding is_report_full mend_of
  was_done e n d = go (came h t g report list)
    where
      go : Came h t g report list → WasDone e n
      go (bad f p) = let q : (Err BadShape) ≡ Ok (e, n) = sym (ap answer_in p) ∙ d in let z : ◌≡◌ {A = ℕ} 0 1 = cc in absurd (omega arith)
      go (full f k p) = let q : (Err ReportFull) ≡ Ok (e, n) = sym (ap answer_in p) ∙ d in let z : ◌≡◌ {A = ℕ} 0 1 = cc in absurd (omega arith)
      go (done f k p) =
          let q : Ok (entries_of h t g, length (left_held h.next (cells_of h) t)) ≡ Ok (e, n) = sym (ap answer_in p) ∙ d in
          let z : ◌≡◌ {A = ℕ × ℕ} (entries_of h t g, length (left_held h.next (cells_of h) t)) (e, n) = cc in
          let x : entries_of h t g ≡ e = ap (λ (z : ℕ × ℕ). z.0) z in
          let y : length (left_held h.next (cells_of h) t) ≡ n = ap (λ (z : ℕ × ℕ). z.1) z in
          let s = both (shape_fits h (length t)) (health_fits h (length g)) f in
          let r = neither (ltb (length report / 3) (entries_of h t g)) (ltb (length list) (length (left_held h.next (cells_of h) t))) k in
          record {
            good = f;
            shape = shaped h (length t) s.0;
            bytes = healthy h (length g) s.1;
            entries = omega (arith, entries_are h t g);
            cells = sym y;
            report_room = omega (arith, ltb-false (length report / 3) (entries_of h t g) r.0, entries_are h t g);
            list_room = omega (arith, ltb-false (length list) (length (left_held h.next (cells_of h) t)) r.1);
            table_is = ap table_in p;
            health_is = ap health_in p;
            report_is = ap report_in p;
            list_is = ap list_in p;
          }

  -- the entries are those of the arena's words, the table's and then the health's
  pub changes_are : length t ≡ 3 * cells_of h → changes_of h t g ≡ changes_from 0 (t ++ g) (mended_table h.next t ++ mended_health g)
  unfolding changes_of
  changes_are l =
      let z : 0 + length t ≡ 3 * cells_of h = omega arith in
      ap (λ (i : ℕ). changes_from 0 t (mended_table h.next t) ++ changes_from i g (mended_health g)) (sym z)
      ∙ sym (changes_join 0 t (mended_table h.next t) g (mended_health g) (sym (length_mended h.next t)))
