-- What a head and lengths that keep the arena's rules have: the facts that steps use in the place of the tests.
use Rattle.std.specs.Prelude.{ℕ, ◌*◌, ◌≤◌, ◌≡◌, true, ◌&&◌, leb, eqb}
use Rattle.std.proofs.Common.{leb-true, eqb-true}
use Rattle.model.specs.Arena.{last_serial, within, cells_of, head_fits, shape_fits, health_fits}
use Rattle.types.specs.declared.Head.{Head}
use Rattle.choice.specs.Pick.{both}

pub record Shaped (h : Head) (words : ℕ) : Type 0 where
  pub some_headers : 1 ≤ h.headers
  pub few_headers : h.headers ≤ 64
  pub some_buckets : 1 ≤ h.buckets
  pub few_buckets : h.buckets ≤ 1024
  pub few_cells : cells_of h ≤ 4096
  pub low : 1 ≤ h.next
  pub high : h.next ≤ last_serial
  pub words_are : words ≡ 3 * cells_of h

inside : (low high n : ℕ) → within low high n ≡ true → (low ≤ n) × (n ≤ high)
inside low high n e = (leb-true low n (both (leb low n) (leb n high) e).0, leb-true n high (both (leb low n) (leb n high) e).1)

pub shaped : (h : Head) (words : ℕ) → shape_fits h words ≡ true → Shaped h words
unfolding head_fits shape_fits
shaped h words e =
    let a = both (head_fits h) (eqb words (3 * cells_of h)) e in
    let b = both (within 1 64 h.headers && within 1 1024 h.buckets && leb (cells_of h) 4096) (within 1 last_serial h.next) a.0 in
    let c = both (within 1 64 h.headers && within 1 1024 h.buckets) (leb (cells_of h) 4096) b.0 in
    let d = both (within 1 64 h.headers) (within 1 1024 h.buckets) c.0 in
    let headers = inside 1 64 h.headers d.0 in
    let buckets = inside 1 1024 h.buckets d.1 in
    let next = inside 1 last_serial h.next b.1 in
    record {
      some_headers = headers.0;
      few_headers = headers.1;
      some_buckets = buckets.0;
      few_buckets = buckets.1;
      few_cells = leb-true _ _ c.1;
      low = next.0;
      high = next.1;
      words_are = eqb-true _ _ a.1;
    }

pub healthy : (h : Head) (bytes : ℕ) → health_fits h bytes ≡ true → bytes ≡ h.headers
unfolding health_fits
healthy h bytes e = eqb-true _ _ e
