-- Laws of putting text: text behind text, a form's next byte.
use Rattle.std.specs.Prelude.{ℕ, ◌+◌, ◌-◌, ◌*◌, ◌≤◌, ◌<◌, ◌≡◌, refl, List, [], ◌∷◌, ◌++◌, eqb, length, set, suc, get_or, take, drop}
use Rattle.std.proofs.Common.{add-one, ap, ◌∙◌, append_assoc, arith, length-append, drop_of_length-le}
use Rattle.std.proofs.lemmas.List.Edits.{sets, sets-eq}
use Rattle.std.proofs.lemmas.List.{drop-drop}
use Rattle.choice.specs.Pick.{if_both}
use Rattle.choice.specs.Lists.{drop_one, sets_sets}
use Rattle.text.specs.Decimal.{length_decimal, digit_count_most}
use Rattle.print.specs.Print.{put_of, piece_of, after_of, form_from, form_of}

-- ---- bytes

-- nothing put
pub put_none : (l : List ℕ) (i : ℕ) → (i, l) ≡ put_of l i []
unfolding put_of
put_none l i = let e : i + 0 ≡ i = omega arith in rw e

-- text behind text
pub put_join : (l m k : List ℕ) (i j h : ℕ) (x y : List ℕ) → (j, m) ≡ put_of l i x → (h, k) ≡ put_of m j y → (h, k) ≡ put_of l i (x ++ y)
unfolding put_of
put_join l m k i j h x y e f =
    let p : j ≡ i + length x = ap (λ (o : ℕ × List ℕ). o.0) e in
    let q : m ≡ sets l i x = ap (λ (o : ℕ × List ℕ). o.1) e in
    let r : i + length x + length y ≡ i + length (x ++ y) = omega (arith, length-append x y) in
    f ∙ rw (p, q, r, sets_sets l x y i)

-- the first of two texts is put, and the second is left to put
pub put_first : (l m : List ℕ) (i j : ℕ) (x y : List ℕ) → (j, m) ≡ put_of l i x → put_of m j y ≡ put_of l i (x ++ y)
put_first l m i j x y e = put_join l m (put_of m j y).1 i j (put_of m j y).0 x y e refl

-- one byte more
pub put_more : (l : List ℕ) (i b : ℕ) (x : List ℕ) → put_of (set l i b) (i + 1) x ≡ put_of l i (b ∷ x)
unfolding put_of
put_more l i b x = let e : i + 1 + length x ≡ i + suc (length x) = omega arith in rw (e, add-one i)

-- text copied over a part of the run
pub put_whole : (l text part : List ℕ) (i : ℕ) → i + length text ≤ length l → part ≡ text
    → (i + length text, take i l ++ (part ++ drop (i + length text - i) (drop i l))) ≡ put_of l i text
unfolding put_of
put_whole l text part i h e =
    let n : i + length text - i ≡ length text = omega arith in
    rw (sets-eq text l i h, append_assoc (take i l) text (drop (i + length text) l), e, n, drop-drop (length text) i l)

-- where it ends
pub put_place : (l m : List ℕ) (i j : ℕ) (x : List ℕ) → (j, m) ≡ put_of l i x → j ≡ i + length x
unfolding put_of
put_place l m i j x e = ap (λ (o : ℕ × List ℕ). o.0) e

-- ---- forms

pub piece_few : (numbers : List ℕ) (k b : ℕ) → length (piece_of numbers k b) ≤ 20
unfolding piece_of
piece_few numbers k b =
    if_both (λ (l : List ℕ). length l ≤ 20) (eqb b 35) (omega (arith, length_decimal (get_or numbers k 0), digit_count_most (get_or numbers k 0))) (omega arith)

pub after_next : (k b : ℕ) → after_of k b ≤ k + 1
unfolding after_of
after_next k b = if_both (λ (n : ℕ). n ≤ k + 1) (eqb b 35) (omega arith) (omega arith)

form_at : (numbers form : List ℕ) (k i : ℕ) → i < length form
    → form_from numbers k (drop i form) ≡ piece_of numbers k (get_or form i 0) ++ form_from numbers (after_of k (get_or form i 0)) (drop (i + 1) form)
unfolding form_from
form_at numbers form k i h = rw (drop_one form i h)

-- a byte's piece is put, and the rest of the form is left to put
pub form_turn : (l m numbers form : List ℕ) (i j k n : ℕ) → n < length form → (j, m) ≡ put_of l i (piece_of numbers k (get_or form n 0))
    → put_of m j (form_from numbers (after_of k (get_or form n 0)) (drop (n + 1) form)) ≡ put_of l i (form_from numbers k (drop n form))
form_turn l m numbers form i j k n h e = rw (form_at numbers form k n h) (put_first l m i j (piece_of numbers k (get_or form n 0)) _ e)

pub form_end : (l numbers form : List ℕ) (i k n : ℕ) → length form ≤ n → (i, l) ≡ put_of l i (form_from numbers k (drop n form))
unfolding form_from
form_end l numbers form i k n h = rw (drop_of_length-le form h) (put_none l i)

form_few : (numbers : List ℕ) (k : ℕ) (form : List ℕ) → length (form_from numbers k form) ≤ 20 * length form
unfolding form_from
form_few numbers k [] = omega arith
form_few numbers k (b ∷ form) = omega (arith, length-append (piece_of numbers k b) (form_from numbers (after_of k b) form), piece_few numbers k b, form_few numbers (after_of k b) form)

pub form_size : (form numbers : List ℕ) → length (form_of form numbers) ≤ 20 * length form
unfolding form_of
form_size form numbers = form_few numbers 0 form
