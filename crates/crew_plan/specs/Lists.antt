-- Laws of the lent lists: one turn and the end of each recursion over them.
use Rattle.std.specs.Prelude.{ℕ, suc, ◌+◌, ◌-◌, ◌≤◌, ◌<◌, ◌≡◌, refl, List, [], ◌∷◌, Bool, true, false, ◌&&◌, ltb, leb, length, get_or, sum, take, drop, Ok, Err}
use Rattle.std.proofs.Math.Bool.{and-true}
use Rattle.std.proofs.Common.{sym, ap, ◌∙◌, arith, le-leb, drop_of_length-le, leb-true}
use Rattle.std.proofs.lemmas.Bool.{lt-leb}
use Rattle.std.proofs.lemmas.List.Sums.{sum_by_from}
use Rattle.choice.specs.Pick.{both}
use Rattle.model.specs.Refusals.{first}
use Rattle.model.specs.Crew.{total, start_of, list_of, all_within, rises_from, bad_lists, bad_turns}
use Rattle.types.specs.declared.Refusal.TheVariants.{BadCrew}
use Rattle.laws.specs.Lists.{drop_one}

-- ---- counts

-- the scan goes on behind a number
pub within_more : (fit : Bool) (most : ℕ) (l : List ℕ) (i : ℕ) → i < length l
    → (fit && leb (get_or l i 0) most && all_within most (drop (i + 1) l)) ≡ (fit && all_within most (drop i l))
unfolding all_within
within_more true most l i b = rw (drop_one l i b)
within_more false most l i b = refl

pub within_end : (fit : Bool) (most : ℕ) (l : List ℕ) (i : ℕ) → length l ≤ i → (fit && all_within most (drop i l)) ≡ fit
unfolding all_within
within_end fit most l i b = rw (drop_of_length-le l b) (and-true fit)

pub ruleset scanning = (within_more, within_end)

zero_first : (n k : ℕ) → 0 + n + k ≡ n + k
zero_first n k = omega arith

-- the counts' total is the library's sum
pub total_sum : (l : List ℕ) → total l ≡ sum l
unfolding total
total_sum [] = refl
total_sum (n ∷ l) = sym (sum_by_from (λ (x : ℕ). x) (0 + n) l ∙ ap (λ (k : ℕ). 0 + n + k) (sym (total_sum l)) ∙ zero_first n (total l))

-- ---- one member's list

pub rises_at : (inside low : ℕ) (list : List ℕ) (i : ℕ) → i < length list
    → rises_from inside low (drop i list)
    ≡ (leb low (get_or list i 0) && ltb (get_or list i 0) inside && rises_from inside (get_or list i 0 + 1) (drop (i + 1) list))
unfolding rises_from
rises_at inside low list i b = rw (drop_one list i b)

pub rises_end : (inside low : ℕ) (list : List ℕ) (i : ℕ) → length list ≤ i → rises_from inside low (drop i list) ≡ true
unfolding rises_from
rises_end inside low list i b = rw (drop_of_length-le list b)

pub ruleset rising = (rises_at, rises_end)

-- ---- the rules on lists and on turns

-- what code cuts out for member m, from where its list starts to where it ends
listed : (counts cells : List ℕ) (start m : ℕ) → start ≡ start_of counts m → take (start + get_or counts m 0 - start) (drop start cells) ≡ list_of counts cells m
listed counts cells start m s = let e : start + get_or counts m 0 - start ≡ get_or counts m 0 = omega arith in rw (e, s)

pub lists_all : (inside : ℕ) (counts cells : List ℕ) → first (bad_lists (length counts - 0) 0 inside counts cells) ≡ first (bad_lists (length counts) 0 inside counts cells)
lists_all inside counts cells = let e : length counts - 0 ≡ length counts = omega arith in rw e

pub lists_hit : (m inside : ℕ) (counts cells : List ℕ) (start : ℕ) → start ≡ start_of counts m → m < length counts
    → rises_from inside 0 (take (start + get_or counts m 0 - start) (drop start cells)) ≡ false
    → first (bad_lists (length counts - m) m inside counts cells) ≡ Err (BadCrew m)
unfolding first bad_lists
lists_hit m inside counts cells start s l r =
    let e : length counts - m ≡ suc (length counts - (m + 1)) = omega arith in
    rw (e, rw (listed counts cells start m s) at r)

pub lists_pass : (m inside : ℕ) (counts cells : List ℕ) (start : ℕ) → start ≡ start_of counts m → m < length counts
    → rises_from inside 0 (take (start + get_or counts m 0 - start) (drop start cells)) ≡ true
    → first (bad_lists (length counts - m) m inside counts cells) ≡ first (bad_lists (length counts - (m + 1)) (m + 1) inside counts cells)
unfolding first bad_lists
lists_pass m inside counts cells start s l r =
    let e : length counts - m ≡ suc (length counts - (m + 1)) = omega arith in
    rw (e, rw (listed counts cells start m s) at r)

pub lists_end : (n m inside : ℕ) (counts cells : List ℕ) → n ≤ m → first (bad_lists (n - m) m inside counts cells) ≡ Ok tt
unfolding first bad_lists
lists_end n m inside counts cells l = let e : n - m ≡ 0 = omega arith in rw e

pub turns_hit : (members i : ℕ) (turns : List ℕ) → i < length turns → members ≤ get_or turns i 0 → first (bad_turns members i (drop i turns)) ≡ Err (BadCrew i)
unfolding first bad_turns
turns_hit members i turns b l = rw (drop_one turns i b, le-leb _ _ l)

pub turns_pass : (members i : ℕ) (turns : List ℕ) → i < length turns → get_or turns i 0 < members
    → first (bad_turns members i (drop i turns)) ≡ first (bad_turns members (i + 1) (drop (i + 1) turns))
unfolding first bad_turns
turns_pass members i turns b l = rw (drop_one turns i b, lt-leb _ _ l)

pub turns_end : (members i : ℕ) (turns : List ℕ) → length turns ≤ i → first (bad_turns members i (drop i turns)) ≡ Ok tt
unfolding first bad_turns
turns_end members i turns b = rw (drop_of_length-le turns b)

pub ruleset straying = (turns_hit, turns_pass, turns_end)

pub ruleset listing = (lists_all, lists_hit, lists_pass, lists_end)

-- turns that all keep below the number of members name one each
pub turns_within : (members i : ℕ) (turns : List ℕ) → 1 ≤ members → all_within (members - 1) turns ≡ true → first (bad_turns members i turns) ≡ Ok tt
unfolding first bad_turns all_within
turns_within members i [] some e = refl
turns_within members i (m ∷ ms) some e =
    let b = both (leb m (members - 1)) (all_within (members - 1) ms) e in
    rw (lt-leb members m (omega (arith, leb-true m (members - 1) b.0))) (turns_within members (i + 1) ms some b.1)
