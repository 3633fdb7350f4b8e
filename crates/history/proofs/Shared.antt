-- The sorted call, key by key: the place of a key's cell in the sorted list, and the lease that the key is handed back. Document 02, L4: "hand back
-- one lease per key in the caller's order, doubled keys sharing one."
-- ---- a strictly rising list, by its places
use Rattle.std.specs.Prelude.{ℕ, zero, suc, ◌+◌, ◌*◌, ◌≤◌, ◌<◌, ◌≡◌, refl, List, [], ◌∷◌, Bool, true, false, eqb, length, get_or, if◌then◌else◌}
use Rattle.std.proofs.Common.{sym, ap, ◌∙◌, subst, arith}
use Rattle.std.proofs.Math.Decide.{dec_lt}
use Rattle.std.proofs.Math.Seq.{take-length}
use Rattle.model.specs.Log.{Made}
use Rattle.model.specs.Arena.{holds_of}
use Rattle.model.specs.Lock.{no_hold, hold_at, binding_at, bucket_at}
use Rattle.model.specs.Checks.{count_in}
use Rattle.model.specs.Calls.{given, starting}
use Rattle.model.specs.Sorted.{cell_of_key, cells_from, cells_asked, cells_sorted, first_asking, keys_for, sorted_keys, first_key, hold_on, shared_of, asked_first, handed_back}
use Rattle.types.specs.declared.Answer.{Answer}
use Rattle.types.specs.declared.Answer.TheVariants.{Done, Cell, Granted, AllGranted, Busy, Refused, RefusedAt}
use Rattle.types.specs.declared.Hold.{Hold}
use Rattle.laws.specs.Checks.{lease_in}
use Rattle.laws.specs.Lists.{length_words, words_back}
use Rattle.laws.specs.Sorting.{Rising, is_among, sorted_is, first_asking_lem, stands_at, length_cells, length_keys, keys_among}
use Rattle.history.specs.World.{World}
use Rattle.history.specs.Items.{Says, acquire_locks, acquire_sorted, in_order, any_order, key_cell, perform}
use Rattle.history.specs.Statements.{HandsOver, BufferIs}
use Rattle.history.specs.Tests.{In, in_take, in_index, words_boot}
use Rattle.history.specs.Judged.{judged_at, sorted_locks, performed}
use Rattle.history.proofs.ByKey.{locks_filled}
use Rattle.history.specs.Shared.{cells_in, Whole}

rising_low : (low : ℕ) (xs : List ℕ) → Rising low xs → (j : ℕ) → j < length xs → low ≤ get_or xs j 0
rising_low low [] r j k = absurd (omega arith)
rising_low low (x ∷ xs) r zero k = r.0
rising_low low (x ∷ xs) r (suc j) k = omega (arith, r.0, rising_low (x + 1) xs r.1 j (omega arith))

pub rising_at : (low : ℕ) (xs : List ℕ) → Rising low xs → (i j : ℕ) → i < j → j < length xs → get_or xs i 0 < get_or xs j 0
rising_at low [] r i j l k = absurd (omega arith)
rising_at low (x ∷ xs) r i zero l k = absurd (omega arith)
rising_at low (x ∷ xs) r zero (suc j) l k = omega (arith, rising_low (x + 1) xs r.1 j (omega arith))
rising_at low (x ∷ xs) r (suc i) (suc j) l k = rising_at (x + 1) xs r.1 i j (omega arith) (omega arith)

-- what stands lower stands earlier
pub rising_earlier : (xs : List ℕ) → Rising 0 xs → (i j : ℕ) → i < length xs → j < length xs → get_or xs i 0 < get_or xs j 0 → i < j
rising_earlier xs r i j a b l = go (dec_lt i j) (dec_lt j i)
  where
    go : Dec (i < j) → Dec (j < i) → i < j
    go (yes k) d = k
    go (no k) (yes d) = absurd (omega (arith, rising_at 0 xs r j i d a, l))
    go (no k) (no d) = let e : i ≡ j = omega arith in absurd (omega (arith, ap (λ (n : ℕ). get_or xs n 0) e, l))

-- each place is the first that asks for what stands there
pub rising_place : (xs : List ℕ) → Rising 0 xs → (i : ℕ) → i < length xs → first_asking xs (get_or xs i 0) ≡ i
rising_place xs r i l = go (dec_lt j i) (dec_lt i j)
  where
    j : ℕ
    j = first_asking xs (get_or xs i 0)

    at : (j < length xs) × (get_or xs j 0 ≡ get_or xs i 0)
    at = first_asking_lem (get_or xs i 0) xs (stands_at xs i l)

    go : Dec (j < i) → Dec (i < j) → j ≡ i
    go (yes k) d = absurd (omega (arith, rising_at 0 xs r j i k l, at.1))
    go (no k) (yes d) = absurd (omega (arith, rising_at 0 xs r i j d at.0, at.1))
    go (no k) (no d) = omega arith

-- ---- the cells asked for, and the sorted keys

asked_from : (n p buckets : ℕ) (registry keys : List ℕ) (i : ℕ) → i < n → get_or (cells_from n p buckets registry keys) i 0 ≡ cell_of_key buckets registry keys (p + i)
unfolding cells_from
asked_from zero p buckets registry keys i l = absurd (omega arith)
asked_from (suc n) p buckets registry keys zero l = let e : p ≡ p + 0 = omega arith in ap (cell_of_key buckets registry keys) e
asked_from (suc n) p buckets registry keys (suc i) l =
    let e : p + 1 + i ≡ p + suc i = omega arith in
    asked_from n (p + 1) buckets registry keys i (omega arith) ∙ ap (cell_of_key buckets registry keys) e

for_bucket : (keys asked cs : List ℕ) (i : ℕ) → i < length cs → bucket_at (keys_for keys asked cs) i ≡ bucket_at keys (first_asking asked (get_or cs i 0))
unfolding keys_for
for_bucket keys asked [] i l = absurd (omega arith)
for_bucket keys asked (c ∷ cs) zero l = refl
for_bucket keys asked (c ∷ cs) (suc i) l = let e : 2 * suc i + 1 ≡ suc (suc (2 * i + 1)) = omega arith in rw e (for_bucket keys asked cs i (omega arith))

module _ (buckets : ℕ) (registry keys : List ℕ) where
  abbrev pub asked_cells : List ℕ
  asked_cells = cells_asked buckets registry keys

  abbrev pub sorted_cells : List ℕ
  sorted_cells = cells_sorted buckets registry keys

  abbrev pub chosen_keys : List ℕ
  chosen_keys = sorted_keys buckets registry keys

  pub asked_length : length asked_cells ≡ count_in keys
  asked_length = length_cells (count_in keys) 0 buckets registry keys

  pub asked_at : (p : ℕ) → p < count_in keys → get_or asked_cells p 0 ≡ key_cell buckets registry keys p
  asked_at p l = let e : 0 + p ≡ p = omega arith in asked_from (count_in keys) 0 buckets registry keys p l ∙ ap (key_cell buckets registry keys) e

  pub sorted_few : length sorted_cells ≤ count_in keys
  sorted_few = omega (arith, (sorted_is asked_cells).short, asked_length)

  -- "a strictly rising list"
  pub sorted_rises : Rising 0 sorted_cells
  sorted_rises = (sorted_is asked_cells).rises

  -- a key for each of its cells
  pub chosen_length : length chosen_keys ≡ 2 * length sorted_cells
  chosen_length = length_keys keys asked_cells sorted_cells

  pub chosen_count : count_in chosen_keys ≡ length sorted_cells
  chosen_count = omega (arith, chosen_length)

  -- the first position that asks for a sorted cell
  abbrev pub first_place : ℕ → ℕ
  first_place i = first_asking asked_cells (get_or sorted_cells i 0)

  pub first_place_at : (i : ℕ) → i < length sorted_cells → (first_place i < count_in keys) × (key_cell buckets registry keys (first_place i) ≡ get_or sorted_cells i 0)
  first_place_at i l =
      let c = get_or sorted_cells i 0 in
      let f = first_asking_lem c asked_cells (sym ((sorted_is asked_cells).members c) ∙ stands_at sorted_cells i l) in
      let b : first_place i < count_in keys = omega (arith, f.0, asked_length) in
      (b, sym (asked_at (first_place i) b) ∙ f.1)

  -- the key chosen for a sorted cell names that cell
  pub chosen_cell : (i : ℕ) → i < length sorted_cells → key_cell buckets registry chosen_keys i ≡ get_or sorted_cells i 0
  chosen_cell i l =
      let b = keys_among keys asked_cells sorted_cells i l in
      let k = for_bucket keys asked_cells sorted_cells i l in
      rw (b, k) (first_place_at i l).1

  pub chosen_binding : (i : ℕ) → i < length sorted_cells → binding_at chosen_keys i ≡ binding_at keys (first_place i)
  chosen_binding i l = keys_among keys asked_cells sorted_cells i l

  pub chosen_bucket : (i : ℕ) → i < length sorted_cells → bucket_at chosen_keys i ≡ bucket_at keys (first_place i)
  chosen_bucket i l = for_bucket keys asked_cells sorted_cells i l

  -- "exactly the cells asked for": the place of a key's cell in the sorted list
  abbrev pub sorted_place : ℕ → ℕ
  sorted_place p = first_asking sorted_cells (key_cell buckets registry keys p)

  pub sorted_place_at : (p : ℕ) → p < count_in keys → (sorted_place p < length sorted_cells) × (get_or sorted_cells (sorted_place p) 0 ≡ key_cell buckets registry keys p)
  sorted_place_at p l =
      let c = key_cell buckets registry keys p in
      let asks : is_among c asked_cells ≡ true = subst (λ (d : ℕ). is_among d asked_cells ≡ true) (asked_at p l) (stands_at asked_cells p (omega (arith, asked_length, l))) in
      first_asking_lem c sorted_cells ((sorted_is asked_cells).members c ∙ asks)

  pub sorted_place_of : (i : ℕ) → i < length sorted_cells → sorted_place (first_place i) ≡ i
  sorted_place_of i l = ap (first_asking sorted_cells) (first_place_at i l).1 ∙ rising_place sorted_cells sorted_rises i l

-- the lease on a cell stands at the first place that has the cell
on_place : (ls : List Hold) (c : ℕ) → hold_on ls c ≡ hold_at ls (first_asking (cells_in ls) c)
unfolding hold_on first_asking
on_place [] c = refl
on_place (l ∷ ls) c = go (eqb l.cell c) (on_place ls c)
  where
    go : (b : Bool) → hold_on ls c ≡ hold_at ls (first_asking (cells_in ls) c) → (if b then l else hold_on ls c) ≡ hold_at (l ∷ ls) (if b then 0 else suc (first_asking (cells_in ls) c))
    go true e = refl
    go false e = e

cells_are : (ls : List Hold) (cs : List ℕ) → length ls ≡ length cs → ((i : ℕ) → i < length cs → (hold_at ls i).cell ≡ get_or cs i 0) → cells_in ls ≡ cs
cells_are [] [] n f = refl
cells_are [] (c ∷ cs) n f = absurd (omega arith)
cells_are (l ∷ ls) [] n f = absurd (omega arith)
cells_are (l ∷ ls) (c ∷ cs) n f =
    let a : l.cell ≡ c = f 0 (omega arith) in
    let b : cells_in ls ≡ cs = cells_are ls cs (omega arith) (λ i k. f (suc i) (omega arith)) in
    rw (a, b)

shared_many : (ls : List Hold) (cs : List ℕ) → length (shared_of ls cs) ≡ length cs
unfolding shared_of
shared_many ls [] = refl
shared_many ls (c ∷ cs) = ap suc (shared_many ls cs)

shared_at : (ls : List Hold) (cs : List ℕ) (p : ℕ) → p < length cs → hold_at (shared_of ls cs) p ≡ hold_on ls (get_or cs p 0)
unfolding shared_of
shared_at ls [] p l = absurd (omega arith)
shared_at ls (c ∷ cs) zero l = refl
shared_at ls (c ∷ cs) (suc p) l = shared_at ls cs p (omega arith)

holds_equal_all : (ls ks : List Hold) → length ls ≡ length ks → ((i : ℕ) → i < length ls → hold_at ls i ≡ hold_at ks i) → ls ≡ ks
holds_equal_all [] [] n f = refl
holds_equal_all [] (k ∷ ks) n f = absurd (omega arith)
holds_equal_all (l ∷ ls) [] n f = absurd (omega arith)
holds_equal_all (l ∷ ls) (k ∷ ks) n f =
    let a : l ≡ k = f 0 (omega arith) in
    let b : ls ≡ ks = holds_equal_all ls ks (omega arith) (λ i j. f (suc i) (omega arith)) in
    rw (a, b)

pub in_place : (ls : List Hold) (i : ℕ) → i < length ls → In ls (hold_at ls i)
in_place ls i l = subst (λ (x : List Hold). In x (hold_at ls i)) (take-length ls) (in_take ls (length ls) i no_hold l l)

-- ---- what is handed back

-- one lease per key, from the leases of the distinct cells
pub record HandedBack (buckets : ℕ) (registry keys : List ℕ) (leases back : List Hold) : Type 0 where
  pub many : length leases ≡ length (cells_sorted buckets registry keys)
  pub own : (i : ℕ) → i < length (cells_sorted buckets registry keys) → (hold_at leases i).cell ≡ get_or (cells_sorted buckets registry keys) i 0
  pub as_many : length back ≡ count_in keys
  pub each : (p : ℕ) → p < count_in keys → hold_at back p ≡ hold_at leases (sorted_place buckets registry keys p)

module _ (buckets : ℕ) (registry keys : List ℕ) where
  pub handed_back_lem : (ls : List Hold) → length ls ≡ length (sorted_cells buckets registry keys)
      → ((i : ℕ) → i < length (sorted_cells buckets registry keys) → (hold_at ls i).cell ≡ get_or (sorted_cells buckets registry keys) i 0)
      → HandedBack buckets registry keys ls (shared_of ls (asked_cells buckets registry keys))
  handed_back_lem ls n own =
      record {
        many = n;
        own = own;
        as_many = shared_many ls (asked_cells buckets registry keys) ∙ asked_length buckets registry keys;
        each = λ p l.
            shared_at ls (asked_cells buckets registry keys) p (omega (arith, asked_length buckets registry keys, l)) ∙ ap (hold_on ls) (asked_at buckets registry keys p l)
            ∙ on_place ls (key_cell buckets registry keys p) ∙ ap (λ (cs : List ℕ). hold_at ls (first_asking cs (key_cell buckets registry keys p))) (cells_are ls (sorted_cells buckets registry keys) n own);
      }

  module _ {leases back : List Hold} (h : HandedBack buckets registry keys leases back) where
    -- nothing is made up, and nothing is lost
    back_among : (l : Hold) → In back l → In leases l
    back_among l i =
        let x = in_index back l no_hold i in
        let p : x.0 < count_in keys = omega (arith, x.1, h.as_many) in
        let q = sorted_place_at buckets registry keys x.0 p in
        subst (In leases) (sym (x.2 ∙ h.each x.0 p)) (in_place leases (sorted_place buckets registry keys x.0) (omega (arith, q.0, h.many)))

    among_back : (l : Hold) → In leases l → In back l
    among_back l i =
        let x = in_index leases l no_hold i in
        let b : x.0 < length (sorted_cells buckets registry keys) = omega (arith, x.1, h.many) in
        let f = first_place_at buckets registry keys x.0 b in
        let e = h.each (first_place buckets registry keys x.0) f.0 ∙ ap (hold_at leases) (sorted_place_of buckets registry keys x.0 b) in
        subst (In back) (e ∙ sym x.2) (in_place back (first_place buckets registry keys x.0) (omega (arith, f.0, h.as_many)))

    -- a key's lease is on the key's own cell
    pub back_own : (p : ℕ) → p < count_in keys → (hold_at back p).cell ≡ key_cell buckets registry keys p
    back_own p l =
        let q = sorted_place_at buckets registry keys p l in
        ap (λ (x : Hold). x.cell) (h.each p l) ∙ h.own (sorted_place buckets registry keys p) q.0 ∙ q.1

    -- of each cell once, in rising order, they are the leases again
    pub back_once : shared_of back (sorted_cells buckets registry keys) ≡ leases
    back_once = holds_equal_all (shared_of back sorted) leases (shared_many back sorted ∙ sym h.many) (λ i l. at i (omega (arith, shared_many back sorted, l)))
      where
        sorted : List ℕ
        sorted = sorted_cells buckets registry keys

        asked : List ℕ
        asked = asked_cells buckets registry keys

        -- the cells of what is handed back are those asked for
        cells : cells_in back ≡ asked
        cells =
            cells_are back asked (h.as_many ∙ sym (asked_length buckets registry keys))
            (λ p l. let k : p < count_in keys = omega (arith, asked_length buckets registry keys, l) in back_own p k ∙ sym (asked_at buckets registry keys p k))

        at : (i : ℕ) → i < length sorted → hold_at (shared_of back sorted) i ≡ hold_at leases i
        at i l =
            shared_at back sorted i l ∙ on_place back (get_or sorted i 0) ∙ ap (λ (cs : List ℕ). hold_at back (first_asking cs (get_or sorted i 0))) cells
            ∙ h.each (first_place buckets registry keys i) (first_place_at buckets registry keys i l).0 ∙ ap (hold_at leases) (sorted_place_of buckets registry keys i l)

-- ---- of the call's steps

module _ (w : World) (registry script : List ℕ) (place : ℕ) (held keys grants : List ℕ) where
  abbrev inner_answer : Answer
  inner_answer = (sorted_locks w registry script place held keys grants).seen.0.answer

  abbrev inner_buffer : List ℕ
  inner_buffer = (sorted_locks w registry script place held keys grants).seen.1.1.1

  pub steps_hand_back : inner_answer ≡ AllGranted
      → HandedBack w.head.buckets registry keys (holds_of inner_buffer) (holds_of (handed_back w.head.boot AllGranted (cells_asked w.head.buckets registry keys) inner_buffer))
  steps_hand_back a =
      let b = w.head.buckets in
      let n = length (sorted_cells b registry keys) in
      let f = locks_filled b w.head.boot registry (chosen_keys b registry keys) n n 0 (omega arith) (given w.head script (holds_of held)) [] (starting w.head place) w.table w.health grants refl
      (λ i x. absurd (omega arith)) a in
      rw (words_back w.head.boot (shared_of (holds_of inner_buffer) (asked_cells b registry keys)))
      (handed_back_lem b registry keys (holds_of inner_buffer) f.many (λ i l. f.filled i l ∙ chosen_cell b registry keys i l))

  -- what the caller is handed is what the steps hand over
  pub handed_inner : (l : Hold)
      → HandsOver (asked_first inner_answer (cells_asked w.head.buckets registry keys) (cells_sorted w.head.buckets registry keys)) (handed_back w.head.boot inner_answer (cells_asked w.head.buckets registry keys) inner_buffer) l
      → HandsOver inner_answer inner_buffer l
  handed_inner l = go inner_answer (λ e. back_among w.head.buckets registry keys (steps_hand_back e) l)
    where
      go : (a : Answer) → (a ≡ AllGranted → In (holds_of (handed_back w.head.boot AllGranted (cells_asked w.head.buckets registry keys) inner_buffer)) l → In (holds_of inner_buffer) l)
          → HandsOver (asked_first a (cells_asked w.head.buckets registry keys) (cells_sorted w.head.buckets registry keys)) (handed_back w.head.boot a (cells_asked w.head.buckets registry keys) inner_buffer) l
          → HandsOver a inner_buffer l
      go Done f x = x
      go (Cell c) f x = x
      go (Granted k) f x = x
      go AllGranted f x = f refl x
      go (Busy why) f x = x
      go (Refused r) f x = x
      go (RefusedAt r p) f x = x

  pub inner_handed : (l : Hold) → HandsOver inner_answer inner_buffer l
      → HandsOver (asked_first inner_answer (cells_asked w.head.buckets registry keys) (cells_sorted w.head.buckets registry keys)) (handed_back w.head.boot inner_answer (cells_asked w.head.buckets registry keys) inner_buffer) l
  inner_handed l = go inner_answer (λ e. among_back w.head.buckets registry keys (steps_hand_back e) l)
    where
      go : (a : Answer) → (a ≡ AllGranted → In (holds_of inner_buffer) l → In (holds_of (handed_back w.head.boot AllGranted (cells_asked w.head.buckets registry keys) inner_buffer)) l)
          → HandsOver a inner_buffer l
          → HandsOver (asked_first a (cells_asked w.head.buckets registry keys) (cells_sorted w.head.buckets registry keys)) (handed_back w.head.boot a (cells_asked w.head.buckets registry keys) inner_buffer) l
      go Done f x = x
      go (Cell c) f x = x
      go (Granted k) f x = x
      go AllGranted f x = f refl x
      go (Busy why) f x = x
      go (Refused r) f x = x
      go (RefusedAt r p) f x = x

-- only a granted lock is a granted call
pub all_inner : (asked sorted : List ℕ) (x : Answer) → asked_first x asked sorted ≡ AllGranted → x ≡ AllGranted
all_inner asked sorted Done e = e
all_inner asked sorted (Cell c) e = e
all_inner asked sorted (Granted l) e = e
all_inner asked sorted AllGranted e = e
all_inner asked sorted (Busy why) e = e
all_inner asked sorted (Refused r) e = e
all_inner asked sorted (RefusedAt r p) e = let z : ◌≡◌ {A = ℕ} 0 1 = cc in absurd (omega arith)

pub buffers_name : BufferIs perform
buffers_name w k _ _ (in_order registry script place held keys grants) =
    performed (Whole w registry keys) w (acquire_locks registry script place held keys grants) (λ r a. let z : ◌≡◌ {A = ℕ} 0 1 = cc in absurd (omega arith))
    (λ _ a.
    let f = locks_filled w.head.buckets w.head.boot registry keys (count_in keys) (count_in keys) 0 (omega arith) (given w.head script (holds_of held)) [] (starting w.head place) w.table w.health grants refl
    (λ i x. absurd (omega arith)) a in
    (f.long, f.filled, f.boot_is))
buffers_name w k _ _ (any_order registry script place held keys grants) =
    performed (Whole w registry keys) w (acquire_sorted registry script place held keys grants) (λ r a. let z : ◌≡◌ {A = ℕ} 0 1 = cc in absurd (omega arith))
    (λ _.
    judged_at (Whole w registry keys) (first_key (count_in keys) 0 w.head registry keys) (λ r p _ a. let z : ◌≡◌ {A = ℕ} 0 1 = cc in absurd (omega arith))
    (λ _ a. go (sorted_locks w registry script place held keys grants).seen.0.answer (all_inner _ _ _ a) (steps_hand_back w registry script place held keys grants)))
  where
    asked : List ℕ
    asked = cells_asked w.head.buckets registry keys

    buffer : List ℕ
    buffer = (sorted_locks w registry script place held keys grants).seen.1.1.1

    -- as many as keys
    many : HandedBack w.head.buckets registry keys (holds_of buffer) (holds_of (handed_back w.head.boot AllGranted asked buffer))
        → length (shared_of (holds_of buffer) asked) ≡ count_in keys
    many b = sym (ap length (words_back w.head.boot (shared_of (holds_of buffer) asked))) ∙ b.as_many

    go : (x : Answer) → x ≡ AllGranted → (x ≡ AllGranted → HandedBack w.head.buckets registry keys (holds_of buffer) (holds_of (handed_back w.head.boot AllGranted asked buffer)))
        → (length (handed_back w.head.boot x asked buffer) ≡ 3 * count_in keys)
        × ((p : ℕ) → p < count_in keys → (hold_at (holds_of (handed_back w.head.boot x asked buffer)) p).cell ≡ key_cell w.head.buckets registry keys p)
        × ((p : ℕ) → p < count_in keys → (lease_in (handed_back w.head.boot x asked buffer) p).boot ≡ w.head.boot)
    go x e h =
        let b = h e in
        rw e (
          omega (arith, length_words w.head.boot (shared_of (holds_of buffer) asked), many b),
          back_own w.head.buckets registry keys b,
          λ p l. words_boot w.head.boot (shared_of (holds_of buffer) asked) p (omega (arith, many b)),
        )
