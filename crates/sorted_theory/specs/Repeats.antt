-- "To `release_all` the caller hands each lease once, else 14.": the buffer of doubled keys, given to `release_all` as it is, and each lease once.
use Rattle.std.specs.Prelude.{ℕ, zero, suc, ◌+◌, ◌*◌, ◌/◌, ◌%◌, ◌≤◌, ◌<◌, ◌≡◌, refl, Bool, true, not, ◌||◌, eqb, get_or, take, Err}
use Rattle.std.proofs.Common.{sym, ap, ◌∙◌, subst, arith}
use mathlib.Core.List.{List, [], ◌∷◌, ◌++◌, append-nil, append_assoc, map}
use Rattle.std.proofs.Math.Bool.{false}
use Rattle.std.proofs.Math.Decide.{ℕ_discrete}
use Rattle.std.proofs.Math.Dec.{ltb}
use Rattle.std.proofs.Math.ListN.{length}
use borrow.Author.Tests.{ltb-false, le-ltb, eq-eqb}
use Rattle.choice.specs.Pick.{neither}
use Rattle.model.specs.Log.{Made}
use Rattle.model.specs.Arena.{cells_of, is_live, leases_of, holds_of, words_of, is_in, lease_under}
use Rattle.model.specs.Refusals.{first}
use Rattle.model.specs.Lock.{no_hold, hold_at}
use Rattle.model.specs.Checks.{count_in, lease_count, is_odd, too_many_leases, not_live, not_releasable, release_rules, locks_rules}
use Rattle.model.specs.Calls.{release_all_of}
use Rattle.model.specs.Sorted.{shared_of}
use Rattle.types.specs.declared.Answer.TheVariants.{Done, AllGranted, Refused}
use Rattle.types.specs.declared.Head.{Head}
use Rattle.types.specs.declared.Hold.{Hold}
use Rattle.types.specs.declared.Lease.{Lease}
use Rattle.types.specs.declared.Refusal.{Refusal}
use Rattle.types.specs.declared.Refusal.TheVariants.{Repeated}
use Rattle.laws.specs.Lists.{holds_few, length_words}
use Rattle.laws.specs.Checks.{not_stale}
use Rattle.history.specs.World.{World, Live}
use Rattle.history.specs.Items.{Says, acquire_sorted, release_all, any_order, key_cell, perform, Clear, rules}
use Rattle.history.specs.Statements.{answer_in, buffer_in, leaves}
use Rattle.history.specs.Tests.{differ, In, in_take, in_index}
use Rattle.history.specs.Judged.{clear_back, sorted_locks, made_so}
use Rattle.history.proofs.Calls.{call_kept, words_leases}
use Rattle.history.proofs.Shared.{HandedBack, sorted_cells, sorted_few, sorted_rises, rising_at, first_place, first_place_at, sorted_place_of, back_once, buffers_name}
use Rattle.history_exact.specs.Passing.{shape_on, health_on_lem, same_boot}
use Rattle.sorted_theory.specs.Statements.{Doubled, Fourteen, OnceDone}
use Rattle.sorted_theory.specs.Runs.{goes, granted_beyond}
use Rattle.sorted_theory.specs.Granted.{handed_so, words_so, key_shares, each_key_live}

-- ---- the least number that passes a test

least_from : (P : ℕ → Bool) (left i : ℕ) → P (i + left) ≡ true → ((x : ℕ) → x < i → P x ≡ false)
    → (j : ℕ) × (j ≤ i + left) × (P j ≡ true) × ((x : ℕ) → x < j → P x ≡ false)
least_from P zero i e none = (i, omega arith, subst (λ (n : ℕ). P n ≡ true) (let z : i + 0 ≡ i = omega arith in z) e, none)
least_from P (suc left) i e none = go (P i) refl (least_from P left (i + 1))
  where
    Found : ℕ → Type 0
    Found n = (j : ℕ) × (j ≤ n) × (P j ≡ true) × ((x : ℕ) → x < j → P x ≡ false)

    more : P i ≡ false → (x : ℕ) → x < i + 1 → Dec (x ≡ i) → P x ≡ false
    more f x l (yes d) = subst (λ (n : ℕ). P n ≡ false) (sym d) f
    more f x l (no d) = none x (omega arith)

    go : (b : Bool) → P i ≡ b → (P (i + 1 + left) ≡ true → ((x : ℕ) → x < i + 1 → P x ≡ false) → Found (i + 1 + left)) → Found (i + suc left)
    go true f rest = (i, omega arith, f, none)
    go false f rest =
        let z : i + suc left ≡ i + 1 + left = omega arith in
        subst Found (sym z) (rest (subst (λ (n : ℕ). P n ≡ true) z e) (λ x l. more f x l (ℕ_discrete x i)))

-- ---- the first check of `release_all` that applies, where all leases are live and have the head's boot number

named_words : (boot : ℕ) (ls : List Hold) → leases_of (words_of boot ls) ≡ map (lease_under boot) ls
unfolding leases_of words_of
named_words boot [] = refl
named_words boot (l ∷ ls) = ap {B = List Lease} (λ ks. lease_under boot l ∷ ks) (named_words boot ls)

repeated_first : (h : Head) (t : List ℕ) (i : ℕ) (earlier ls : List Hold) → ((x : ℕ) → x < length ls → is_live h.next (cells_of h) t (hold_at ls x) ≡ true)
    → (j : ℕ) → j < length ls → is_in (hold_at ls j) (earlier ++ take j ls) ≡ true → ((x : ℕ) → x < j → is_in (hold_at ls x) (earlier ++ take x ls) ≡ false)
    → first (not_releasable h t i earlier (map (lease_under h.boot) ls)) ≡ Err (Repeated (i + j))
unfolding not_releasable first
repeated_first h t i earlier [] live j b e none = absurd (omega arith)
repeated_first h t i earlier (l ∷ ls) live zero b e none =
    let v : is_live h.next (cells_of h) t l ≡ true = live 0 (omega arith) in
    let f : is_in l earlier ≡ true = subst (λ (ks : List Hold). is_in l ks ≡ true) (append-nil earlier) e in
    let z : i + 0 ≡ i = omega arith in
    rw (not_stale h (lease_under h.boot l) refl, v, f, z)
repeated_first h t i earlier (l ∷ ls) live (suc j) b e none =
    let v : is_live h.next (cells_of h) t l ≡ true = live 0 (omega arith) in
    let f : is_in l earlier ≡ false = subst (λ (ks : List Hold). is_in l ks ≡ false) (append-nil earlier) (none 0 (omega arith)) in
    let z : i + suc j ≡ i + 1 + j = omega arith in
    let behind : (x : ℕ) → (earlier ++ (l ∷ [])) ++ take x ls ≡ earlier ++ (l ∷ take x ls) = λ x. append_assoc earlier (l ∷ []) (take x ls) in
    rw (not_stale h (lease_under h.boot l) refl, v, f, z)
    (repeated_first h t (i + 1) (earlier ++ (l ∷ [])) ls (λ x k. live (suc x) (omega arith)) j (omega arith)
    (subst (λ (ks : List Hold). is_in (hold_at ls j) ks ≡ true) (sym (behind j)) e)
    (λ x k. subst (λ (ks : List Hold). is_in (hold_at ls x) ks ≡ false) (sym (behind x)) (none (suc x) (omega arith))))

-- and none does, where none stands earlier
none_again : (h : Head) (t : List ℕ) (i : ℕ) (earlier ls : List Hold) → ((x : ℕ) → x < length ls → is_live h.next (cells_of h) t (hold_at ls x) ≡ true)
    → ((x : ℕ) → x < length ls → is_in (hold_at ls x) (earlier ++ take x ls) ≡ false) → Clear (not_releasable h t i earlier (map (lease_under h.boot) ls))
unfolding not_releasable
none_again h t i earlier [] live once = tt
none_again h t i earlier (l ∷ ls) live once =
    let f : is_in l earlier ≡ false = subst (λ (ks : List Hold). is_in l ks ≡ false) (append-nil earlier) (once 0 (omega arith)) in (
      not_stale h (lease_under h.boot l) refl,
      (
        ap not (live 0 (omega arith)),
        (
          f,
          none_again h t (i + 1) (earlier ++ (l ∷ [])) ls (λ x k. live (suc x) (omega arith))
              (λ x k. subst (λ (ks : List Hold). is_in (hold_at ls x) ks ≡ false) (sym (append_assoc earlier (l ∷ []) (take x ls))) (once (suc x) (omega arith))),
        ),
      ),
    )

get_d_take : (ls : List Hold) (n i : ℕ) → i < n → get_or (take n ls) i no_hold ≡ get_or ls i no_hold
get_d_take [] zero i l = refl
get_d_take [] (suc n) i l = refl
get_d_take (k ∷ ls) zero i l = absurd (omega arith)
get_d_take (k ∷ ls) (suc n) zero l = refl
get_d_take (k ∷ ls) (suc n) (suc i) l = get_d_take ls n i (omega arith)

take_short : (ls : List Hold) (n : ℕ) → length (take n ls) ≤ n
take_short [] zero = omega arith
take_short [] (suc n) = omega arith
take_short (k ∷ ls) zero = omega arith
take_short (k ∷ ls) (suc n) = omega (arith, take_short ls n)

refused_release : (v : World) (b : List ℕ) (r : Refusal) → first (rules v (release_all [] 0 b)) ≡ Err r → answer_in (perform v (release_all [] 0 b)) ≡ Refused r
unfolding perform release_all_of
refused_release v b r e = rw e

-- ---- the buffer of a granted call

module _ (w : World) (registry script : List ℕ) (place : ℕ) (held keys grants : List ℕ)
    (granted : answer_in (perform w (acquire_sorted registry script place held keys grants)) ≡ AllGranted) where
  abbrev cell : ℕ → ℕ
  cell = key_cell w.head.buckets registry keys

  abbrev buffer : List ℕ
  buffer = buffer_in (perform w (acquire_sorted registry script place held keys grants))

  abbrev ls : List Hold
  ls = holds_of buffer

  abbrev v : World
  v = leaves w (acquire_sorted registry script place held keys grants)

  clear : Clear (rules w (acquire_sorted registry script place held keys grants))
  clear = (granted_beyond w registry script place held keys grants (goes w registry script place held keys grants) granted).0

  few : count_in keys ≤ 64
  unfolding locks_rules
  few =
      let c = clear in
      let rest = clear_back (not_live w.head w.table 0 (leases_of held)) _ c.1.1.1.1.1 in
      let test = (neither (is_odd keys || ltb 64 (lease_count held + count_in keys)) (not (eqb (length grants) (3 * count_in keys))) rest.0).0 in
      omega (arith, ltb-false 64 (lease_count held + count_in keys) (neither (is_odd keys) (ltb 64 (lease_count held + count_in keys)) test).1)

  long : length buffer ≡ 3 * count_in keys
  long = (buffers_name w (acquire_sorted registry script place held keys grants) registry keys (any_order registry script place held keys grants) granted).0

  many : length ls ≡ count_in keys
  many = omega (arith, long, words_leases buffer, holds_few buffer)

  -- the boot number is what it was, and all leases handed back have it
  stays : v.head.boot ≡ w.head.boot
  stays = same_boot held (call_kept w (acquire_sorted registry script place held keys grants)).kept

  named : (ks : List Hold) → leases_of (words_of w.head.boot ks) ≡ map (lease_under v.head.boot) ks
  named ks = named_words w.head.boot ks ∙ ap (λ (n : ℕ). map (lease_under n) ks) (sym stays)

  all_named : leases_of buffer ≡ map (lease_under v.head.boot) ls
  all_named = ap leases_of (words_so w registry script place held keys grants granted) ∙ named ls

  -- only 14 can apply
  checks : first (rules v (release_all [] 0 buffer)) ≡ first (not_releasable v.head v.table 0 [] (map (lease_under v.head.boot) ls))
  unfolding locks_rules release_rules first
  checks =
      let c = clear in
      let k = (call_kept w (acquire_sorted registry script place held keys grants)).kept in
      let n = count_in keys in
      let fits : (too_many_leases buffer).applies ≡ false = rw (long, eq-eqb ((3 * n) % 3) 0 (omega arith)) (le-ltb 64 ((3 * n) / 3) (omega (arith, few))) in
      rw (shape_on held k c.0, health_on_lem held k c.1.0, fits, all_named)

  -- a lease that stands earlier is one of an earlier key of the same cell, and the other way
  abbrev Again : ℕ → Bool
  Again j = is_in (hold_at ls j) (take j ls)

  doubled : (j : ℕ) → j < count_in keys → Again j ≡ true → Doubled w.head.buckets registry keys j
  doubled j l e =
      let x = in_index (take j ls) (hold_at ls j) no_hold e in
      let i = x.0 in
      let b : i < j = omega (arith, x.1, take_short ls j) in
      let same : hold_at ls j ≡ hold_at ls i = x.2 ∙ get_d_take ls j i b in
      let own = each_key_live w registry script place held keys grants in
      (i, b, sym (own i granted (omega (arith, b, l))).0 ∙ sym (ap (λ (k : Hold). k.cell) same) ∙ (own j granted l).0)

  again : (j : ℕ) → j < count_in keys → Doubled w.head.buckets registry keys j → Again j ≡ true
  again j l d =
      let same = key_shares w registry script place held keys grants d.0 j granted (omega (arith, d.1, l)) l d.2 in
      subst (In (take j ls)) same (in_take ls j d.0 no_hold d.1 (omega (arith, d.1, l, many)))

  refused : (q : ℕ) → q < count_in keys → Doubled w.head.buckets registry keys q
      → (j : ℕ) × (j ≤ q) × Doubled w.head.buckets registry keys j
      × ((i : ℕ) → i < j → Doubled w.head.buckets registry keys i → ⊥)
      × (answer_in (perform v (release_all [] 0 buffer)) ≡ Refused (Repeated j))
  refused q l d =
      let e : q ≡ 0 + q = omega arith in
      let x = least_from Again q 0 (subst (λ (n : ℕ). Again n ≡ true) e (again q l d)) (λ n k. absurd (omega arith)) in
      let j = x.0 in
      let b : j ≤ q = omega (arith, x.1) in
      let live : (n : ℕ) → n < length ls → Live v (hold_at ls n) = λ n k. (each_key_live w registry script place held keys grants n granted (omega (arith, k, many))).1 in
      let z : 0 + j ≡ j = omega arith in (
        j,
        b,
        doubled j (omega (arith, b, l)) x.2,
        λ i k e. differ (sym (x.3 i k) ∙ again i (omega (arith, k, b, l)) e),
        refused_release v buffer (Repeated j) (checks ∙ repeated_first v.head v.table 0 [] ls live j (omega (arith, b, l, many)) x.2 x.3 ∙ ap (λ (n : ℕ). Err (Repeated n)) z),
      )

  -- ---- each lease once: those of the distinct cells, in rising order

  abbrev b : ℕ
  b = w.head.buckets

  abbrev sorted : List ℕ
  sorted = sorted_cells b registry keys

  abbrev each : List Hold
  each = holds_of (sorted_locks w registry script place held keys grants).seen.1.1.1

  back : HandedBack b registry keys each ls
  back = handed_so w registry script place held keys grants granted

  each_live : (i : ℕ) → i < length each → Live v (hold_at each i)
  each_live i k =
      let l : i < length sorted = omega (arith, k, back.many) in
      let p = first_place b registry keys i in
      let f = (first_place_at b registry keys i l).0 in
      subst (Live v) (back.each p f ∙ ap (hold_at each) (sorted_place_of b registry keys i l)) (each_key_live w registry script place held keys grants p granted f).1

  each_once : (i : ℕ) → i < length each → is_in (hold_at each i) ([] ++ take i each) ≡ false
  each_once i k = go (is_in (hold_at each i) (take i each)) refl
    where
      go : (x : Bool) → is_in (hold_at each i) (take i each) ≡ x → x ≡ false
      go false e = refl
      go true e =
          let x = in_index (take i each) (hold_at each i) no_hold e in
          let j = x.0 in
          let l : j < i = omega (arith, x.1, take_short each i) in
          let same = ap (λ (y : Hold). y.cell) (x.2 ∙ get_d_take each i j l) in
          absurd (omega (arith, same, back.own i (omega (arith, k, back.many)), back.own j (omega (arith, l, k, back.many)), rising_at 0 sorted (sorted_rises b registry keys) j i l (omega (arith, k, back.many))))

  once_clear : Clear (rules v (release_all [] 0 (words_of w.head.boot each)))
  unfolding locks_rules release_rules
  once_clear =
      let c = clear in
      let k = (call_kept w (acquire_sorted registry script place held keys grants)).kept in
      let n = length each in
      let fits : (too_many_leases (words_of w.head.boot each)).applies ≡ false
      = rw (length_words w.head.boot each, eq-eqb ((3 * n) % 3) 0 (omega arith)) (le-ltb 64 ((3 * n) / 3) (omega (arith, few, sorted_few b registry keys, back.many))) in
      (shape_on held k c.0, (health_on_lem held k c.1.0, (refl, (fits, rw (named each) (none_again v.head v.table 0 [] each each_live each_once)))))

  released : answer_in (perform v (release_all [] 0 (words_of w.head.boot (shared_of ls sorted)))) ≡ Done
  released =
      subst (λ (ks : List Hold). answer_in (perform v (release_all [] 0 (words_of w.head.boot ks))) ≡ Done) (sym (back_once b registry keys back))
      (ap (λ (m : Made (World × Says)). answer_in m) (made_so v (release_all [] 0 (words_of w.head.boot each)) once_clear))

pub once_done : OnceDone perform
once_done w registry script place held keys grants granted = released w registry script place held keys grants granted

pub fourteen : Fourteen perform
fourteen w registry script place held keys grants p q granted less l e = refused w registry script place held keys grants granted q l (p, less, e)
