-- What `Statement` says leaves one answer and one book only: two that are so are the same. Nothing of the definitions is used here.
use Rattle.std.specs.Prelude.{ℕ, zero, suc, ◌+◌, ◌*◌, ◌-◌, ◌/◌, ◌%◌, ◌≤◌, ◌<◌, ◌≡◌, refl, ◌⊎◌, ◌≢◌, List, length, get_or}
use Rattle.std.proofs.Common.{sym, ◌∙◌, subst, inl, inr, arith, ext_get_or}
use Rattle.std.proofs.Math.Decide.{ℕ_discrete, dec_lt}
use Rattle.types.specs.declared.Head.{Head}
use Rattle.types.specs.declared.Lease.{Lease}
use Rattle.setpoint.specs.declared.Setpoint.{Setpoint}
use Rattle.book_rules.specs.Appended.{Came, is_new, is_own, is_other}
use Rattle.book_rules.proofs.Appended.{came}
use Rattle.pinned.specs.Words.{If◌Then◌Else◌}
use Rattle.pinned.specs.Same.{Same, is_same, if_same, with_same}
use Rattle.book_pinned.specs.Statement.{byte, slots, place_in, version_in, newest, Means, BodyAt, Stays, BehindAll, Goes, InBody, NoBodyNow, Left, SamePlaces, NewPlaces, BookBuild, BadBook, PreparesBook, Puts, WritesOver, Writes, ReadsVersion, MeetsBook}

-- ---- a run of eight bytes, and of five, byte by byte

pub each_of_eight : (Q : ℕ → Type 0) (p : ℕ) → Q p → Q (p + 1) → Q (p + 2) → Q (p + 3) → Q (p + 4) → Q (p + 5) → Q (p + 6) → Q (p + 7)
    → (j : ℕ) → p ≤ j → j < p + 8 → Q j
each_of_eight Q p q0 q1 q2 q3 q4 q5 q6 q7 j l m = go (j - p) (omega arith) (omega arith)
  where
    go : (i : ℕ) → p + i ≡ j → i < 8 → Q j
    go zero e k = let f : p ≡ j = omega arith in subst Q f q0
    go (suc zero) e k = subst Q e q1
    go (suc (suc zero)) e k = subst Q e q2
    go (suc (suc (suc zero))) e k = subst Q e q3
    go (suc (suc (suc (suc zero)))) e k = subst Q e q4
    go (suc (suc (suc (suc (suc zero))))) e k = subst Q e q5
    go (suc (suc (suc (suc (suc (suc zero)))))) e k = subst Q e q6
    go (suc (suc (suc (suc (suc (suc (suc zero))))))) e k = subst Q e q7
    go (suc (suc (suc (suc (suc (suc (suc (suc i)))))))) e k = absurd (omega arith)

each_of_five : (Q : ℕ → Type 0) (p : ℕ) → Q p → Q (p + 1) → Q (p + 2) → Q (p + 3) → Q (p + 4) → (j : ℕ) → p ≤ j → j < p + 5 → Q j
each_of_five Q p q0 q1 q2 q3 q4 j l m = go (j - p) (omega arith) (omega arith)
  where
    go : (i : ℕ) → p + i ≡ j → i < 5 → Q j
    go zero e k = let f : p ≡ j = omega arith in subst Q f q0
    go (suc zero) e k = subst Q e q1
    go (suc (suc zero)) e k = subst Q e q2
    go (suc (suc (suc zero))) e k = subst Q e q3
    go (suc (suc (suc (suc zero)))) e k = subst Q e q4
    go (suc (suc (suc (suc (suc i))))) e k = absurd (omega arith)

-- ---- what five bytes mean

means_one : (k w : ℕ) (s r : Setpoint) → Means k w s → Means k w r → s ≡ r
means_one k w s r (inl a) (inl b) = a.2 ∙ sym b.2
means_one k w s r (inl a) (inr (inl b)) = absurd (omega (arith, a.0, b.0))
means_one k w s r (inl a) (inr (inr (inl b))) = absurd (omega (arith, a.0, b.0))
means_one k w s r (inl a) (inr (inr (inr b))) = absurd (omega (arith, a.0, b.0))
means_one k w s r (inr (inl a)) (inl b) = absurd (omega (arith, a.0, b.0))
means_one k w s r (inr (inl a)) (inr (inl b)) = a.1 ∙ sym b.1
means_one k w s r (inr (inl a)) (inr (inr (inl b))) = absurd (omega (arith, a.0, b.0))
means_one k w s r (inr (inl a)) (inr (inr (inr b))) = absurd (omega (arith, a.0, b.0))
means_one k w s r (inr (inr (inl a))) (inl b) = absurd (omega (arith, a.0, b.0))
means_one k w s r (inr (inr (inl a))) (inr (inl b)) = absurd (omega (arith, a.0, b.0))
means_one k w s r (inr (inr (inl a))) (inr (inr (inl b))) = a.2 ∙ sym b.2
means_one k w s r (inr (inr (inl a))) (inr (inr (inr b))) = absurd (omega (arith, a.1, b.1))
means_one k w s r (inr (inr (inr a))) (inl b) = absurd (omega (arith, a.0, b.0))
means_one k w s r (inr (inr (inr a))) (inr (inl b)) = absurd (omega (arith, a.0, b.0))
means_one k w s r (inr (inr (inr a))) (inr (inr (inl b))) = absurd (omega (arith, a.1, b.1))
means_one k w s r (inr (inr (inr a))) (inr (inr (inr b))) = a.2 ∙ sym b.2

body_same : (b : List ℕ) (p : ℕ) → Same (BodyAt b p) (BodyAt b p)
unfolding BodyAt
body_same b p s r x y = means_one (byte b p) (byte b (p + 1) + byte b (p + 2) * 256 + byte b (p + 3) * 65536 + byte b (p + 4) * 16777216) s r x y

-- ---- looking for a line

dec_and : {A B : Type 0} → Dec A → Dec B → Dec (A × B)
dec_and (yes a) (yes b) = yes (a, b)
dec_and (yes a) (no b) = no (λ x. b x.1)
dec_and (no a) d = no (λ x. a x.0)

dec_not : {A : Type 0} → Dec A → Dec (A → ⊥)
dec_not (yes a) = no (λ f. f a)
dec_not (no f) = yes f

dec_le : (a b : ℕ) → Dec (a ≤ b)
dec_le a b = go (dec_lt b a)
  where
    go : Dec (b < a) → Dec (a ≤ b)
    go (yes l) = no (λ k. omega arith)
    go (no l) = yes (omega arith)

pub look : (m : ℕ) (P : ℕ → Type 0) → ((k : ℕ) → Dec (P k)) → Dec ((k : ℕ) × (k < m) × P k)
look zero P d = no (λ x. omega (arith, x.1))
look (suc m) P d = go (d m) (look m P d)
  where
    go : Dec (P m) → Dec ((k : ℕ) × (k < m) × P k) → Dec ((k : ℕ) × (k < suc m) × P k)
    go (yes p) e = yes (m, omega arith, p)
    go (no p) (yes (k, l, q)) = yes (k, omega arith, q)
    go (no p) (no e) = no (λ x. other x (ℕ_discrete x.0 m))
      where
        other : (x : (k : ℕ) × (k < suc m) × P k) → Dec (x.0 ≡ m) → ⊥
        other (k, l, q) (yes i) = p (rw (← i) q)
        other (k, l, q) (no i) = e (k, omega arith, q)

dec_in : (p i : ℕ) → Dec (InBody p i)
dec_in p i = dec_and (dec_le p i) (dec_lt i (p + 5))

-- ---- one book is left

-- the slot's oldest line goes nowhere
pub not_oldest : (slot k j : ℕ) → Goes slot k j → k ≢ 4 * slot + 3
not_oldest slot k j (inl g) e = omega (arith, g.1)
not_oldest slot k j (inr (inl g, h)) e = omega arith
not_oldest slot k j (inr (inr g, h)) e = omega arith

module _ (n : ℕ) (b : List ℕ) (slot : ℕ) (s : Setpoint) (to : ℕ → ℕ) (p : ℕ) (c d : List ℕ) (x : Left n b c slot s to p) (y : Left n b d slot s to p)
    (inside : slot < n) (places : (k j i : ℕ) → Stays n b slot k → Goes slot k j → i < 2 → byte c (8 * j + i) ≡ byte d (8 * j + i)) where
  abbrev Agree : ℕ → Type 0
  Agree i = get_or c i 0 ≡ get_or d i 0

  new_line : (i : ℕ) → 32 * slot ≤ i → i < 32 * slot + 8 → Agree i
  new_line =
      each_of_eight Agree (32 * slot)
      (x.new_place.0 ∙ sym y.new_place.0) (x.new_place.1 ∙ sym y.new_place.1)
      (x.new_length.0 ∙ sym y.new_length.0) (x.new_length.1 ∙ sym y.new_length.1)
      (x.new_version_low.0 ∙ sym y.new_version_low.0) (x.new_version_low.1 ∙ sym y.new_version_low.1)
      (x.new_version_high.0 ∙ sym y.new_version_high.0) (x.new_version_high.1 ∙ sym y.new_version_high.1)

  new_body : (i : ℕ) → p ≤ i → i < p + 5 → Agree i
  new_body =
      each_of_five Agree p (x.new_kind ∙ sym y.new_kind) (x.new_low.0 ∙ sym y.new_low.0) (x.new_low.1 ∙ sym y.new_low.1)
      (x.new_high.0 ∙ sym y.new_high.0) (x.new_high.1 ∙ sym y.new_high.1)

  old_line : (k j i : ℕ) → k < 4 * n → Goes slot k j → i < 8 → Agree (8 * j + i)
  old_line k j i l g m = go (dec_lt i 2) (ℕ_discrete (version_in b k) 0)
    where
      go : Dec (i < 2) → Dec (version_in b k ≡ 0) → Agree (8 * j + i)
      go (no u) v = x.lines k j i l g (omega arith) m ∙ sym (y.lines k j i l g (omega arith) m)
      go (yes u) (yes v) = x.unused k j i l v g u ∙ sym (y.unused k j i l v g u)
      go (yes u) (no v) = places k j i (record { inside = l; is_used = v; not_dropped = not_oldest slot k j g }) g u

  in_line : (i : ℕ) → i < 32 * n → Agree i
  in_line i l = go (came slot (i / 8))
    where
      at : (k : ℕ) → k < 4 * n → Goes slot k (i / 8) → Agree i
      at k h g = let e : 8 * (i / 8) + i % 8 ≡ i = omega arith in rw (← e) (old_line k (i / 8) (i % 8) h g (omega arith))

      go : Came slot (i / 8) → Agree i
      go (is_new e) = new_line i (omega arith) (omega arith)
      go (is_own k u v e) = at k (omega arith) (inl (u, v, e))
      go (is_other o) = at (i / 8) (omega arith) (inr (o, refl))

  in_none : (i : ℕ) → NoBodyNow n b slot to p i → Agree i
  in_none i z =
      go (look (4 * n) (λ k. (version_in b k ≢ 0) × InBody (place_in b k) i) (λ k. dec_and (dec_not (ℕ_discrete (version_in b k) 0)) (dec_in (place_in b k) i)))
    where
      go : Dec ((k : ℕ) × (k < 4 * n) × ((version_in b k ≢ 0) × InBody (place_in b k) i)) → Agree i
      go (yes (k, l, u)) = x.vacated i z k l u.0 u.1 ∙ sym (y.vacated i z k l u.0 u.1)
      go (no f) = x.untouched i z (λ k l u v. f (k, l, (u, v))) ∙ sym (y.untouched i z (λ k l u v. f (k, l, (u, v))))

  behind_lines : (i : ℕ) → 32 * n ≤ i → i < length c → Agree i
  behind_lines i l m =
      go (dec_in p i)
      (look (4 * n) (λ k. ((version_in b k ≢ 0) × (k ≢ 4 * slot + 3)) × InBody (to k) i)
      (λ k. dec_and (dec_and (dec_not (ℕ_discrete (version_in b k) 0)) (dec_not (ℕ_discrete k (4 * slot + 3)))) (dec_in (to k) i)))
    where
      go : Dec (InBody p i) → Dec ((k : ℕ) × (k < 4 * n) × (((version_in b k ≢ 0) × (k ≢ 4 * slot + 3)) × InBody (to k) i)) → Agree i
      go (yes u) v = new_body i u.0 u.1
      go (no u) (yes (k, h, (w, v))) =
          let t : Stays n b slot k = record { inside = h; is_used = w.0; not_dropped = w.1 } in
          let q : i - to k < 5 = omega (arith, v.0, v.1) in
          let e : to k + (i - to k) ≡ i = omega (arith, v.0, v.1) in
          rw (← e) (x.bodies k (i - to k) t q ∙ sym (y.bodies k (i - to k) t q))
      go (no u) (no f) =
          in_none i
          (record {
            behind = l;
            within = omega (arith, x.long);
            not_new = u;
            not_old = λ k t v. f (k, t.inside, ((t.is_used, t.not_dropped), v));
          })

  left_one : c ≡ d
  left_one = ext_get_or 0 c d (x.long ∙ sym y.long) (λ i l. go i l (dec_lt i (32 * n)))
    where
      go : (i : ℕ) → i < length c → Dec (i < 32 * n) → Agree i
      go i l (yes u) = in_line i u
      go i l (no u) = behind_lines i (omega arith) l

module _ (n : ℕ) (b : List ℕ) (slot : ℕ) (s : Setpoint) (inside : slot < n) where
  slid_one : (to : ℕ → ℕ) (p : ℕ) → Same (λ c. Left n b c slot s to p × NewPlaces n b c slot to) (λ c. Left n b c slot s to p × NewPlaces n b c slot to)
  slid_one to p c d x y = left_one n b slot s to p c d x.0 y.0 inside (λ k j i t g l. at k j i t g l)
    where
      at : (k j i : ℕ) → Stays n b slot k → Goes slot k j → i < 2 → byte c (8 * j + i) ≡ byte d (8 * j + i)
      at k j zero t g l = let e : 8 * j + 0 ≡ 8 * j = omega arith in rw e ((x.1 k j t g).0 ∙ sym (y.1 k j t g).0)
      at k j (suc zero) t g l = (x.1 k j t g).1 ∙ sym (y.1 k j t g).1
      at k j (suc (suc i)) t g l = absurd (omega arith)

  still_one : (to : ℕ → ℕ) (p : ℕ) → Same (λ c. Left n b c slot s to p × SamePlaces n b c slot) (λ c. Left n b c slot s to p × SamePlaces n b c slot)
  still_one to p c d x y = left_one n b slot s to p c d x.0 y.0 inside (λ k j i t g l. x.1 k j i t g l ∙ sym (y.1 k j i t g l))

  behind_one : Same (BehindAll n b slot) (BehindAll n b slot)
  behind_one p q x y = go x.right_behind y.right_behind
    where
      go : ((k : ℕ) × Stays n b slot k × (p ≡ place_in b k + 5)) ⊎ (((k : ℕ) → Stays n b slot k → ⊥) × (p ≡ 32 * n))
          → ((k : ℕ) × Stays n b slot k × (q ≡ place_in b k + 5)) ⊎ (((k : ℕ) → Stays n b slot k → ⊥) × (q ≡ 32 * n)) → p ≡ q
      go (inl (k, t, e)) (inl (j, u, f)) = omega (arith, x.behind j u, y.behind k t)
      go (inl (k, t, e)) (inr (f, g)) = absurd (f k t)
      go (inr (f, g)) (inl (k, t, e)) = absurd (f k t)
      go (inr (f, e)) (inr (g, h)) = omega arith

  puts_same : Same (Puts n b slot s) (Puts n b slot s)
  puts_same = if_same (with_same (slid_one _ _) (λ c. is_same)) (with_same behind_one (λ p. with_same (still_one _ p) (λ c. is_same)))

  over_same : Same (WritesOver n b slot s) (WritesOver n b slot s)
  over_same = if_same is_same (if_same is_same (if_same is_same puts_same))

-- ---- the calls

-- what follows may use that the condition failed
if_knowing : {A : Type 0} {C : Type 0} {P Q R S : A → Type 0} → Same P R → ((C → ⊥) → Same Q S) → Same (If C Then P Else Q) (If C Then R Else S)
if_knowing f g x y (inl p) (inl q) = f x y p.1 q.1
if_knowing f g x y (inl p) (inr q) = absurd (q.0 p.0)
if_knowing f g x y (inr p) (inl q) = absurd (p.0 q.0)
if_knowing f g x y (inr p) (inr q) = g p.0 x y p.1 q.1

prepares_same : (h : Head) (b : List ℕ) → Same (PreparesBook h b) (PreparesBook h b)
prepares_same h b = if_same is_same (if_same is_same is_same)

reads_same : (h : Head) (b : List ℕ) (slot w : ℕ) → Same (ReadsVersion h b slot w) (ReadsVersion h b slot w)
reads_same h b slot w = if_same is_same (if_same is_same (if_same is_same (if_same is_same (with_same (body_same b _) (λ s. is_same)))))

writes_same : (h : Head) (t b : List ℕ) (slot : ℕ) (l : Lease) (s : Setpoint) → Same (Writes h t b slot l s) (Writes h t b slot l s)
writes_same h t b slot l s = if_same is_same (if_knowing is_same (λ g. if_same is_same (if_same is_same (if_same is_same (over_same (slots h) b slot s (below g))))))
  where
    below : (BadBook (slots h) b ⊎ (slots h ≤ slot) → ⊥) → slot < slots h
    below g = let k : slots h ≤ slot → ⊥ = (λ z. g (inr z)) in under (dec_lt slot (slots h)) k
      where
        under : Dec (slot < slots h) → (slots h ≤ slot → ⊥) → slot < slots h
        under (yes z) k = z
        under (no z) k = absurd (k (omega arith))

-- two builds that meet it answer the same and leave the same bytes
pub record SameBook (f g : BookBuild) : Type 0 where
  pub prepare : (h : Head) (b : List ℕ) → f.prepare h b ≡ g.prepare h b
  pub write : (h : Head) (t b : List ℕ) (slot : ℕ) (l : Lease) (s : Setpoint) → f.write h t b slot l s ≡ g.write h t b slot l s
  pub read : (h : Head) (b : List ℕ) (slot : ℕ) → f.read h b slot ≡ g.read h b slot
  pub read_version : (h : Head) (b : List ℕ) (slot version : ℕ) → f.read_version h b slot version ≡ g.read_version h b slot version

pub one_book : (f g : BookBuild) → MeetsBook f → MeetsBook g → SameBook f g
one_book f g x y =
    record {
      prepare = λ h b. prepares_same h b (f.prepare h b) (g.prepare h b) (x.prepares h b) (y.prepares h b);
      write = λ h t b slot l s. writes_same h t b slot l s (f.write h t b slot l s) (g.write h t b slot l s) (x.writes h t b slot l s) (y.writes h t b slot l s);
      read = λ h b slot. x.reads h b slot ∙ version h b slot (newest b slot) ∙ sym (y.reads h b slot);
      read_version = version;
    }
  where
    version : (h : Head) (b : List ℕ) (slot w : ℕ) → f.read_version h b slot w ≡ g.read_version h b slot w
    version h b slot w = reads_same h b slot w (f.read_version h b slot w) (g.read_version h b slot w) (x.reads_version h b slot w) (y.reads_version h b slot w)
