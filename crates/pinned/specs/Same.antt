-- What `Steps` and `Statements` say leaves one thing only: two that are so are the same. `Met` has it of calls.
use Prim.Native.Nat.{ℕ, zero, suc, ◌+◌}
use Rattle.std.specs.Prelude.{◌≡◌, refl, List, [], ◌∷◌, Bool, true, false, ◌||◌, ◌⊎◌, eqb, get_or, take}
use Rattle.std.proofs.Common.{sym, ap, ◌∙◌, subst, inl, inr, eqb-true, eq-eqb}
use Rattle.model.specs.Log.{Made, Event}
use Rattle.types.specs.declared.Answer.{Answer}
use Rattle.types.specs.declared.Answer.TheVariants.{Done, Cell, Granted, AllGranted, Busy, Refused, RefusedAt}
use Rattle.types.specs.declared.Hold.{Hold}
use Rattle.types.specs.declared.Reason.{Reason}
use Rattle.laws.specs.Sorting.{is_among, rising_determined}
use Rattle.laws.specs.Sorting as law
use Rattle.history.specs.World.{World}
use Rattle.history.specs.Items.{Says}
use Rattle.history.specs.Tests.{differ}
use Rattle.pinned.specs.Words.{Is, If◌Then◌Else◌, With, After, Noting, SeenAs}
use Rattle.pinned.specs.Checks.{sum}
use Rattle.pinned.specs.Steps.{Takes, Step, At, at, Runs, AfterTake, Locks, Crew, AfterTry, TryTurn, Turn, Turns}
use Rattle.pinned.specs.Statements.{left_by, place_by, joined, yielding, spinning, Pauses, AfterAttempt, Retries, between, CellAmong, Rising, Sorted, AsksFirst, KeysFor, LeaseOn, Shared}

abbrev pub Same : {A : Type 0} → (A → Type 0) → (A → Type 0) → Type 0
Same {A} P Q = (x y : A) → P x → Q y → x ≡ y

pub is_same : {A : Type 0} {z : A} → Same (Is z) (Is z)
is_same x y p q = p ∙ sym q

pub is_both : {A : Type 0} {u v : A} → u ≡ v → Same (Is u) (Is v)
is_both e x y p q = p ∙ (e ∙ sym q)

pub if_same : {A : Type 0} {C : Type 0} {P Q R S : A → Type 0} → Same P R → Same Q S → Same (If C Then P Else Q) (If C Then R Else S)
if_same f g x y (inl p) (inl q) = f x y p.1 q.1
if_same f g x y (inl p) (inr q) = absurd (q.0 p.0)
if_same f g x y (inr p) (inl q) = absurd (p.0 q.0)
if_same f g x y (inr p) (inr q) = g x y p.1 q.1

pub with_same : {A B : Type 0} {P R : A → Type 0} {Q S : A → B → Type 0} → Same P R → ((a : A) → Same (Q a) (S a)) → Same (With P Q) (With R S)
with_same {Q} {S} f g x y p q =
    let e = f p.0 q.0 p.1 q.1 in
    g p.0 x y p.2 (subst (λ a. S a y) (sym e) q.2)

pub follow_same : {A B : Type 0} {P R : Made A → Type 0} {Q S : A → Made B → Type 0} → Same P R → ((a : A) → Same (Q a) (S a)) → Same (After P Q) (After R S)
follow_same f g = with_same f (λ m. with_same (g m.seen) (λ n. is_same))

pub noting_same : {A : Type 0} {e : Event} {P Q : Made A → Type 0} → Same P Q → Same (Noting e P) (Noting e Q)
noting_same f = with_same f (λ m. is_same)

pub seen_same : {A B : Type 0} (f : A → B) {P Q : Made A → Type 0} → Same P Q → Same (SeenAs f P) (SeenAs f Q)
seen_same f s = with_same s (λ m. is_same)

-- ---- the steps

pub takes_same : (w : World) (c : ℕ) → Same (Takes w c) (Takes w c)
takes_same w c = if_same is_same (if_same is_same (if_same is_same is_same))

pub step_same : (w : World) (ps : List Hold) (kind place number : ℕ) → Same (Step w ps kind place number) (Step w ps kind place number)
step_same w ps kind place number =
    if_same is_same (if_same (if_same is_same is_same) (if_same (if_same is_same is_same) (if_same (if_same is_same is_same) (if_same (if_same is_same is_same) (if_same is_same is_same)))))

pub runs_same : (left : ℕ) (script : List ℕ) (ps : List Hold) (a : At) → Same (Runs left script ps a) (Runs left script ps a)
unfolding Runs
runs_same zero script ps a = is_same
runs_same (suc left) script ps a =
    if_same is_same (follow_same (step_same _ ps _ _ _) (λ s. runs_same left script ps (at s.0 (a.place + 1) (a.dropped + s.1))))

after_same : (script : List ℕ) (ps : List Hold) (a : At) (c : ℕ) (x : Answer) → Same (AfterTake script ps a c x) (AfterTake script ps a c x)
after_same script ps a c (Granted l) = follow_same (noting_same (runs_same _ script _ a)) (λ b. if_same is_same (if_same is_same is_same))
after_same script ps a c (Busy why) = is_same
after_same script ps a c (Refused r) = is_same
after_same script ps a c Done = is_same
after_same script ps a c (Cell d) = is_same
after_same script ps a c AllGranted = is_same
after_same script ps a c (RefusedAt r p) = is_same

pub locks_same : (script : List ℕ) (ps : List Hold) (a : At) (c : ℕ) → Same (Locks script ps a c) (Locks script ps a c)
locks_same script ps a c =
    noting_same (follow_same (noting_same (runs_same _ script ps a)) (λ b. if_same is_same (follow_same (noting_same (runs_same _ script ps b)) (λ d. follow_same (takes_same d.world c) (λ x. after_same script ps _ c x.1)))))

after_try_same : (v : Crew) (m count low k : ℕ) (w : World) (x : Answer) → Same (AfterTry v m count low k w x) (AfterTry v m count low k w x)
after_try_same v m count low k w (Granted l) = if_same is_same is_same
after_try_same v m count low k w (Busy why) = is_same
after_try_same v m count low k w (Refused r) = is_same
after_try_same v m count low k w Done = is_same
after_try_same v m count low k w (Cell d) = is_same
after_try_same v m count low k w AllGranted = is_same
after_try_same v m count low k w (RefusedAt r p) = is_same

try_same : (v : Crew) (m count low k c : ℕ) → Same (TryTurn v m count low k c) (TryTurn v m count low k c)
try_same v m count low k c = if_same is_same (follow_same (locks_same [] [] (at v.world 0 0) c) (λ x. after_try_same v m count low k x.0 x.1.answer))

turn_same : (work : ℕ → ℕ) (counts cells : List ℕ) (v : Crew) (m : ℕ) → Same (Turn work counts cells v m) (Turn work counts cells v m)
turn_same work counts cells v m =
    let start = sum (take m counts) in
    if_same is_same (if_same (try_same v m (get_or counts m 0) (get_or cells start 0) (start + get_or v.moves m 0) (get_or cells (start + get_or v.moves m 0) 0)) (if_same is_same is_same))

pub turns_same : (work : ℕ → ℕ) (counts cells : List ℕ) (v : Crew) (ms : List ℕ) → Same (Turns work counts cells v ms) (Turns work counts cells v ms)
unfolding Turns
turns_same work counts cells v [] = is_same
turns_same work counts cells v (m ∷ ms) = follow_same (turn_same work counts cells v m) (λ u. turns_same work counts cells u ms)

-- ---- keys in any order

pub asks_same : (cs : List ℕ) (c : ℕ) → Same (AsksFirst cs c) (AsksFirst cs c)
unfolding AsksFirst
asks_same [] c = is_same
asks_same (x ∷ xs) c = if_same is_same (with_same (asks_same xs c) (λ p. is_same))

pub keys_same : (keys cs ss : List ℕ) → Same (KeysFor keys cs ss) (KeysFor keys cs ss)
unfolding KeysFor
keys_same keys cs [] = is_same
keys_same keys cs (c ∷ ss) = with_same (asks_same cs c) (λ p. with_same (keys_same keys cs ss) (λ ks. is_same))

lease_same : (ls : List Hold) (c : ℕ) → Same (LeaseOn ls c) (LeaseOn ls c)
unfolding LeaseOn
lease_same [] c = is_same
lease_same (l ∷ ls) c = if_same is_same (lease_same ls c)

pub shared_same : (ls : List Hold) (cs : List ℕ) → Same (Shared ls cs) (Shared ls cs)
unfolding Shared
shared_same ls [] = is_same
shared_same ls (c ∷ cs) = with_same (lease_same ls c) (λ l. with_same (shared_same ls cs) (λ ks. is_same))

pub among : (c : ℕ) (xs : List ℕ) → is_among c xs ≡ true → CellAmong c xs
among c [] e = absurd (differ e)
among c (x ∷ xs) e = go (eqb x c) refl e (among c xs)
  where
    go : (b : Bool) → eqb x c ≡ b → (b || is_among c xs) ≡ true → (is_among c xs ≡ true → CellAmong c xs) → (x ≡ c) ⊎ CellAmong c xs
    go true e f k = inl (eqb-true x c e)
    go false e f k = inr (k f)

pub is_among_lem : (c : ℕ) (xs : List ℕ) → CellAmong c xs → is_among c xs ≡ true
is_among_lem c [] a = absurd a
is_among_lem c (x ∷ xs) (inl e) = rw (eq-eqb x c e)
is_among_lem c (x ∷ xs) (inr a) = go (eqb x c) (is_among_lem c xs a)
  where
    go : (b : Bool) → is_among c xs ≡ true → (b || is_among c xs) ≡ true
    go true e = refl
    go false e = e

rising : (low : ℕ) (xs : List ℕ) → Rising low xs → law.Rising low xs
rising low [] r = tt
rising low (x ∷ xs) r = (r.0, rising (x + 1) xs r.1)

pub sorted_same : (cs : List ℕ) → Same (Sorted cs) (Sorted cs)
sorted_same cs xs ys p q =
    rising_determined 0 xs ys (rising 0 xs p.0) (rising 0 ys q.0) λ c.
    go (is_among c xs) (is_among c ys) refl refl
    (λ e. is_among_lem c ys ((q.1 c).1 ((p.1 c).0 (among c xs e))))
    (λ e. is_among_lem c xs ((p.1 c).1 ((q.1 c).0 (among c ys e))))
  where
    go : {u v : Bool} (a b : Bool) → u ≡ a → v ≡ b → (u ≡ true → v ≡ true) → (v ≡ true → u ≡ true) → u ≡ v
    go true b e f i j = e ∙ sym (i e)
    go false true e f i j = j f ∙ sym f
    go false false e f i j = e ∙ sym f

-- ---- one call and then another

pub joined_same : {m n u v : Made (World × Says)} → m ≡ u → n ≡ v → joined m n ≡ joined u v
joined_same {n} {u} e f = ap (λ (z : Made (World × Says)). joined z n) e ∙ ap (joined u) f

-- ---- attempts, by two builds whose attempts and boundaries see the same

module _ (A B E F : World → ℕ → Made (World × Says)) (attempt : (w : World) (p : ℕ) → A w p ≡ B w p) (between : (w : World) (p : ℕ) → E w p ≡ F w p) where
  pauses_same : (i : ℕ) (w : World) (p : ℕ) → Same (Pauses A E i w p) (Pauses B F i w p)
  pauses_same i w p =
      if_same
      (is_both (joined_same (ap (yielding B F) (between w p)) (ap (spinning B F) (between (left_by (E w p)) (place_by (E w p)) ∙ ap (λ (z : Made (World × Says)). F (left_by z) (place_by z)) (between w p)))))
      (is_both (ap (spinning B F) (between w p)))

  module _ (i : ℕ) (m : Made (World × Says)) (more next : Reason → Made (World × Says) → Made (World × Says) → Type 0) (like : (why : Reason) (n : Made (World × Says)) → Same (more why n) (next why n)) where
    after_attempt_same : (x : Answer) → Same (AfterAttempt A E i m more x) (AfterAttempt B F i m next x)
    after_attempt_same (Busy why) = with_same (pauses_same i (left_by m) (place_by m)) (λ n. with_same (like why n) (λ x. is_same))
    after_attempt_same (Granted l) = is_same
    after_attempt_same (Refused r) = is_same
    after_attempt_same Done = is_same
    after_attempt_same (Cell c) = is_same
    after_attempt_same AllGranted = is_same
    after_attempt_same (RefusedAt r p) = is_same

  pub retries_same : (left i : ℕ) (last : Reason) (w : World) (p : ℕ) → Same (Retries A E left i last w p) (Retries B F left i last w p)
  unfolding Retries
  retries_same zero i last w p x y u v = is_same x y u v
  retries_same (suc left) i last w p x y u v =
      after_attempt_same i (A w p) (λ why n. Retries A E left (i + 1) why (left_by n) (place_by n)) (λ why n. Retries B F left (i + 1) why (left_by n) (place_by n))
      (λ why n. retries_same left (i + 1) why (left_by n) (place_by n)) (A w p).seen.1.answer x y u
      (subst (λ (z : Made (World × Says)). AfterAttempt B F i z (λ why n. Retries B F left (i + 1) why (left_by n) (place_by n)) z.seen.1.answer y) (sym (attempt w p)) v)
