-- A granted call: which lease each key is handed back, and in which order the cells were taken.
use Rattle.std.specs.Prelude.{ℕ, ◌<◌, ◌≡◌, List, [], ◌∷◌, ◌++◌, ◌≢◌, length}
use Rattle.std.proofs.Common.{sym, ap, ◌∙◌, subst, append_assoc, arith}
use Rattle.std.proofs.Math.Decide.{dec_lt}
use Rattle.model.specs.Log.{Made, Event, by_caller, took}
use Rattle.model.specs.Arena.{holds_of, words_of}
use Rattle.model.specs.Lock.{hold_at}
use Rattle.model.specs.Checks.{count_in}
use Rattle.model.specs.Calls.{given, starting}
use Rattle.model.specs.Sorted.{first_asking, handed_back, shared_of}
use Rattle.types.specs.declared.Answer.{Answer}
use Rattle.types.specs.declared.Answer.TheVariants.{AllGranted}
use Rattle.types.specs.declared.Hold.{Hold}
use Rattle.laws.specs.Checks.{lease_in, hold_in_lem}
use Rattle.laws.specs.Lists.{words_back, leases_equal}
use Rattle.history.specs.World.{World, number_of_lem, takes}
use Rattle.history.specs.Items.{Says, acquire_sorted, any_order, key_cell, perform}
use Rattle.history.specs.Statements.{buffer_in, HandsOver}
use Rattle.history.specs.Judged.{sorted_locks}
use Rattle.history.proofs.Calls.{call_kept}
use Rattle.history.specs.Handed.{TakenIn}
use Rattle.history.proofs.HandedCalls.{call_came, locks_serials}
use Rattle.history.proofs.Shared.{HandedBack, asked_cells, sorted_cells, chosen_keys, sorted_rises, sorted_place, sorted_place_at, rising_earlier, all_inner, in_place, steps_hand_back, back_own, buffers_name}
use Rattle.sorted_theory.specs.Statements.{Shares, SerialsByCell, ApartByCell, TakenRising, EachKeyLive}
use Rattle.sorted_theory.specs.Runs.{Goes, refused_whole, refused_key, locks, goes}

-- ---- two events of one log

-- the one behind which fewer takes stand is the earlier one
parts_ordered : (xs us ys vs : List Event) (e f : Event) → xs ++ (e ∷ ys) ≡ us ++ (f ∷ vs) → number_of_lem takes xs < number_of_lem takes us → (m : List Event) × (us ≡ xs ++ (e ∷ m))
unfolding number_of_lem
parts_ordered [] [] ys vs e f q l = absurd (omega arith)
parts_ordered [] (u ∷ us) ys vs e f q l = let z : e ≡ u = cc in (us, ap (λ (y : Event). y ∷ us) (sym z))
parts_ordered (x ∷ xs) [] ys vs e f q l = absurd (omega arith)
parts_ordered (x ∷ xs) (u ∷ us) ys vs e f q l =
    let z : x ≡ u = cc in
    let t : xs ++ (e ∷ ys) ≡ us ++ (f ∷ vs) = cc in
    let m = parts_ordered xs us ys vs e f t (fewer x u xs us z l) in
    (m.0, ap (λ (y : Event). y ∷ us) (sym z) ∙ ap (λ (zs : List Event). x ∷ zs) m.1)
  where
    fewer : (x u : Event) (xs us : List Event) → x ≡ u → number_of_lem takes (x ∷ xs) < number_of_lem takes (u ∷ us) → number_of_lem takes xs < number_of_lem takes us
    fewer x u xs us z l = omega (arith, l, ap (λ (y : Event). number_of_lem takes (y ∷ us)) z)

module _ (w : World) (registry script : List ℕ) (place : ℕ) (held keys grants : List ℕ) where
  abbrev b : ℕ
  b = w.head.buckets

  abbrev cell : ℕ → ℕ
  cell = key_cell b registry keys

  abbrev said : Made (World × Says)
  said = perform w (acquire_sorted registry script place held keys grants)

  abbrev inner_leases : List Hold
  inner_leases = holds_of (sorted_locks w registry script place held keys grants).seen.1.1.1

  abbrev leases : List Hold
  leases = holds_of (buffer_in said)

  -- the locks were all granted, and their leases handed back by key
  record GrantedSo (m : Made (World × Says)) : Type 0 where
    pub inner : (sorted_locks w registry script place held keys grants).seen.0.answer ≡ AllGranted
    pub back : HandedBack b registry keys inner_leases (holds_of (buffer_in m))
    pub words : buffer_in m ≡ words_of w.head.boot (holds_of (buffer_in m))

  granted : said.seen.1.answer ≡ AllGranted → GrantedSo said
  granted = go (goes w registry script place held keys grants)
    where
      go : {m : Made (World × Says)} → Goes w registry script place held keys grants m → m.seen.1.answer ≡ AllGranted → GrantedSo m
      go (refused_whole r) a = let z : ◌≡◌ {A = ℕ} 0 1 = cc in absurd (omega arith)
      go (refused_key r p c x) a = let z : ◌≡◌ {A = ℕ} 0 1 = cc in absurd (omega arith)
      go (locks c) a =
          let o = (sorted_locks w registry script place held keys grants).seen in
          let e = all_inner (asked_cells b registry keys) (sorted_cells b registry keys) o.0.answer a in
          record {
            inner = e;
            back = subst (λ (x : Answer). HandedBack b registry keys inner_leases (holds_of (handed_back w.head.boot x (asked_cells b registry keys) o.1.1.1))) (sym e)
                (steps_hand_back w registry script place held keys grants e);
            words = subst (λ (x : Answer). let ws = handed_back w.head.boot x (asked_cells b registry keys) o.1.1.1 in ws ≡ words_of w.head.boot (holds_of ws)) (sym e)
                (ap (words_of w.head.boot) (sym (words_back w.head.boot (shared_of inner_leases (asked_cells b registry keys)))));
          }

  pub handed_so : said.seen.1.answer ≡ AllGranted
      → HandedBack b registry keys (holds_of (sorted_locks w registry script place held keys grants).seen.1.1.1) (holds_of (buffer_in said))
  handed_so a = (granted a).back

  -- the buffer is its cells and serials, each with the head's boot number
  pub words_so : said.seen.1.answer ≡ AllGranted → buffer_in said ≡ words_of w.head.boot (holds_of (buffer_in said))
  words_so a = (granted a).words

  pub key_shares : (p q : ℕ) → said.seen.1.answer ≡ AllGranted → p < count_in keys → q < count_in keys → cell p ≡ cell q → hold_at leases p ≡ hold_at leases q
  key_shares p q a x y e =
      let h = (granted a).back in
      h.each p x ∙ ap (λ (c : ℕ). hold_at inner_leases (first_asking (sorted_cells b registry keys) c)) e ∙ sym (h.each q y)

  key_serials : (p q : ℕ) → said.seen.1.answer ≡ AllGranted → p < count_in keys → q < count_in keys → cell p < cell q → (hold_at leases p).serial < (hold_at leases q).serial
  key_serials p q a x y l =
      let g = granted a in
      let h = g.back in
      let i = sorted_place_at b registry keys p x in
      let j = sorted_place_at b registry keys q y in
      let before = rising_earlier (sorted_cells b registry keys) (sorted_rises b registry keys) (sorted_place b registry keys p) (sorted_place b registry keys q) i.0 j.0 (omega (arith, i.1, j.1, l)) in
      let rise = locks_serials (length (sorted_cells b registry keys)) (given w.head script (holds_of held)) b w.head.boot registry (chosen_keys b registry keys) (starting w.head place) w.table w.health grants
      (sorted_place b registry keys p) (sorted_place b registry keys q) g.inner before (omega (arith, j.0, h.many)) in
      omega (arith, ap (λ (k : Hold). k.serial) (h.each p x), ap (λ (k : Hold). k.serial) (h.each q y), rise)

  key_apart : (p q : ℕ) → said.seen.1.answer ≡ AllGranted → p < count_in keys → q < count_in keys → cell p ≢ cell q → (hold_at leases p).serial ≢ (hold_at leases q).serial
  key_apart p q a x y n e = go (dec_lt (cell p) (cell q)) (dec_lt (cell q) (cell p))
    where
      go : Dec (cell p < cell q) → Dec (cell q < cell p) → ⊥
      go (yes l) d = omega (arith, key_serials p q a x y l, e)
      go (no l) (yes d) = omega (arith, key_serials q p a y x d, e)
      go (no l) (no d) = n (omega arith)

  -- a key's lease was taken in the call
  key_handed : (p : ℕ) → said.seen.1.answer ≡ AllGranted → p < count_in keys → HandsOver said.seen.1.answer (buffer_in said) (hold_at leases p)
  key_handed p a x = subst (λ (z : Answer). HandsOver z (buffer_in said) (hold_at leases p)) (sym a) (in_place leases p (omega (arith, (granted a).back.as_many, x)))

  key_own : (p : ℕ) → said.seen.1.answer ≡ AllGranted → p < count_in keys → (hold_at leases p).cell ≡ cell p
  key_own p a x = back_own b registry keys (granted a).back p x

  abbrev BothTaken : (c d s t : ℕ) → Type 0
  BothTaken c d s t = (x y z : List Event) × (said.log ≡ x ++ (took by_caller c s ∷ (y ++ (took by_caller d t ∷ z))))

  taken_behind : (l k : Hold) → TakenIn w.head.next l said.log → TakenIn w.head.next k said.log → l.serial < k.serial → BothTaken l.cell k.cell l.serial k.serial
  taken_behind l k t u less =
      let m = parts_ordered t.before u.before t.after u.after (took by_caller l.cell l.serial) (took by_caller k.cell k.serial) (sym t.parts ∙ u.parts)
      (omega (arith, t.was_next, u.was_next, less)) in (
        t.before,
        m.0,
        u.after,
        u.parts ∙ ap (λ (z : List Event). z ++ (took by_caller k.cell k.serial ∷ u.after)) m.1 ∙ append_assoc t.before (took by_caller l.cell l.serial ∷ m.0) _,
      )

  key_taken : (p q : ℕ) → said.seen.1.answer ≡ AllGranted → p < count_in keys → q < count_in keys → cell p < cell q
      → BothTaken (cell p) (cell q) (hold_at leases p).serial (hold_at leases q).serial
  key_taken p q a x y l =
      let k = acquire_sorted registry script place held keys grants in
      let t = call_came w k (hold_at leases p) (key_handed p a x) in
      let u = call_came w k (hold_at leases q) (key_handed q a y) in
      subst (λ (c : ℕ). BothTaken c (cell q) (hold_at leases p).serial (hold_at leases q).serial) (key_own p a x)
      (subst (λ (d : ℕ). BothTaken (hold_at leases p).cell d (hold_at leases p).serial (hold_at leases q).serial) (key_own q a y)
      (taken_behind (hold_at leases p) (hold_at leases q) t u (key_serials p q a x y l)))

pub shares : Shares perform
shares w registry script place held keys grants p q a x y e =
    let k = acquire_sorted registry script place held keys grants in
    let words = buffer_in (perform w k) in
    let full = buffers_name w k registry keys (any_order registry script place held keys grants) a in
    leases_equal (lease_in words p) (lease_in words q)
    (sym (hold_in_lem words p (omega (arith, full.0, x))) ∙ key_shares w registry script place held keys grants p q a x y e ∙ hold_in_lem words q (omega (arith, full.0, y)))
    (full.2 p x ∙ sym (full.2 q y))

pub serials_by_cell : SerialsByCell perform
serials_by_cell = key_serials

pub apart_by_cell : ApartByCell perform
apart_by_cell = key_apart

pub taken_rising : TakenRising perform
taken_rising = key_taken

pub each_key_live : EachKeyLive perform
each_key_live w registry script place held keys grants p a x =
    let k = acquire_sorted registry script place held keys grants in
    (key_own w registry script place held keys grants p a x, (call_kept w k).gain (hold_at (leases w registry script place held keys grants) p) (key_handed w registry script place held keys grants p a x))
