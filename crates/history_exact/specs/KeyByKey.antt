-- Multi-lock from outside: `acquire_index_bucket` key by key, each holding what was taken before; and, refused, `drop_lease` and `environment` for
-- each lease taken, the last first. Each such call passes its checks: the leases taken are live, different, and younger than those held.
use Prim.Native.Nat.{ℕ, zero, suc, ◌+◌, ◌*◌, ◌%◌, ◌≤◌, ◌<◌}
use Rattle.std.specs.Prelude.{◌≡◌, ◌||◌, eqb}
use Rattle.std.proofs.Math.Path.{refl, ap, subst}
use Rattle.std.proofs.Common.{sym, ◌∙◌, zero-add, take-suc, get_or-take}
use mathlib.Core.List.{List, [], ◌∷◌, ◌++◌, append-nil}
use Rattle.std.proofs.Math.Bool.{not}
use native.Mathlib.Omega.{arith}
use Rattle.std.proofs.Math.Dec.{ltb}
use Rattle.std.proofs.Math.ListN.{length, take, length-append}
use Rattle.std.proofs.Math.Seq.{take-length, length-take-le}
use borrow.Author.Tests.{ltb-false, not-false}
use Rattle.model.specs.Log.{Made, Event, by_caller, released}
use Rattle.model.specs.Arena.{leases_of, holds_of, words_of, set_cell, lease_under}
use Rattle.model.specs.Foreign.{Setting, protecting, steps_in, flow_of, boundary_of}
use Rattle.model.specs.Lock.{no_hold, hold_at, attempt_limit, none_yet, retry_of, give_back_of, Locks, ended_of, rollback_of, after_key, binding_at, bucket_at, locks_of, settled, answer_of, run_of}
use Rattle.model.specs.Checks.{count_in, lease_count, is_odd, locks_rules, lease_rules, not_live}
use Rattle.model.specs.Calls.{counts_of, given}
use Rattle.types.specs.declared.Answer.TheVariants.{Done, Granted, Refused, RefusedAt}
use Rattle.types.specs.declared.Counts.{Counts}
use Rattle.types.specs.declared.Head.{Head}
use Rattle.types.specs.declared.Hold.{Hold}
use Rattle.types.specs.declared.Outcome.{Outcome}
use Rattle.types.specs.declared.Refusal.{Refusal}
use Rattle.types.specs.declared.Refusal.TheVariants.{SerializationFailure}
use Rattle.types.specs.declared.Run.{Run}
use Rattle.types.specs.declared.Tried.{Tried}
use Rattle.choice.specs.Pick.{neither}
use Rattle.laws.specs.Shape.{shaped}
use Rattle.laws.specs.Checks.{not_stale}
use Rattle.history.specs.World.{World, Live}
use Rattle.history.specs.Items.{Says, says, perform, acquire_bucket, acquire_locks, environment, drop_lease}
use Rattle.history.specs.Statements.{answer_in, world_in}
use Rattle.history.specs.Tests.{In, in_left, in_right, in_take, in_index}
use Rattle.history.specs.Events.{Fit, lives}
use Rattle.history.specs.Logs.{Kept}
use Rattle.history.proofs.Logs.{nothing, event, kept_live, kept_next, weaken}
use Rattle.history.specs.Judged.{clear_front, clear_back, made_so}
use Rattle.history.specs.HeldLists.{clear_live}
use Rattle.history.specs.Steps.{With, world_at, of_run, of_tried, Won, won, none_yet_lem, no_more}
use Rattle.history.proofs.Steps.{boundary_kept, retry_kept}
use Rattle.history.specs.Many.{Held, of_locks}
use Rattle.history.proofs.Many.{one_more}
use Rattle.history_exact.specs.Statements.{Passes}
use Rattle.history_exact.specs.Script.{acquire_bucket_has, environment_has, place_in}
use Rattle.history_exact.specs.Attempts.{added_up, ◌and_then◌, locking, dropping, between, GivesBack, all_back, one_back, refused_at, KeyByKey, all_locked, one_locked, one_refused, LocksAsCalls, key_at}
use Rattle.history_exact.specs.Passing.{boundary_on, divides, holding_more, in_script, key_passes, leases_append}
use Rattle.history_exact.specs.Passing as passing
use Rattle.history_exact.specs.ScriptFacts.{place_goes}
use Rattle.history_exact.specs.CountedOn.{run_on, locks_on, back_on, keys_on}
use Rattle.history_exact.specs.Attempting.{nil, counted, from_nil, done_with, at_last}

-- from a run that counts: the same from one that has counted nothing, counted on
back_from : (e : Setting) (n : ℕ) (ls : List Hold) (r : Run) (t g : List ℕ)
    → give_back_of n e ls r t g ≡ run_on (counted r) (give_back_of n e ls (nil r.flow.next r.flow.place) t g)
back_from e n ls r t g = rw (from_nil r) at (back_on (counted r) e n ls (nil r.flow.next r.flow.place) t g)

keys_from : (e : Setting) (left p buckets boot : ℕ) (registry keys : List ℕ) (taken : List Hold) (r : Run) (t g grants : List ℕ)
    → locks_of left p e buckets boot registry keys taken r t g grants
    ≡ locks_on (counted r) (locks_of left p e buckets boot registry keys taken (nil r.flow.next r.flow.place) t g grants)
keys_from e left p buckets boot registry keys taken r t g grants =
    rw (from_nil r) at (keys_on (counted r) e left p buckets boot registry keys taken (nil r.flow.next r.flow.place) t g grants)

none_added : (c : Counts) → added_up (counts_of 0 0 0 0) c ≡ c
none_added c = rw (zero-add c.attempts, zero-add c.boundaries, zero-add c.yields, zero-add c.dropped)

-- a lease of the first n of a list, by its place
pub in_first_of : (P : Hold → Type 0) (n : ℕ) (ls : List Hold) → n ≤ length ls → ((i : ℕ) → i < n → P (hold_at ls i)) → (l : Hold) → In (take n ls) l → P l
in_first_of P n ls b all l i =
    let x = in_index (take n ls) l no_hold i in
    let y : x.0 < n = omega (arith, x.1, length-take-le n ls b) in
    subst P (sym (x.2 ∙ get_or-take n ls x.0 no_hold y)) (all x.0 y)

module _ (h : Head) (registry script held keys grants : List ℕ) where
  abbrev e : Setting
  e = given h script (holds_of held)

  -- ---- the ways of `KeyByKey` and `GivesBack`, for what a call is known to be

  abbrev Goes : ℕ → List Hold → World → ℕ → Made (World × Says) → Type 0
  Goes = KeyByKey perform h.boot registry script held keys grants

  abbrev Backs : List Hold → World → ℕ → Made (World × Says) → Type 0
  Backs = GivesBack perform h.boot registry script held keys grants

  abbrev locks_it : ℕ → List Hold → World → ℕ → Made (World × Says)
  locks_it = locking perform h.boot registry script held keys grants

  abbrev drops_it : Hold → World → Made (World × Says)
  drops_it = dropping perform h.boot registry script held keys grants

  abbrev bounds : List Hold → World → ℕ → Made (World × Says)
  bounds = between perform h.boot registry script held keys grants

  locked_as : {p : ℕ} {taken : List Hold} {w : World} {place : ℕ} {x n : Made (World × Says)} (l : Hold) → p < count_in keys → Passes w (key_at perform h.boot registry script held keys grants p taken place) → locks_it p taken w place ≡ x
      → answer_in x ≡ Granted (lease_under h.boot l) → Goes (p + 1) (taken ++ (l ∷ [])) (world_in x) (place_in x) n → Goes p taken w place (x and_then n)
  locked_as {p} {taken} {w} {place} {x} {n} l b fine q =
      subst (λ (y : Made (World × Says)). answer_in y ≡ Granted (lease_under h.boot l) → Goes (p + 1) (taken ++ (l ∷ [])) (world_in y) (place_in y) n → Goes p taken w place (y and_then n)) q
      (one_locked l b fine)

  refused_as : {p : ℕ} {taken : List Hold} {w : World} {place : ℕ} {x n : Made (World × Says)} (r : Refusal) → p < count_in keys → Passes w (key_at perform h.boot registry script held keys grants p taken place) → locks_it p taken w place ≡ x
      → answer_in x ≡ Refused r → Backs taken (world_in x) (place_in x) n → Goes p taken w place (refused_at perform h.boot registry script held keys grants r p (x and_then n))
  refused_as {p} {taken} {w} {place} {x} {n} r b fine q =
      subst (λ (y : Made (World × Says)). answer_in y ≡ Refused r → Backs taken (world_in y) (place_in y) n
      → Goes p taken w place (refused_at perform h.boot registry script held keys grants r p (y and_then n))) q
      (one_refused r b fine)

  back_as : {ls : List Hold} {w : World} {place : ℕ} {x y n : Made (World × Says)} (l : Hold) → drops_it l w ≡ x → answer_in x ≡ Done
      → bounds ls (world_in x) place ≡ y → answer_in y ≡ Done → Backs ls (world_in y) (place_in y) n → Backs (ls ++ (l ∷ [])) w place (x and_then (y and_then n))
  back_as {ls} {w} {place} {x} {y} {n} l q =
      subst (λ (x : Made (World × Says)). answer_in x ≡ Done → bounds ls (world_in x) place ≡ y → answer_in y ≡ Done → Backs ls (world_in y) (place_in y) n
      → Backs (ls ++ (l ∷ [])) w place (x and_then (y and_then n))) q
      (λ a s. subst (λ (y : Made (World × Says)). answer_in y ≡ Done → Backs ls (world_in y) (place_in y) n
      → Backs (ls ++ (l ∷ [])) w place (drops_it l w and_then (y and_then n))) s (λ b k. one_back l a refl b k))

  -- ---- where a multi-lock stands: the first n of these leases are taken and not given back

  record Standing (first : ℕ) (v : World) (place n : ℕ) (ls : List Hold) : Type 0 where
    pub passes : Passes v (acquire_locks registry script place held keys grants)
    pub own : v.head.boot ≡ h.boot
    pub mine : Held v n ls
    pub young : (i : ℕ) → i < n → first ≤ (hold_at ls i).serial
    pub few : n ≤ count_in keys

  -- what the caller held is older
  abbrev Older : ℕ → Type 0
  Older first = (l : Hold) → In (holds_of held) l → l.serial < first

  module _ {first : ℕ} {v : World} {place n : ℕ} {ls : List Hold} (s : Standing first v place n ls) where
    shape_stands : Fit v
    unfolding locks_rules
    shape_stands = record { shape = shaped v.head (length v.table) (not-false _ s.passes.0) }

    inside : place ≤ steps_in script
    unfolding locks_rules
    inside = in_script script place s.passes.1.1.1.0

    whole_leases : length held % 3 ≡ 0
    unfolding locks_rules
    whole_leases = divides held s.passes.1.1.1.1.0

    taken_live : (l : Hold) → In (take n ls) l → Live v l
    taken_live = in_first_of (Live v) n ls s.mine.enough s.mine.all_live

    -- held and taken are at most 64
    room : lease_count held + length (take n ls) ≤ 64
    unfolding locks_rules
    room =
        let many = (clear_back (not_live v.head v.table 0 (leases_of held)) _ s.passes.1.1.1.1.1).0 in
        let two = neither (is_odd keys || ltb 64 (lease_count held + count_in keys)) (not (eqb (length grants) (3 * count_in keys))) many in
        omega (arith, ltb-false 64 (lease_count held + count_in keys) (neither (is_odd keys) (ltb 64 (lease_count held + count_in keys)) two.0).1, s.few, length-take-le n ls s.mine.enough)

    module _ (p : ℕ) (b : p < count_in keys) where
      key_fine : Passes v (acquire_bucket registry script place (held ++ words_of h.boot (take n ls)) (binding_at keys p) (bucket_at keys p))
      key_fine =
          subst (λ (boot : ℕ). Passes v (acquire_bucket registry script place (held ++ words_of boot (take n ls)) (binding_at keys p) (bucket_at keys p))) s.own
          (holding_more v registry script place held (binding_at keys p) (take n ls) room taken_live (key_passes v registry script place held keys grants p b s.passes))

      boundary_fine : Passes v (environment script place (held ++ words_of h.boot (take n ls)))
      boundary_fine =
          boundary_on (held ++ words_of h.boot (take n ls)) (nothing {w = v} {P = In (holds_of (held ++ words_of h.boot (take n ls)))}) registry script place place (binding_at keys p) inside key_fine

    -- after lawful events that spare what is held and the first m of what is taken
    moved : {u : World} {es : List Event} (q m : ℕ) → q ≤ steps_in script → m ≤ n → Kept v (In (holds_of held)) u es
        → ((i : ℕ) → i < m → Live u (hold_at ls i)) → Standing first u q m ls
    moved q m i b k live =
        record {
          passes = passing.locks_on held k registry script place q keys grants i s.passes;
          own = passing.same_boot held k ∙ s.own;
          mine = record { enough = omega (arith, s.mine.enough); all_live = live; distinct = λ i j x y. s.mine.distinct i j (omega arith) (omega arith) };
          young = λ i x. s.young i (omega arith);
          few = omega (arith, s.few);
        }

  -- ---- giving back

  gives_back : {first : ℕ} → Older first → (p : ℕ) → p < count_in keys → (n s place : ℕ) (t g : List ℕ) (ls : List Hold) → Standing first (world_at h s t g) place n ls
      → Backs (take n ls) (world_at h s t g) place (done_with h (give_back_of n e ls (nil s place) t g))
  unfolding give_back_of lease_rules locks_rules
  gives_back old p b zero s place t g ls st = all_back
  gives_back {first} old p b (suc n) s place t g ls st =
      let v = world_at h s t g in
      let l = hold_at ls n in
      let u = set_cell t l.cell 0 0 in
      let live = st.mine.all_live n (omega arith) in
      let named = lease_under h.boot l in
      let gone : Kept v (λ k. k ≡ l → ⊥) (world_at h s u g) (released by_caller l.cell l.serial ∷ []) =
      event (released by_caller l.cell l.serial) live (λ k f _ x. f x) in
      let dropped : Standing first (world_at h s u g) place n ls =
      moved st place n (inside st) (omega arith) (weaken (λ k i _ x. omega (arith, old k i, st.young n (omega arith), ap (λ (y : Hold). y.serial) x)) gone)
      (λ i x. kept_live (shape_stands st) gone (hold_at ls i) (λ y. omega (arith, st.mine.distinct i n (omega arith) (omega arith) y)) (st.mine.all_live i (omega arith))) in
      let c = boundary_of (protecting e (take n ls)) (flow_of s place 0) u g in
      let f = c.seen.0 in
      let kept = (boundary_kept h script (holds_of held ++ take n ls) (flow_of s place 0) u g (shape_stands dropped)).kept in
      let call = environment script place (held ++ words_of h.boot (take n ls)) in
      let is : bounds (take n ls) (world_at h s u g) place ≡ done_with h (record { seen = (run_of f 0 1 0, c.seen.1); log = c.log }) =
      made_so (world_at h s u g) (environment script place (held ++ words_of h.boot (take n ls))) (boundary_fine dropped p b)
      ∙ ap (λ (ps : List Hold). let c = boundary_of (given h script ps) (flow_of s place 0) u g in done_with h (record { seen = (run_of c.seen.0 0 1 0, c.seen.1); log = c.log }))
      (leases_append h.boot held (take n ls) (whole_leases dropped)) in
      let within = subst (λ (x : Made (World × Says)). place_in x ≤ steps_in script) is
      (place_goes (world_at h s u g) call (environment_has script place (held ++ words_of h.boot (take n ls))) (boundary_fine dropped p b)).1 in
      let rest = gives_back old p b n f.next f.place c.seen.1.0 c.seen.1.1 ls
      (moved dropped f.place n within (omega arith) (weaken (λ k i _. in_left k (holds_of held) (take n ls) i) kept)
      (λ i x.
      kept_live (shape_stands dropped) kept (hold_at ls i) (in_right (hold_at ls i) (holds_of held) (take n ls) (in_take ls n i no_hold x (omega (arith, st.mine.enough))))
      (dropped.mine.all_live i x))) in
      let m = give_back_of n e ls (nil f.next f.place) c.seen.1.0 c.seen.1.1 in
      let whole =
      ap (λ (k : Counts). record { seen = (of_run h m.seen, says Done k m.seen.0.flow.place []); log = released by_caller l.cell l.serial ∷ (c.log ++ m.log) })
      (none_added (added_up (counts_of 0 1 0 f.dropped) (counted m.seen.0)))
      ∙ ap (λ (k : Made (With Run)). done_with h (record { seen = k.seen; log = released by_caller l.cell l.serial ∷ (c.log ++ k.log) }))
      (sym (back_from e n ls (run_of f 0 1 0) c.seen.1.0 c.seen.1.1)) in
      subst (λ (ks : List Hold). Backs ks v place (done_with h (give_back_of (suc n) e ls (nil s place) t g))) (sym (take-suc ls n no_hold (omega (arith, st.mine.enough))))
      (subst (Backs (take n ls ++ (l ∷ [])) v place) whole
      (back_as l (made_so v (drop_lease named) (st.passes.0, (not_stale h named refl, (ap not live, tt)))) refl is refl rest))

  -- ---- locking

  -- as the call says it
  abbrev as_locks : Made Locks → Made (World × Says)
  as_locks m =
      record {
        seen = (of_locks h m.seen, says m.seen.0.answer (counted m.seen.0.run) m.seen.0.run.flow.place m.seen.1.1.1);
        log = m.log;
      }

  -- behind the attempts of a key
  abbrev then_locks : Made (With Tried) → Made Locks → Made (World × Says)
  then_locks m o = as_locks (record { seen = o.seen; log = m.log ++ o.log })

  -- the keys behind position p, from the run r, with one lease more
  abbrev more : ℕ → ℕ → List Hold → Made (With Tried) → Run → Hold → Made Locks
  more left p taken m r l = locks_of left (p + 1) e h.buckets h.boot registry keys (taken ++ (l ∷ [])) r m.seen.1.0 m.seen.1.1 grants

  module _ {first : ℕ} (old : Older first) (p : ℕ) (b : p < count_in keys) (taken : List Hold) (w : World) (place : ℕ) (m : Made (With Tried))
      (fine : Passes w (key_at perform h.boot registry script held keys grants p taken place)) (is : locks_it p taken w place ≡ at_last h m) (st : Standing first (of_tried h m.seen) m.seen.0.run.flow.place (length taken) taken) where
    rolls_back : (x : Refusal) → answer_in (at_last h m) ≡ Refused x
        → Goes p taken w place (then_locks m (rollback_of e taken x p m.seen.0.run m.seen.1.0 m.seen.1.1 grants))
    unfolding rollback_of
    rolls_back x a =
        let r = m.seen.0.run in
        let back = give_back_of (length taken) e taken (nil r.flow.next r.flow.place) m.seen.1.0 m.seen.1.1 in
        subst (λ (o : Made (With Run)). Goes p taken w place (then_locks m (record { seen = (ended_of o.seen.0 (RefusedAt x p), (o.seen.1.0, (o.seen.1.1, grants))); log = o.log ++ [] })))
        (sym (back_from e (length taken) taken r m.seen.1.0 m.seen.1.1))
        (rw (append-nil back.log)
        (refused_as x b fine is a
        (subst (λ (ls : List Hold). Backs ls (of_tried h m.seen) r.flow.place (done_with h back)) (take-length taken)
        (gives_back old p b (length taken) r.flow.next r.flow.place m.seen.1.0 m.seen.1.1 taken st))))

    after_key_lem : {c : ℕ} (left : ℕ) (o : Outcome) → m.seen.0.outcome ≡ o → Won c (of_tried h m.seen) o
        → ((l : Hold) → Live (of_tried h m.seen) l → c ≤ l.serial
        → Goes (p + 1) (taken ++ (l ∷ [])) (of_tried h m.seen) m.seen.0.run.flow.place (as_locks (more left p taken m (nil m.seen.0.run.flow.next m.seen.0.run.flow.place) l)))
        → Goes p taken w place (then_locks m (after_key o e taken p m.seen.0.run m.seen.1.0 m.seen.1.1 grants (more left p taken m m.seen.0.run)))
    after_key_lem left o q (won l x i) on =
        subst (λ (k : Made Locks). Goes p taken w place (then_locks m k))
        (sym (keys_from e left (p + 1) h.buckets h.boot registry keys (taken ++ (l ∷ [])) m.seen.0.run m.seen.1.0 m.seen.1.1 grants))
        (locked_as l b fine is (ap (λ (z : Outcome). answer_of h.boot (settled z)) q) (on l x i))
    after_key_lem left o q (none_yet_lem {why = why}) on = rolls_back (SerializationFailure why) (ap (λ (z : Outcome). answer_of h.boot (settled z)) q)
    after_key_lem left o q (no_more r) on = rolls_back r (ap (λ (z : Outcome). answer_of h.boot (settled z)) q)

  locks_are : {first : ℕ} → Older first → (left p n place : ℕ) (t g : List ℕ) (taken : List Hold) → p + left ≡ count_in keys → length taken ≡ p → first ≤ n
      → Standing first (world_at h n t g) place (length taken) taken
      → Goes p taken (world_at h n t g) place (as_locks (locks_of left p e h.buckets h.boot registry keys taken (nil n place) t g grants))
  unfolding locks_of
  locks_are old zero p n place t g taken l k f st = let z : p ≡ count_in keys = omega arith in all_locked z
  locks_are {first} old (suc left) p n place t g taken l k f st =
      let v = world_at h n t g in
      let b : p < count_in keys = omega arith in
      let m = retry_of attempt_limit 0 none_yet (protecting e taken) h.buckets registry (binding_at keys p) (bucket_at keys p) (nil n place) t g in
      let s = m.seen.0.run.flow in
      let kept = retry_kept h script attempt_limit 0 none_yet (holds_of held ++ taken) registry (binding_at keys p) (bucket_at keys p) (nil n place) t g (shape_stands st) in
      let call = acquire_bucket registry script place (held ++ words_of h.boot taken) (binding_at keys p) (bucket_at keys p) in
      let has = acquire_bucket_has registry script place (held ++ words_of h.boot taken) (binding_at keys p) (bucket_at keys p) in
      let fine : Passes v call =
      subst (λ (ls : List Hold). Passes v (acquire_bucket registry script place (held ++ words_of h.boot ls) (binding_at keys p) (bucket_at keys p))) (take-length taken) (key_fine st p b) in
      let is : locks_it p taken v place ≡ at_last h m =
      made_so v call fine
      ∙ ap (λ (ps : List Hold). at_last h (retry_of attempt_limit 0 none_yet (given h script ps) h.buckets registry (binding_at keys p) (bucket_at keys p) (nil n place) t g))
      (leases_append h.boot held taken (whole_leases st)) in
      let within = subst (λ (x : Made (World × Says)). place_in x ≤ steps_in script) is (place_goes v call has fine).1 in
      let still : (i : ℕ) → i < length taken → Live (of_tried h m.seen) (hold_at taken i) = λ i j.
      kept_live (shape_stands st) kept.kept (hold_at taken i)
      (in_right (hold_at taken i) (holds_of held) taken (subst (λ (x : List Hold). In x (hold_at taken i)) (take-length taken) (in_take taken (length taken) i no_hold j j)))
      (st.mine.all_live i j) in
      let now = moved st s.place (length taken) within (omega arith) (weaken (λ c i _. in_left c (holds_of held) taken i) kept.kept) still in
      after_key_lem old p b taken v place m fine is now left m.seen.0.outcome refl kept.gain
      (λ c x i.
      let all = one_more {w = v} {ls = taken} c (record { are_held = st.mine; young = st.young }) still f x i in
      locks_are old left (p + 1) s.next s.place m.seen.1.0 m.seen.1.1 (taken ++ (c ∷ [])) (omega arith) (omega (arith, length-append taken (c ∷ []))) (omega (arith, kept_next kept.kept))
      (record { passes = now.passes; own = refl; mine = all.are_held; young = all.young; few = omega (arith, length-append taken (c ∷ [])) }))

pub locks_as_calls : LocksAsCalls perform
unfolding locks_rules
locks_as_calls w registry script place held keys grants fine =
    let old = clear_live w.head w.table held (clear_front (not_live w.head w.table 0 (leases_of held)) _ fine.1.1.1.1.1) in
    subst (KeyByKey perform w.head.boot registry script held keys grants 0 [] w place) (sym (made_so w (acquire_locks registry script place held keys grants) fine))
    (locks_are w.head registry script held keys grants (λ l i. (lives w l (old l i)).high) (count_in keys) 0 w.head.next place w.table w.health [] (omega arith) refl (omega arith)
    (record {
      passes = fine;
      own = refl;
      mine = record { enough = omega arith; all_live = λ i x. absurd (omega arith); distinct = λ i j x. absurd (omega arith) };
      young = λ i x. absurd (omega arith);
      few = omega arith;
    }))
