-- Ours meets it.
use Prim.Native.Nat.{ℕ, zero, suc, ◌+◌, ◌*◌, ◌/◌, ◌<◌}
use Rattle.std.specs.Prelude.{◌≡◌, Bool, false, not, leb, eqb, length, set, take, if◌then◌else◌, Ok, Err}
use Rattle.std.proofs.Math.Path.{refl, sym, ap, subst}
use Rattle.std.proofs.Common.{◌∙◌, inl, inr, zero-add, suc-mul, mul-le-mul_right, arith}
use mathlib.Core.List.{List, [], ◌∷◌, ◌++◌, append-nil}
use Rattle.std.proofs.Math.Bool.{true}
use Rattle.std.proofs.Math.ListN.{get_or, length-set}
use Rattle.types.specs.Checks.{Found}
use borrow.Author.Tests.{eqb-true, eqb-false, leb-true, leb-false, lt-leb, not-false}
use Rattle.model.specs.Log.{Made, Event, attempt_begun, by_caller, released, gives}
use Rattle.model.specs.Arena.{spent_to, cells_of, bit_at, owner_at, state_at, is_live, set_cell, holds_of, hold_in, words_of}
use Rattle.model.specs.Foreign.{flow_of, boundary_of}
use Rattle.model.specs.Lock.{took_of, take_of, answer_of, outcome_of, lock_of, find_of, attempt_at, attempt_of, run_of, hold_at, give_back_of}
use Rattle.model.specs.Checks.{cell_rules, lease_rules, held_cell_rules, held_lease_rules, script_rules, lock_rules, bucket_rules, bad_held, bad_cell}
use Rattle.model.specs.Calls.{given, starting, acquire_of}
use Rattle.model.specs.Crew.{rests, adds, crew_start}
use Rattle.types.specs.declared.Answer.{Answer}
use Rattle.types.specs.declared.Answer.TheVariants.{Done, Cell, Granted, AllGranted, Busy, Refused, RefusedAt}
use Rattle.types.specs.declared.Hold.{Hold}
use Rattle.types.specs.declared.Lease.{Lease}
use Rattle.types.specs.declared.Reason.{Reason}
use Rattle.types.specs.declared.Reason.TheVariants as reason
use Rattle.types.specs.declared.Run.{Run}
use Rattle.types.specs.declared.Refusal.TheVariants.{BadHeader, Poisoned, InvalidBucket}
use Rattle.types.specs.declared.Take.TheVariants as taking
use Rattle.laws.specs.Checks.{live_inside}
use Rattle.history.specs.World.{World, world_of}
use Rattle.history.specs.Items.{Says, says, Clear, rules, perform, Call, try_acquire, drop_lease, competing_acquire, release_then_handoff, foreign_release, drop_preserving, acquire_preserving, environment, try_lock, transactional, acquire_bucket, release_all, acquire_locks, crew, crew_at_work}
use Rattle.history.specs.Judged.{past_checks, clear_front, clear_back, clear_append, made_so}
use Rattle.history.specs.Tests.{alive, state_held}
use Rattle.history_exact.specs.Attempts as calls
use Rattle.history_exact.specs.Attempting.{bucket_attempts}
use Rattle.history_exact.specs.KeyByKey.{locks_as_calls}
use Rattle.pinned.specs.Words.{SeenAs, logged, counted, holds, words}
use Rattle.pinned.specs.Steps.{at, Boundary, Locks}
use Rattle.pinned.specs.Statements.{Beyond, ByKey, left_by, place_by, joined, Pauses, AfterAttempt, Retries, dropping, between, locking, refused_at, GivesBack, all_back, one_back, AfterKey, Keys}
use Rattle.pinned.proofs.Decided.{holds_same}
use Rattle.pinned.specs.Stepping.{ReleasesEach}
use Rattle.pinned.proofs.Stepping.{takes, point, pointed, boundary_is, shown, lock_is, back_is}
use Rattle.pinned.proofs.Crewed.{turns_are}

module _ (w : World) where
  abbrev pub B : Call → Type 0
  B k = Beyond perform w k (perform w k)

  pub acquire_is : (c : ℕ) → Clear (rules w (try_acquire c)) → B (try_acquire c)
  unfolding acquire_of
  acquire_is c k =
      let m = take_of w.head.next w.table c in
      let o = m.seen in
      let x : World × Answer = (world_of (spent_to w.head o.0.next) o.1 w.health, answer_of w.head.boot (outcome_of c o.0.answer)) in (
        logged (x.0, says x.1 (counted 1 0 0 0) 0 []) m.log,
        (logged x m.log, takes w.head w.head.next w.table w.health c, refl),
        made_so w (try_acquire c) k ∙ ap (λ (es : List Event). logged (x.0, says x.1 (counted 1 0 0 0) 0 []) (attempt_begun ∷ es)) (append-nil m.log),
      )

  pub drop_is : (l : Lease) → Clear (rules w (drop_lease l)) → B (drop_lease l)
  unfolding set_cell
  drop_is l k = made_so w (drop_lease l) k

  -- ---- as calls

  lease_cell : (l : Lease) → Clear (lease_rules w.head w.table l) → Clear (cell_rules w.head w.table l.cell)
  unfolding lease_rules cell_rules
  lease_cell l k = (k.0, (lt-leb (cells_of w.head) l.cell (live_inside _ _ _ (hold_in l) (not-false _ k.1.1.0)), tt))

  held_lease : (held : List ℕ) (l : Lease) → Clear (held_lease_rules w.head w.table held l) → Clear (lease_rules w.head w.table l)
  unfolding held_lease_rules lease_rules
  held_lease held l k = let c = clear_back (bad_held w.head w.table held) _ k.1 in (k.0, (c.0, (c.1.0, tt)))

  held_cell : (held : List ℕ) (c : ℕ) → Clear (held_cell_rules w.head w.table held c) → Clear (cell_rules w.head w.table c)
  unfolding held_cell_rules cell_rules
  held_cell held c k = (k.0, clear_back (bad_held w.head w.table held) _ k.1)

  pub competing_is : (l : Lease) → Clear (rules w (competing_acquire l)) → B (competing_acquire l)
  competing_is l k = made_so w (competing_acquire l) k ∙ sym (made_so w (try_acquire l.cell) (lease_cell l k))

  pub acquire_held_is : (held : List ℕ) (c : ℕ) → Clear (rules w (acquire_preserving held c)) → B (acquire_preserving held c)
  acquire_held_is held c k = made_so w (acquire_preserving held c) k ∙ sym (made_so w (try_acquire c) (held_cell held c k))

  pub drop_held_is : (held : List ℕ) (l : Lease) → Clear (rules w (drop_preserving held l)) → B (drop_preserving held l)
  drop_held_is held l k = made_so w (drop_preserving held l) k ∙ sym (made_so w (drop_lease l) (held_lease held l k))

  -- the world after a release, where a cell number in range still is one
  abbrev after : ℕ → World
  after c = world_of w.head (set_cell w.table c 0 0) w.health

  cell_after : (c : ℕ) → Clear (cell_rules w.head w.table c) → Clear (cell_rules w.head (set_cell w.table c 0 0) c)
  unfolding cell_rules set_cell
  cell_after c k = (rw (length-set (set w.table (3 * c) 0) (3 * c + 1) 0, length-set w.table (3 * c) 0) k.0, k.1)

  -- a release, as a call
  abbrev released_now : Lease → Made (World × Says)
  released_now l = logged (after l.cell, says Done (counted 0 0 0 0) 0 []) (released by_caller l.cell l.serial ∷ [])

  pub handoff_is : (l : Lease) → Clear (rules w (release_then_handoff l)) → B (release_then_handoff l)
  unfolding acquire_of
  handoff_is l k =
      let c = l.cell in
      made_so w (release_then_handoff l) k
      ∙ sym (
      ap (λ (m : Made (World × Says)). joined m (perform (left_by m) (try_acquire c))) (made_so w (drop_lease l) k)
      ∙ ap (joined (released_now l)) (made_so (after c) (try_acquire c) (cell_after c (lease_cell l k)))
      )

  -- a live lease's cell is held
  held_take : (l : Lease) → is_live w.head.next (cells_of w.head) w.table (hold_in l) ≡ true
      → take_of w.head.next w.table l.cell ≡ gives (took_of w.head.next (taking.Busy (owner_at w.table l.cell)), w.table)
  unfolding take_of state_at
  held_take l e =
      let a = alive w.head.next (cells_of w.head) w.table (hold_in l) e in
      rw (state_held w.head.next (bit_at w.table l.cell) (owner_at w.table l.cell) a.bit_is (omega (arith, a.owner_is, a.low)) (omega (arith, a.owner_is, a.high)))

  pub between_is : (held : List ℕ) (l : Lease) → Clear (rules w (foreign_release held l)) → B (foreign_release held l)
  unfolding acquire_of lease_rules
  between_is held l k =
      let c = l.cell in
      let lease = held_lease held l k in
      let cell = lease_cell l lease in
      let busy = held_take l (live_of l lease) in
      let one : Made (World × Says) = logged (w, says (Busy (reason.Held (owner_at w.table c))) (counted 1 0 0 0) 0 []) (attempt_begun ∷ []) in
      let two = released_now l in
      let x : perform w (try_acquire c) ≡ one = made_so w (try_acquire c) cell ∙ rw busy in
      let y : perform w (drop_lease l) ≡ two = made_so w (drop_lease l) lease in
      let z = made_so (after c) (try_acquire c) (cell_after c cell) in
      let all : past_checks w (foreign_release held l) ≡ joined one (joined two (past_checks (after c) (try_acquire c))) = rw busy in
      made_so w (foreign_release held l) k ∙ (all ∙ sym (
      ap (λ (m : Made (World × Says)). joined m (joined (perform (left_by m) (drop_lease l)) (perform (left_by (perform (left_by m) (drop_lease l))) (try_acquire c)))) x
      ∙ (ap (λ (m : Made (World × Says)). joined one (joined m (perform (left_by m) (try_acquire c)))) y
      ∙ ap (λ (m : Made (World × Says)). joined one (joined two m)) z)
      ))
    where
      live_of : (l : Lease) → Clear (lease_rules w.head w.table l) → is_live w.head.next (cells_of w.head) w.table (hold_in l) ≡ true
      live_of l k = not-false _ k.1.1.0

  -- ---- with a script

  pub environment_is : (script : List ℕ) (place : ℕ) (held : List ℕ) → Clear (rules w (environment script place held)) → B (environment script place held)
  environment_is script place held k =
      let o = boundary_of (given w.head script (holds_of held)) (flow_of w.head.next place 0) w.table w.health in (
        pointed w.head script (holds_of held) o,
        subst (λ (ps : List Hold). Boundary script ps (at w place 0) (pointed w.head script (holds_of held) o)) (sym (holds_same held)) (boundary_is w.head script (holds_of held) (flow_of w.head.next place 0) w.table w.health),
        made_so w (environment script place held) k,
      )

  pub try_lock_is : (script : List ℕ) (place : ℕ) (held : List ℕ) (c : ℕ) → Clear (rules w (try_lock script place held c)) → B (try_lock script place held c)
  try_lock_is script place held c k =
      let o = lock_of (given w.head script (holds_of held)) w.head.buckets (flow_of w.head.next place 0) w.table w.health c in
      subst (λ (x : Made (World × Says)). Locks script (holds held) (at w place 0) c x) (sym (made_so w (try_lock script place held c) k))
      (subst (λ (ps : List Hold). Locks script ps (at w place 0) c (logged (shown w.head script o.seen) (attempt_begun ∷ o.log))) (sym (holds_same held)) (lock_is w.head script (holds_of held) (flow_of w.head.next place 0) w.table w.health c))

  back_keeps : (script : List ℕ) (n : ℕ) (ls : List Hold) (r : Run) (t g : List ℕ)
      → ((give_back_of n (given w.head script []) ls r t g).seen.0.attempts ≡ r.attempts) × ((give_back_of n (given w.head script []) ls r t g).seen.0.yields ≡ r.yields)
  unfolding give_back_of
  back_keeps script zero ls r t g = (refl, refl)
  back_keeps script (suc n) ls r t g =
      let o = (boundary_of (given w.head script (take n ls)) r.flow (set_cell t (hold_at ls n).cell 0 0) g).seen in
      back_keeps script n ls (run_of o.0 r.attempts (r.boundaries + 1) r.yields) o.1.0 o.1.1

  -- `release_all` in steps
  pub release_all_steps : (script : List ℕ) (place : ℕ) (leases : List ℕ) → Clear (rules w (release_all script place leases))
      → SeenAs (λ x. (x.1.world, says Done (counted 0 x.0 0 x.1.dropped) x.1.place [])) (ReleasesEach (length leases / 3) script (holds leases) 0 (at w place 0)) (perform w (release_all script place leases))
  release_all_steps script place leases k =
      let m = give_back_of (length leases / 3) (given w.head script []) (holds_of leases) (starting w.head place) w.table w.health in
      let o = m.seen in (
        logged (o.0.boundaries, point w.head script [] (o.0.flow, o.1)) m.log,
        subst (λ (ls : List Hold). ReleasesEach (length leases / 3) script ls 0 (at w place 0) (logged (o.0.boundaries, point w.head script [] (o.0.flow, o.1)) m.log)) (sym (holds_same leases))
            (back_is w.head script (length leases / 3) (holds_of leases) (starting w.head place) w.table w.health),
        made_so w (release_all script place leases) k
            ∙ (let e = back_keeps script (length leases / 3) (holds_of leases) (starting w.head place) w.table w.health in
            ap (λ (x : ℕ). logged (world_of (spent_to w.head o.0.flow.next) o.1.0 o.1.1, says Done (counted x o.0.boundaries o.0.yields o.0.flow.dropped) o.0.flow.place []) m.log) e.0
            ∙ ap (λ (x : ℕ). logged (world_of (spent_to w.head o.0.flow.next) o.1.0 o.1.1, says Done (counted 0 o.0.boundaries x o.0.flow.dropped) o.0.flow.place []) m.log) e.1),
      )

  pub crew_is : (counts cells turns : List ℕ) → Clear (rules w (crew counts cells turns)) → B (crew counts cells turns)
  crew_is counts cells turns k = (_, turns_are w.head w.health counts cells rests (crew_start w.head w.table []) turns, made_so w (crew counts cells turns) k)

  pub work_is : (counts cells turns counters : List ℕ) → Clear (rules w (crew_at_work counts cells turns counters)) → B (crew_at_work counts cells turns counters)
  work_is counts cells turns counters k =
      (_, turns_are w.head w.health counts cells adds (crew_start w.head w.table counters) turns, made_so w (crew_at_work counts cells turns counters) k)

  -- ---- by key

  inside : (h b header bucket : ℕ) → header < h → bucket < b → header * b + bucket < h * b
  inside h b header bucket i j = omega (arith, mul-le-mul_right b i, suc-mul header b)

  key_lock : (registry script : List ℕ) (place : ℕ) (held : List ℕ) (binding c : ℕ) → Clear (rules w (transactional registry script place held binding 0)) → c < cells_of w.head
      → Clear (rules w (try_lock script place held c))
  unfolding bucket_rules lock_rules script_rules
  key_lock registry script place held binding c k l = (
    k.0,
    (
      k.1.0,
      (
        k.1.1.1.0,
        clear_append (bad_held w.head w.table held) (bad_cell w.head c ∷ []) (clear_front (bad_held w.head w.table held) _ k.1.1.1.1) (lt-leb (cells_of w.head) c l, tt),
      ),
    ),
  )

  pub transactional_is : (registry script : List ℕ) (place : ℕ) (held : List ℕ) (binding bucket : ℕ) → Clear (rules w (transactional registry script place held binding bucket))
      → B (transactional registry script place held binding bucket)
  unfolding attempt_of find_of
  transactional_is registry script place held binding bucket k =
      subst (ByKey perform w registry script place held binding bucket) (sym (made_so w (transactional registry script place held binding bucket) k))
      (go (leb w.head.headers header) (eqb (get_or w.health header 0) 0) (leb w.head.buckets bucket) refl refl refl)
    where
      header : ℕ
      header = get_or registry binding 0

      made_at : Found → Made (World × Says)
      made_at x =
          let n = attempt_at x (given w.head script (holds_of held)) w.head.buckets (starting w.head place) w.table w.health in
          let m = n.seen in
          logged (
            world_of (spent_to w.head m.0.run.flow.next) m.1.0 m.1.1,
            says (answer_of w.head.boot m.0.outcome) (counted m.0.run.attempts m.0.run.boundaries m.0.run.yields m.0.run.flow.dropped) m.0.run.flow.place [],
          ) (attempt_begun ∷ n.log)

      go : (x y z : Bool) → leb w.head.headers header ≡ x → eqb (get_or w.health header 0) 0 ≡ y → leb w.head.buckets bucket ≡ z
          → ByKey perform w registry script place held binding bucket (made_at (if x then Err (BadHeader header) else if not y then Err (Poisoned header) else if z then Err (InvalidBucket bucket) else Ok (header * w.head.buckets + bucket)))
      go true y z e f g = inl (leb-true w.head.headers header e, refl)
      go false false z e f g = inr ((λ l. let i = leb-false w.head.headers header e in omega arith), inl (eqb-false _ 0 f, refl))
      go false true true e f g =
          inr ((λ l. let i = leb-false w.head.headers header e in omega arith), inr ((λ n. n (eqb-true _ 0 f)), inl (leb-true w.head.buckets bucket g, refl)))
      go false true false e f g =
          let i = leb-false w.head.headers header e in
          let j = leb-false w.head.buckets bucket g in
          let c = header * w.head.buckets + bucket in
          let o = lock_of (given w.head script (holds_of held)) w.head.buckets (flow_of w.head.next place 0) w.table w.health c in
          inr (
            (λ l. omega arith),
            inr (
              (λ n. n (eqb-true _ 0 f)),
              inr (
                (λ l. omega arith),
                rw (zero-add o.seen.0.boundaries, append-nil o.log) (sym (made_so w (try_lock script place held c) (key_lock registry script place held binding c k (inside w.head.headers w.head.buckets header bucket i j)))),
              ),
            ),
          )
      -- ---- attempts

module _ (attempt between : World → ℕ → Made (World × Says)) where
  pauses_so : {i : ℕ} {w : World} {p : ℕ} {m : Made (World × Says)} → calls.Pause attempt between i w p m → Pauses attempt between i w p m
  pauses_so (calls.only_spins n) = inr (n, refl)
  pauses_so (calls.also_yields e) = inl (e, refl)

  retries_so : {i : ℕ} {last : Reason} {w : World} {p : ℕ} {m : Made (World × Says)} (left : ℕ) → calls.Attempts attempt between i last w p m → i + left ≡ 4096
      → Retries attempt between left i last w p m
  unfolding Retries
  retries_so zero calls.all_busy e = refl
  retries_so (suc left) calls.all_busy e = absurd (omega arith)
  retries_so zero (calls.the_last l n) e = absurd (omega arith)
  retries_so {i} {last} {w} {p} (suc left) (calls.the_last l n) e = go (attempt w p).seen.1.answer (λ why f. n why f)
    where
      go : (x : Answer) → ((why : Reason) → x ≡ Busy why → ⊥) → AfterAttempt attempt between i (attempt w p) (λ why n. Retries attempt between left (i + 1) why (left_by n) (place_by n)) x (attempt w p)
      go (Busy why) f = absurd (f why refl)
      go (Granted l) f = refl
      go (Refused r) f = refl
      go Done f = refl
      go (Cell c) f = refl
      go AllGranted f = refl
      go (RefusedAt r q) f = refl
  retries_so zero (calls.one_busy why l f x more) e = absurd (omega arith)
  retries_so {i} {last} {w} {p} (suc left) (calls.one_busy {m} {n} why l f x more) e =
      subst (λ (a : Answer). AfterAttempt attempt between i (attempt w p) (λ why n. Retries attempt between left (i + 1) why (left_by n) (place_by n)) a (joined (attempt w p) (joined m n))) (sym f)
      (m, pauses_so x, (n, retries_so {i = i + 1} {last = why} {w = left_by m} {p = place_by m} left more (omega arith), refl))

pub bucket_is : (w : World) (registry script : List ℕ) (place : ℕ) (held : List ℕ) (binding bucket : ℕ) → Clear (rules w (acquire_bucket registry script place held binding bucket))
    → B w (acquire_bucket registry script place held binding bucket)
bucket_is w registry script place held binding bucket k =
    retries_so (λ v p. perform v (transactional registry script p held binding bucket)) (λ v p. perform v (environment script p held)) 4096
    (bucket_attempts w registry script place held binding bucket reason.Before k) refl

-- ---- multi-lock

pub words_same : (boot : ℕ) (ls : List Hold) → words boot ls ≡ words_of boot ls
unfolding words words_of
words_same boot [] = refl
words_same boot (l ∷ ls) = ap {B = List ℕ} (λ ws. l.cell ∷ l.serial ∷ boot ∷ ws) (words_same boot ls)

module _ (boot : ℕ) (registry script held keys grants : List ℕ) where
  back_so : {ls : List Hold} {w : World} {place : ℕ} {m : Made (World × Says)} → calls.GivesBack perform boot registry script held keys grants ls w place m
      → GivesBack perform boot script held ls w place m
  back_so calls.all_back = all_back
  back_so {w} {place} (calls.one_back {ls} {v} {n} l x e y rest) =
      let d = dropping perform boot script held l w in
      let b : calls.between perform boot registry script held keys grants ls v place ≡ between perform boot script held ls (left_by d) place
      = ap (λ (z : World). perform z (environment script place (held ++ words_of boot ls))) e
      ∙ ap (λ (z : List ℕ). perform (left_by d) (environment script place (held ++ z))) (sym (words_same boot ls)) in
      subst (λ (z : Made (World × Says)). GivesBack perform boot script held (ls ++ (l ∷ [])) w place (joined d (joined z n))) (sym b)
      (one_back l (subst (λ (z : Made (World × Says)). GivesBack perform boot script held ls (left_by z) (place_by z) n) b (back_so rest)))

  keys_so : {p : ℕ} {taken : List Hold} {w : World} {place : ℕ} {m : Made (World × Says)} (left : ℕ) → calls.KeyByKey perform boot registry script held keys grants p taken w place m
      → p + left ≡ length keys / 2 → Keys perform boot registry script held keys grants left p taken w place m
  unfolding Keys
  keys_so {taken} {w} {place} zero (calls.all_locked e) f = ap (λ (z : List ℕ). logged (w, says AllGranted (counted 0 0 0 0) place z) []) (sym (words_same boot taken))
  keys_so (suc left) (calls.all_locked e) f = absurd (omega arith)
  keys_so zero (calls.one_locked l k x e more) f = absurd (omega arith)
  keys_so {p} {taken} {w} {place} (suc left) (calls.one_locked {n} l k x e more) f =
      let u = calls.locking perform boot registry script held keys grants p taken w place in
      let b : u ≡ locking perform boot registry script held keys grants p taken w place
      = ap (λ (z : List ℕ). perform w (acquire_bucket registry script place (held ++ z) (get_or keys (2 * p) 0) (get_or keys (2 * p + 1) 0))) (sym (words_same boot taken)) in
      subst (λ (z : Made (World × Says)). AfterKey perform boot registry script held keys grants p taken z (λ l. Keys perform boot registry script held keys grants left (p + 1) (taken ++ (l ∷ [])) (left_by z) (place_by z)) z.seen.1.answer (joined u n)) b
      (subst (λ (a : Answer). AfterKey perform boot registry script held keys grants p taken u (λ l. Keys perform boot registry script held keys grants left (p + 1) (taken ++ (l ∷ [])) (left_by u) (place_by u)) a (joined u n)) (sym e)
      (n, keys_so {p = p + 1} {taken = taken ++ (l ∷ [])} {w = left_by u} {place = place_by u} left more (omega arith), refl))
  keys_so zero (calls.one_refused r k x e back) f = absurd (omega arith)
  keys_so {p} {taken} {w} {place} (suc left) (calls.one_refused {n} r k x e back) f =
      let u = calls.locking perform boot registry script held keys grants p taken w place in
      let b : u ≡ locking perform boot registry script held keys grants p taken w place
      = ap (λ (z : List ℕ). perform w (acquire_bucket registry script place (held ++ z) (get_or keys (2 * p) 0) (get_or keys (2 * p + 1) 0))) (sym (words_same boot taken)) in
      subst (λ (z : Made (World × Says)). AfterKey perform boot registry script held keys grants p taken z (λ l. Keys perform boot registry script held keys grants left (p + 1) (taken ++ (l ∷ [])) (left_by z) (place_by z)) z.seen.1.answer (refused_at perform boot registry script held keys grants r p (joined u n))) b
      (subst (λ (a : Answer). AfterKey perform boot registry script held keys grants p taken u (λ l. Keys perform boot registry script held keys grants left (p + 1) (taken ++ (l ∷ [])) (left_by u) (place_by u)) a (refused_at perform boot registry script held keys grants r p (joined u n))) (sym e)
      (n, back_so back, refl))

pub locks_is : (w : World) (registry script : List ℕ) (place : ℕ) (held keys grants : List ℕ) → Clear (rules w (acquire_locks registry script place held keys grants))
    → B w (acquire_locks registry script place held keys grants)
locks_is w registry script place held keys grants k =
    keys_so w.head.boot registry script held keys grants (length keys / 2) (locks_as_calls w registry script place held keys grants k) (zero-add (length keys / 2))
