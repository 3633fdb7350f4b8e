-- How a call goes: if a check applies it is refused and nothing changes, else its steps are made. What holds of both holds of the call.
use Rattle.std.specs.Prelude.{ℕ, ◌≡◌, refl, Bool, true, false, length, if◌then◌else◌, Ok, Err}
use Rattle.std.proofs.Common.{sym, ap, ◌∙◌, arith}
use Rattle.std.proofs.Math.Path.{subst}
use mathlib.Core.List.{List, [], ◌∷◌, ◌++◌, append-nil}
use Rattle.types.specs.Checks.{Check, KeyCheck}
use Rattle.model.specs.Log.{Made, by_caller, attempt_begun, released, gives, note, ◌>>=◌, ◌>>◌}
use Rattle.model.specs.Arena.{spent_to, set_cell, holds_of}
use Rattle.model.specs.Refusals.{Rule, refusal_of, first, judge}
use Rattle.model.specs.Foreign.{Setting, flow_of, boundary_of}
use Rattle.model.specs.Lock.{lock_of, answer_of, run_of, attempt_of, attempt_limit, none_yet, retry_of, settled, give_back_of, Locks, locks_of}
use Rattle.model.specs.Checks.{count_in, lease_count}
use Rattle.model.specs.Calls.{counts_of, given, starting, replied, script_reply, refused, acquire_of, try_acquire_of, drop_lease_of, read_permission_of, competing_acquire_of, release_then_handoff_of, foreign_release_of, acquire_preserving_of, drop_preserving_of, environment_of, try_lock_of, transactional_of, acquire_bucket_of, release_all_of, acquire_locks_of}
use Rattle.model.specs.Sorted.{cells_asked, cells_sorted, sorted_keys, first_key, judge_at, refused_key_at_once, asked_first, handed_back, sorted_locks_of, acquire_sorted_of}
use Rattle.model.specs.Crew.{Work, rests, adds, crew_start, turns_of, shift_of, crew_of, crew_at_work_of}
use Rattle.types.specs.declared.Answer.TheVariants as answer
use Rattle.types.specs.declared.CrewReply.{CrewReply}
use Rattle.types.specs.declared.ScriptReply.{ScriptReply}
use Rattle.types.specs.declared.Refusal.{Refusal}
use Rattle.types.specs.declared.Reply.{Reply}
use Rattle.history.specs.World.{World, world_of}
use Rattle.history.specs.Items.{Call, Says, says, try_acquire, drop_lease, read_permission, competing_acquire, release_then_handoff, foreign_release, drop_preserving, acquire_preserving, environment, try_lock, transactional, acquire_bucket, release_all, acquire_locks, acquire_sorted, crew, crew_at_work, unchanged, unchanged_at, perform, script_of, held_of, Clear, rules}

-- ---- checks that found nothing

pub clear : (rs : List Rule) → first rs ≡ Ok tt → Clear rs
unfolding first
clear [] e = tt
clear (r ∷ rs) e = go r.applies refl e (clear rs)
  where
    go : (b : Bool) → r.applies ≡ b → (if b then Err (refusal_of r.number r.carries) else first rs) ≡ Ok tt → (first rs ≡ Ok tt → Clear rs) → Clear (r ∷ rs)
    go true a e k = let z : ◌≡◌ {A = ℕ} 0 1 = cc in absurd (omega arith)
    go false a e k = (a, k e)

pub clear_fine : (rs : List Rule) → Clear rs → first rs ≡ Ok tt
unfolding first
clear_fine [] c = refl
clear_fine (r ∷ rs) c = rw c.0 (clear_fine rs c.1)

pub clear_front : (xs ys : List Rule) → Clear (xs ++ ys) → Clear xs
clear_front [] ys c = tt
clear_front (x ∷ xs) ys c = (c.0, clear_front xs ys c.1)

pub clear_append : (xs ys : List Rule) → Clear xs → Clear ys → Clear (xs ++ ys)
clear_append [] ys a b = b
clear_append (x ∷ xs) ys a b = (a.0, clear_append xs ys a.1 b)

pub clear_back : (xs ys : List Rule) → Clear (xs ++ ys) → Clear ys
clear_back [] ys c = c
clear_back (x ∷ xs) ys c = clear_back xs ys c.1

-- a call that is refused, by the first rule that applies, or whose checks found nothing
judged_by : {A : Type 0} (P : A → Type 0) (rules : List Rule) {refused : Refusal → A} {past_checks : A}
    → ((r : Refusal) → first rules ≡ Err r → P (refused r)) → (Clear rules → P past_checks) → P (judge (first rules) refused past_checks)
judged_by P rules {refused} {past_checks} r s = go (first rules) refl
  where
    go : (k : Check) → first rules ≡ k → P (judge k refused past_checks)
    go (Ok tt) e = s (clear rules e)
    go (Err x) e = r x e

pub judged : {A : Type 0} (P : A → Type 0) (rules : List Rule) {refused : Refusal → A} {past_checks : A}
    → ((r : Refusal) → P (refused r)) → (Clear rules → P past_checks) → P (judge (first rules) refused past_checks)
judged P rules r s = judged_by P rules (λ x _. r x) s

-- the same of the sorted call, whose keys' headers and buckets are tested by position behind
pub judged_at : {A : Type 0} (P : A → Type 0) (k : KeyCheck) {refused : Refusal → ℕ → A} {past_checks : A}
    → ((r : Refusal) (p : ℕ) → k ≡ Err (r, p) → P (refused r p)) → (k ≡ Ok tt → P past_checks) → P (judge_at k refused past_checks)
judged_at P (Ok tt) r s = s refl
judged_at P (Err (x, p)) r s = r x p refl

-- ---- the parts of a call

-- what its steps are given
abbrev pub acting : World → Call → Setting
acting w k = given w.head (script_of k) (held_of k)

-- what a call says, by what it hands over: a reply, with the table; a reply with a script, with table and health
abbrev pub reply : World → Reply × List ℕ → World × Says
reply w m = (world_of m.0.head m.1 w.health, says m.0.answer m.0.counts 0 [])

abbrev read : World → Reply → World × Says
read w m = (world_of m.head w.table w.health, says m.answer m.counts 0 [])

abbrev script_reply_lem : ScriptReply × (List ℕ × List ℕ) → World × Says
script_reply_lem m = (world_of m.0.head m.1.0 m.1.1, says m.0.answer m.0.counts m.0.place [])

abbrev pub grant : ScriptReply × (List ℕ × (List ℕ × List ℕ)) → World × Says
grant m = (world_of m.0.head m.1.0 m.1.1.0, says m.0.answer m.0.counts m.0.place m.1.1.1)

abbrev crewed : World → CrewReply × List ℕ → World × Says
crewed w m = (world_of m.0.head m.1 w.health, says m.0.answer (counts_of 0 0 0 0) 0 [])

abbrev worked : World → CrewReply × (List ℕ × List ℕ) → World × Says
worked w m = crewed w (m.0, m.1.0)

-- the same log, seen otherwise
abbrev pub seen_as : {A B : Type 0} → (A → B) → Made A → Made B
seen_as f m = record { seen = f m.seen; log = m.log }

-- the turns of a crew, in either work
abbrev pub shifted : Work → World → (counts cells turns counters : List ℕ) → Made (World × Says)
shifted work w counts cells turns counters =
    seen_as (λ v. (world_of (spent_to w.head v.next) v.table w.health, says answer.Done (counts_of 0 0 0 0) 0 []))
    (turns_of work w.head.headers w.head.buckets w.health counts cells (crew_start w.head w.table counters) turns)

-- multi-lock's own parts over the sorted keys, and how the caller sees them: by the keys as they were typed
abbrev pub sorted_locks : World → (registry script : List ℕ) (place : ℕ) (held keys grants : List ℕ) → Made Locks
sorted_locks w registry script place held keys grants =
    locks_of (length (cells_sorted w.head.buckets registry keys)) 0 (given w.head script (holds_of held)) w.head.buckets w.head.boot registry (sorted_keys w.head.buckets registry keys) []
    (starting w.head place) w.table w.health grants

abbrev pub as_asked : World → (registry keys : List ℕ) → Locks → World × Says
as_asked w registry keys m =
    let asked = cells_asked w.head.buckets registry keys in
    grant (
      script_reply w.head m.0.run (asked_first m.0.answer asked (cells_sorted w.head.buckets registry keys)),
      (m.1.0, (m.1.1.0, handed_back w.head.boot m.0.answer asked m.1.1.1)),
    )

-- the steps of each call
abbrev pub past_checks : World → Call → Made (World × Says)
past_checks w (try_acquire c) = seen_as (reply w) (acquire_of 1 w.head w.table c)
past_checks w (drop_lease l) = do
  note (released by_caller l.cell l.serial)
  gives (reply w (replied w.head 0 answer.Done, set_cell w.table l.cell 0 0))
past_checks w (read_permission l) = gives (read w (replied w.head 0 (answer.Cell l.cell)))
past_checks w (competing_acquire l) = seen_as (reply w) (acquire_of 1 w.head w.table l.cell)
past_checks w (release_then_handoff l) = do
  note (released by_caller l.cell l.serial)
  seen_as (reply w) (acquire_of 1 w.head (set_cell w.table l.cell 0 0) l.cell)
past_checks w (foreign_release held l) = do
  (k, u) ← acquire_of 1 w.head w.table l.cell
  note (released by_caller l.cell l.serial)
  seen_as (reply w) (acquire_of 2 k.head (set_cell u l.cell 0 0) l.cell)
past_checks w (drop_preserving held l) = do
  note (released by_caller l.cell l.serial)
  gives (reply w (replied w.head 0 answer.Done, set_cell w.table l.cell 0 0))
past_checks w (acquire_preserving held c) = seen_as (reply w) (acquire_of 1 w.head w.table c)
past_checks w (environment script place held) =
    seen_as (λ m. script_reply_lem (script_reply w.head (run_of m.0 0 1 0) answer.Done, m.1))
    (boundary_of (acting w (environment script place held)) (flow_of w.head.next place 0) w.table w.health)
past_checks w (try_lock script place held c) = do
  note attempt_begun
  seen_as (λ m. script_reply_lem (script_reply w.head (run_of m.0.flow 1 m.0.boundaries 0) (answer_of w.head.boot m.0.answer), m.1))
      (lock_of (acting w (try_lock script place held c)) w.head.buckets (flow_of w.head.next place 0) w.table w.health c)
past_checks w (transactional registry script place held binding bucket) =
    seen_as (λ m. script_reply_lem (script_reply w.head m.0.run (answer_of w.head.boot m.0.outcome), m.1))
    (attempt_of (acting w (transactional registry script place held binding bucket)) w.head.buckets registry binding bucket (starting w.head place) w.table w.health)
past_checks w (acquire_bucket registry script place held binding bucket) =
    seen_as (λ m. script_reply_lem (script_reply w.head m.0.run (answer_of w.head.boot (settled m.0.outcome)), m.1))
    (retry_of attempt_limit 0 none_yet (acting w (acquire_bucket registry script place held binding bucket)) w.head.buckets registry binding bucket (starting w.head place) w.table w.health)
past_checks w (release_all script place leases) =
    seen_as (λ m. script_reply_lem (script_reply w.head m.0 answer.Done, m.1))
    (give_back_of (lease_count leases) (acting w (release_all script place leases)) (holds_of leases) (starting w.head place) w.table w.health)
past_checks w (acquire_locks registry script place held keys grants) =
    seen_as (λ m. grant (script_reply w.head m.0.run m.0.answer, m.1))
    (locks_of (count_in keys) 0 (acting w (acquire_locks registry script place held keys grants)) w.head.buckets w.head.boot registry keys [] (starting w.head place) w.table w.health grants)
past_checks w (acquire_sorted registry script place held keys grants) =
    judge_at (first_key (count_in keys) 0 w.head registry keys) (unchanged_at w (acquire_sorted registry script place held keys grants))
    (seen_as (as_asked w registry keys) (sorted_locks w registry script place held keys grants))
past_checks w (crew counts cells turns) = shifted rests w counts cells turns []
past_checks w (crew_at_work counts cells turns counters) = shifted adds w counts cells turns counters

-- those of the sorted call, as `perform` has them
sorted_steps : (w : World) (registry script : List ℕ) (place : ℕ) (held keys grants : List ℕ) (k : KeyCheck)
    → (judge_at k (λ r p. gives (refused_key_at_once w.head place r p, (w.table, (w.health, grants)))) (sorted_locks_of w.head w.table w.health registry script place held keys grants) >>= λ a. gives (grant a))
    ≡ judge_at k (unchanged_at w (acquire_sorted registry script place held keys grants)) (seen_as (as_asked w registry keys) (sorted_locks w registry script place held keys grants))
unfolding sorted_locks_of
sorted_steps w registry script place held keys grants (Ok tt) = simp append-nil
sorted_steps w registry script place held keys grants (Err (r, p)) = refl

-- what holds of the call as it was and of its steps
module _ (P : Made (World × Says) → Type 0) (w : World) where
  abbrev By : {A : Type 0} → (A → World × Says) → Made A → Type 0
  By f m = P (m >>= λ a. gives (f a))

  pub performed_by : (k : Call) → ((r : Refusal) → first (rules w k) ≡ Err r → P (unchanged w k r)) → (Clear (rules w k) → P (past_checks w k)) → P (perform w k)
  unfolding perform try_acquire_of drop_lease_of read_permission_of competing_acquire_of release_then_handoff_of foreign_release_of acquire_preserving_of drop_preserving_of
      environment_of try_lock_of transactional_of acquire_bucket_of release_all_of acquire_locks_of acquire_sorted_of shift_of crew_of crew_at_work_of
  performed_by (try_acquire c) x y = judged_by (By (reply w)) (rules w (try_acquire c)) x (λ fine. rw append-nil (y fine))
  performed_by (drop_lease l) x y = judged_by (By (reply w)) (rules w (drop_lease l)) x y
  performed_by (read_permission l) x y = judged_by (By (read w)) (rules w (read_permission l)) x y
  performed_by (competing_acquire l) x y = judged_by (By (reply w)) (rules w (competing_acquire l)) x (λ fine. rw append-nil (y fine))
  performed_by (release_then_handoff l) x y = judged_by (By (reply w)) (rules w (release_then_handoff l)) x (λ fine. rw append-nil (y fine))
  performed_by (foreign_release held l) x y = judged_by (By (reply w)) (rules w (foreign_release held l)) x (λ fine. rw append-nil (y fine))
  performed_by (drop_preserving held l) x y = judged_by (By (reply w)) (rules w (drop_preserving held l)) x y
  performed_by (acquire_preserving held c) x y = judged_by (By (reply w)) (rules w (acquire_preserving held c)) x (λ fine. rw append-nil (y fine))
  performed_by (environment script place held) x y = judged_by (By script_reply_lem) (rules w (environment script place held)) x (λ fine. simp append-nil (y fine))
  performed_by (try_lock script place held c) x y = judged_by (By script_reply_lem) (rules w (try_lock script place held c)) x (λ fine. rw (append-nil, append-nil) (y fine))
  performed_by (transactional registry script place held binding bucket) x y =
      judged_by (By script_reply_lem) (rules w (transactional registry script place held binding bucket)) x (λ fine. simp append-nil (y fine))
  performed_by (acquire_bucket registry script place held binding bucket) x y =
      judged_by (By script_reply_lem) (rules w (acquire_bucket registry script place held binding bucket)) x (λ fine. simp append-nil (y fine))
  performed_by (release_all script place leases) x y = judged_by (By script_reply_lem) (rules w (release_all script place leases)) x (λ fine. simp append-nil (y fine))
  performed_by (acquire_locks registry script place held keys grants) x y =
      judged_by (By grant) (rules w (acquire_locks registry script place held keys grants)) x (λ fine. simp append-nil (y fine))
  performed_by (acquire_sorted registry script place held keys grants) x y =
      judged_by (By grant) (rules w (acquire_sorted registry script place held keys grants)) x
      (λ fine. subst P (sym (sorted_steps w registry script place held keys grants (first_key (count_in keys) 0 w.head registry keys))) (y fine))
  performed_by (crew counts cells turns) x y = judged_by (By (crewed w)) (rules w (crew counts cells turns)) x (λ fine. simp append-nil (y fine))
  performed_by (crew_at_work counts cells turns counters) x y = judged_by (By (worked w)) (rules w (crew_at_work counts cells turns counters)) x (λ fine. simp append-nil (y fine))

  pub performed : (k : Call) → ((r : Refusal) → P (unchanged w k r)) → (Clear (rules w k) → P (past_checks w k)) → P (perform w k)
  performed k x y = performed_by k (λ r _. x r) y

-- a call is refused by the first rule that applies, or is its steps
pub refused_so : (w : World) (k : Call) (r : Refusal) → first (rules w k) ≡ Err r → perform w k ≡ unchanged w k r
refused_so w k r e =
    performed_by (λ m. m ≡ unchanged w k r) w k (λ x f. let g : Err x ≡ Err r = sym f ∙ e in let i : x ≡ r = cc in ap (unchanged w k) i)
    (λ c. let g : (Ok tt) ≡ Err r = sym (clear_fine (rules w k) c) ∙ e in let z : ◌≡◌ {A = ℕ} 0 1 = cc in absurd (omega arith))

pub made_so : (w : World) (k : Call) → Clear (rules w k) → perform w k ≡ past_checks w k
made_so w k c =
    performed_by (λ m. m ≡ past_checks w k) w k
    (λ x f. let g : (Ok tt) ≡ Err x = sym (clear_fine (rules w k) c) ∙ f in let z : ◌≡◌ {A = ℕ} 0 1 = cc in absurd (omega arith)) (λ _. refl)
