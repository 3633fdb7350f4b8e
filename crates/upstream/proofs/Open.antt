-- "What upstream leaves open" (document 01), as mathematics. For each sentence: upstream's contract of the function, restated on what was
-- before, the result and what is after; a wrong build; that the contract accepts it (`accepted-..`); and that our promise, the equation
-- with document 01's definition, rejects it (`rejected-..`). The arena of the work order's fears fits in one or two cells.
-- ---- contracts
use Rattle.std.specs.Prelude.{ℕ, ◌+◌, ◌≡◌, refl, List, [], ◌∷◌, false, eqb, length, replicate, if◌then◌else◌}
use Rattle.std.proofs.Common.{sym, ap, ◌∙◌, subst, inl, inr, arith}
use Rattle.choice.specs.Pick.{if_both}
use Rattle.model.specs.Log.{Made, by_caller, released, gives}
use Rattle.model.specs.Arena.{head_of, spent_to, lease_of, hold_of, hold_in, leases_of, holds_of, bit_at, owner_at, waiters_at, set_cell, is_in, is_free, is_held, state_of, state_at, is_live, head_fits, shape_fits, health_fits}
use Rattle.model.specs.Answers.{kind_of}
use Rattle.model.specs.Refusals.{first}
use Rattle.model.specs.Checks.{not_live, cell_rules, not_releasable, held_cell_rules, held_lease_rules, script_rules, lock_rules, release_rules}
use Rattle.model.specs.Foreign.{run_steps_of, boundary_of}
use Rattle.model.specs.Lock.{hold_at, take_of, late_stage_of, second_stage_of, lock_of, give_back_of}
use Rattle.model.specs.Calls.{counts_of, acquire_of, try_acquire_of, acquire_preserving_of, drop_preserving_of, try_lock_of, release_all_of}
use Rattle.types.specs.declared.Answer.{Answer}
use Rattle.types.specs.declared.Answer.TheVariants.{Done, Granted, Busy}
use Rattle.types.specs.declared.Reason.TheVariants as reason
use Rattle.types.specs.declared.Hold.{Hold}
use Rattle.types.specs.declared.Lease.{Lease}
use Rattle.laws.specs.Lists.{zero_bit, zero_owner}
use Rattle.history.specs.World as world
use Rattle.history.specs.World.{World, world_of}
use Rattle.history.specs.Items.{try_acquire, drop_lease, read_permission, competing_acquire, release_then_handoff, foreign_release, drop_preserving, acquire_preserving, environment, try_lock, transactional, acquire_bucket, release_all, acquire_locks, acquire_sorted, crew, crew_at_work, perform, Build, Says, says}
use Rattle.history.specs.Statements.{answers, leaves}
use Rattle.history.specs.Tests.{In, if_cases, differ, holds_equal}
use Rattle.history.specs.Events.{lives}
use Rattle.upstream.specs.Vocabulary.{Key, cell, Authority, next_serial, contains_key, cells, insert, CellsAre, ValidCell, valid, authorized, Release, GivesUp, protected_valid, held_ids, leases_authorized}
use Rattle.upstream.specs.Premises.{Own}
use Rattle.upstream.specs.Protocol.{Put, here, there}
use Rattle.upstream.proofs.Protocol.{put, bit_of, owner_of, step_valid, step_keeps, step_frees}
use Rattle.upstream.specs.Bridge.{Sized}
use Rattle.upstream.proofs.Bridge.{authorized_live, fits_sized, by_name, by_place, put_cells, sized_now, event_step}
use Rattle.upstream.proofs.TryAcquire.{tried, tries_keeps, tries_keys, try_acquire_valid}
use Rattle.upstream.proofs.TryLock.{try_lock_valid, try_lock_e2, try_lock_e3, try_lock_e4, try_lock_e5}
use Rattle.upstream.specs.ContractBorrows.{EnsuresAcquirePreservingBorrows, ContractAcquirePreservingBorrows, EnsuresDropPreservingBorrows, ContractDropPreservingBorrows}
use Rattle.upstream.specs.ContractLock.{EnsuresTryLock, ContractTryLock}
use Rattle.upstream.specs.ContractMultilock.{ContractReleaseAll}
use Rattle.upstream.specs.AllMet.{two_held}
use Rattle.upstream.specs.Open.{told, with_acquire, with_drop, with_release, UpstreamAcceptsLock, WeAcceptLock, one_free, one_held, never_locks, takes_and_keeps, keeps_when_none, one_waited, overwritten, steals, freed, gone, frees_too, frees_all}

-- what ours answers there
granted_there : answers one_free (try_lock [] 0 [] 0) ≡ Granted (lease_of 0 1 5)
unfolding perform try_lock_of lock_rules script_rules not_live first shape_fits head_fits health_fits leases_of holds_of boundary_of run_steps_of lock_of second_stage_of take_of late_stage_of
    waiters_at bit_at owner_at set_cell state_at state_of is_free is_held
granted_there = refl

pub busy_there : answers one_held (try_lock [] 0 [] 0) ≡ Busy (reason.Held 1)
unfolding perform try_lock_of lock_rules script_rules not_live first shape_fits head_fits health_fits leases_of holds_of boundary_of run_steps_of lock_of second_stage_of take_of late_stage_of
    waiters_at bit_at owner_at set_cell state_at state_of is_free is_held
busy_there = refl

pub accepted_never_locks : UpstreamAcceptsLock never_locks
accepted_never_locks w script place held c a =
    record { e1 = a.r1; e2 = a.r3; e3 = refl; e4 = λ l e. absurd (omega (arith, ap kind_of e)); e5 = λ l e. absurd (omega (arith, ap kind_of e)) }

pub rejected_never_locks : WeAcceptLock never_locks → ⊥
rejected_never_locks p = omega (arith, ap (λ (x : Answer × Authority). kind_of x.0) (p one_free [] 0 [] 0), ap kind_of granted_there)

pub accepted_takes_and_keeps : UpstreamAcceptsLock takes_and_keeps
accepted_takes_and_keeps w script place held c a =
    record {
      e1 = try_acquire_valid w c a.r1;
      e2 = λ i l. tries_keeps (tried w c) _ (a.r3 i l);
      e3 = tries_keys (tried w c);
      e4 = λ l e. absurd (omega (arith, ap kind_of e));
      e5 = λ l e. absurd (omega (arith, ap kind_of e));
    }

-- it does keep the cell
pub keeps_indeed : cells (takes_and_keeps one_free [] 0 [] 0).1 0 ≡ cell 1 1
unfolding perform try_acquire_of cell_rules first shape_fits head_fits acquire_of take_of bit_at owner_at set_cell state_at state_of is_free is_held
keeps_indeed = refl

pub rejected_takes_and_keeps : WeAcceptLock takes_and_keeps → ⊥
rejected_takes_and_keeps p = omega (arith, ap (λ (x : Answer × Authority). kind_of x.0) (p one_free [] 0 [] 0), ap kind_of granted_there)

pub accepted_keeps_when_none : UpstreamAcceptsLock keeps_when_none
accepted_keeps_when_none w script place held c a =
    let k = try_lock script place held c in
    let t = tried (leaves w k) c in
    let ours = try_lock_valid w script place held c a.r1 in
    let kept = try_lock_e2 w script place held c a.r3 in
    let keys = try_lock_e3 w script place held c in
    if_both (λ (x : Authority). EnsuresTryLock w script place held c (told place (answers w k, x))) (eqb (kind_of (answers w k)) 4)
    (record {
      e1 = try_acquire_valid (leaves w k) c ours;
      e2 = λ i l. tries_keeps t _ (kept i l);
      e3 = tries_keys t ∙ keys;
      e4 = try_lock_e4 w script place held c;
      e5 = λ l e. tries_keeps t (hold_in l) (try_lock_e5 w script place held c l e);
    })
    (record { e1 = ours; e2 = kept; e3 = keys; e4 = try_lock_e4 w script place held c; e5 = try_lock_e5 w script place held c })

pub rejected_keeps_when_none : WeAcceptLock keeps_when_none → ⊥
unfolding perform try_lock_of lock_rules script_rules not_live first shape_fits head_fits health_fits leases_of holds_of boundary_of run_steps_of lock_of waiters_at try_acquire_of cell_rules acquire_of take_of bit_at owner_at set_cell
    state_at state_of is_free is_held
rejected_keeps_when_none p = omega (arith, ap (λ (x : Answer × Authority). bit_at x.1.table 0) (p one_waited [] 0 [] 0))

module _ (w : Authority) (c : Key) (z : Sized w) (v : valid w) (i : contains_key w c) where
  written : CellsAre w (overwritten w c) (insert (cells w) c (cell 1 (next_serial w)))
  written = put_cells w (next_serial w + 1) c 1 (next_serial w) z i

  overwritten_valid : valid (overwritten w c)
  overwritten_valid k l = go (put w (overwritten w c) c (cell 1 (next_serial w)) k written l)
    where
      go : Put w (overwritten w c) c (cell 1 (next_serial w)) k → ValidCell (next_serial w + 1) (cells (overwritten w c) k)
      go (here e q) = subst (ValidCell (next_serial w + 1)) (sym q) (record { bits = inr refl; owned = (λ _. refl, λ _. z.1); below = λ _. omega arith })
      go (there e q) = subst (ValidCell (next_serial w + 1)) (sym q) (record { bits = (v k l).bits; owned = (v k l).owned; below = λ s. omega (arith, (v k l).below s) })

  overwritten_mine : authorized (overwritten w c) (hold_of c (next_serial w))
  overwritten_mine = go (put w (overwritten w c) c (cell 1 (next_serial w)) c written i)
    where
      go : Put w (overwritten w c) c (cell 1 (next_serial w)) c → authorized (overwritten w c) (hold_of c (next_serial w))
      go (here e q) = record { inside = i; locked = bit_of q; mine = (z.1, owner_of q) }
      go (there e q) = absurd (e refl)

  -- a lease that is not the cell's owner
  overwritten_others : (l : Hold) → (l ≡ hold_of c (owner_at w.table c) → ⊥) → authorized w l → authorized (overwritten w c) l
  overwritten_others l n a = go (put w (overwritten w c) c (cell 1 (next_serial w)) l.cell written a.inside)
    where
      go : Put w (overwritten w c) c (cell 1 (next_serial w)) l.cell → authorized (overwritten w c) l
      go (here e q) = absurd (n (holds_equal l (hold_of c (owner_at w.table c)) e (sym a.mine.1 ∙ ap (owner_at w.table) e)))
      go (there e q) = record { inside = a.inside; locked = bit_of q ∙ a.locked; mine = (a.mine.0, owner_of q ∙ a.mine.1) }

  overwritten_held : (held : List Hold) → is_in (hold_of c (owner_at w.table c)) held ≡ false → protected_valid w (held_ids held) → protected_valid (overwritten w c) (held_ids held)
  overwritten_held held n p l j = overwritten_others l (λ e. differ (sym n ∙ subst (In held) e j)) (p l j)

pub accepted_steals : UpstreamAcceptsLock steals
accepted_steals w script place held c a =
    if_cases (λ (x : Answer × Authority). EnsuresTryLock w script place held c (told place x)) (is_in (hold_of c (owner_at w.table c)) (holds_of held))
    (λ e. record { e1 = a.r1; e2 = a.r3; e3 = refl; e4 = λ l e. absurd (omega (arith, ap kind_of e)); e5 = λ l e. absurd (omega (arith, ap kind_of e)) })
    (λ e.
    record {
      e1 = overwritten_valid w c (fits_sized w a.fits) a.r1 a.r2;
      e2 = by_place (overwritten w c) (holds_of held) (overwritten_held w c (fits_sized w a.fits) a.r1 a.r2 (holds_of held) e (by_name w (holds_of held) a.r3));
      e3 = refl;
      e4 = λ l q. let k : lease_of c (next_serial w) w.head.boot ≡ l = cc in ap (λ (x : Lease). x.cell) (sym k);
      e5 = λ l q. let k : lease_of c (next_serial w) w.head.boot ≡ l = cc in subst (λ (x : Lease). authorized (overwritten w c) (hold_in x)) k (overwritten_mine w c (fits_sized w a.fits) a.r1 a.r2);
    })

-- the foreign holder's cell is taken
pub steals_indeed : ((steals one_held [] 0 [] 0).0 ≡ Granted (lease_of 0 2 5)) × (authorized (steals one_held [] 0 [] 0).1 (hold_of 0 1) → ⊥)
unfolding holds_of is_in owner_at set_cell
steals_indeed = (refl, λ a. omega (arith, a.mine.1))

pub rejected_steals : WeAcceptLock steals → ⊥
unfolding holds_of is_in owner_at
rejected_steals p = omega (arith, ap (λ (x : Answer × Authority). kind_of x.0) (p one_held [] 0 [] 0), ap kind_of busy_there)

-- the same build as `acquire_preserving_borrows`: no script

pub accepted_steals_acquire : ContractAcquirePreservingBorrows (with_acquire (λ w held c. steals w [] 0 held c))
accepted_steals_acquire w held c a =
    if_cases (λ (x : Answer × Authority). EnsuresAcquirePreservingBorrows w held c (told 0 x)) (is_in (hold_of c (owner_at w.table c)) (holds_of held))
    (λ e.
    record {
      e1 = a.r1;
      e2 = a.r3;
      e3 = safe;
      e4 = refl;
      -- the caller holds the cell, so its bit is 1
      e5 = λ b. absurd (omega (arith, (safe (hold_of c (owner_at w.table c)) e).locked));
      e6 = λ l e. absurd (omega (arith, ap kind_of e));
      e7 = λ l e. absurd (omega (arith, ap kind_of e));
      e8 = λ l e. absurd (omega (arith, ap kind_of e));
      e9 = λ l e. absurd (omega (arith, ap kind_of e));
    })
    (λ e.
    let kept = overwritten_held w c (fits_sized w a.fits) a.r1 a.r2 (holds_of held) e safe in
    record {
      e1 = overwritten_valid w c (fits_sized w a.fits) a.r1 a.r2;
      e2 = by_place (overwritten w c) (holds_of held) kept;
      e3 = kept;
      e4 = refl;
      e5 = λ b. (lease_of c (next_serial w) w.head.boot, refl);
      e6 = λ l q. let k : lease_of c (next_serial w) w.head.boot ≡ l = cc in ap (λ (x : Lease). x.serial) (sym k);
      e7 = λ l q. let k : lease_of c (next_serial w) w.head.boot ≡ l = cc in subst (λ (x : Lease). authorized (overwritten w c) (hold_in x)) k (overwritten_mine w c (fits_sized w a.fits) a.r1 a.r2);
      e8 = λ l q. let k : lease_of c (next_serial w) w.head.boot ≡ l = cc in ap (λ (x : Lease). x.cell) (sym k);
      -- a held lease has a serial that was issued
      e9 = λ l q i.
          let k : lease_of c (next_serial w) w.head.boot ≡ l = cc in
          omega (arith, (lives w (hold_of c l.serial) (authorized_live w (hold_of c l.serial) a.r1 (safe (hold_of c l.serial) i))).high, ap (λ (x : Lease). x.serial) k);
    })
  where
    safe : protected_valid w (held_ids (holds_of held))
    safe = by_name w (holds_of held) a.r3

pub rejected_steals_acquire : ((w : Authority) (held : List ℕ) (c : Key)
    → steals w [] 0 held c ≡ (answers w (acquire_preserving held c), leaves w (acquire_preserving held c))) → ⊥
unfolding perform acquire_preserving_of held_cell_rules not_live first shape_fits head_fits leases_of holds_of is_in acquire_of take_of bit_at owner_at state_at state_of is_free is_held
rejected_steals_acquire p = omega (arith, ap (λ (x : Answer × Authority). kind_of x.0) (p one_held [] 0))

module _ (u : Authority) (z : Sized u) (v : valid u) (i : contains_key u 0) where
  wiped : CellsAre u (freed u) (insert (cells u) 0 (cell 0 0))
  wiped = put_cells u (next_serial u) 0 0 0 z i

  freed_valid : valid (freed u)
  freed_valid k l = go (put u (freed u) 0 (cell 0 0) k wiped l)
    where
      go : Put u (freed u) 0 (cell 0 0) k → ValidCell (next_serial u) (cells (freed u) k)
      go (here e q) =
          subst (ValidCell (next_serial u)) (sym q) (record { bits = inl refl; owned = (λ p. absurd (omega arith), λ p. absurd (omega arith)); below = λ p. absurd (omega arith) })
      go (there e q) = subst (ValidCell (next_serial u)) (sym q) (v k l)

  freed_others : (l : Hold) → (l ≡ hold_of 0 (owner_at u.table 0) → ⊥) → authorized u l → authorized (freed u) l
  freed_others l n a = go (put u (freed u) 0 (cell 0 0) l.cell wiped a.inside)
    where
      go : Put u (freed u) 0 (cell 0 0) l.cell → authorized (freed u) l
      go (here e q) = absurd (n (holds_equal l (hold_of 0 (owner_at u.table 0)) e (sym a.mine.1 ∙ ap (owner_at u.table) e)))
      go (there e q) = record { inside = a.inside; locked = bit_of q ∙ a.locked; mine = (a.mine.0, owner_of q ∙ a.mine.1) }

  -- a cell that is free stays so
  freed_free : (k : Key) → contains_key u k → (cells u k).bit ≡ 0 → (cells (freed u) k).bit ≡ 0
  freed_free k l b = go (put u (freed u) 0 (cell 0 0) k wiped l)
    where
      go : Put u (freed u) 0 (cell 0 0) k → (cells (freed u) k).bit ≡ 0
      go (here e q) = bit_of q
      go (there e q) = bit_of q ∙ b

frees : (w : Authority) (held : List ℕ) (k : Lease) → Sized w → valid w → authorized w (hold_in k) → leases_authorized w (holds_of held)
    → (held_ids (holds_of held) (hold_in k) → ⊥) → EnsuresDropPreservingBorrows w held k (told 0 (frees_too w held (hold_in k)))
frees w held lease z v a b n =
    if_cases (λ (x : Authority). EnsuresDropPreservingBorrows w held lease (told 0 (Done, x))) (is_in (hold_of 0 (owner_at u.table 0)) (holds_of held))
    (λ e. record { e1 = u_valid; e2 = by_place u (holds_of held) safe; e3 = safe; e4 = refl; e5 = u_free; e6 = refl })
    (λ e.
    let kept : protected_valid (freed u) (held_ids (holds_of held)) = λ k i. freed_others u u_sized u_valid first_cell k (λ q. differ (sym e ∙ subst (In (holds_of held)) q i)) (safe k i) in
    record {
      e1 = freed_valid u u_sized u_valid first_cell;
      e2 = by_place (freed u) (holds_of held) kept;
      e3 = kept;
      e4 = refl;
      e5 = freed_free u u_sized u_valid first_cell l.cell a.inside u_free;
      e6 = refl;
    })
  where
    l : Hold
    l = hold_in lease

    u : Authority
    u = gone w l

    drop : GivesUp w u l.cell l.serial
    drop = event_step w (released by_caller l.cell l.serial) z (authorized_live w l v a)

    u_sized : Sized u
    u_sized = sized_now w (released by_caller l.cell l.serial ∷ []) z

    u_valid : valid u
    u_valid = step_valid w u (Release l.cell l.serial) v drop

    first_cell : contains_key u 0
    first_cell = omega (arith, a.inside)

    u_free : (cells u l.cell).bit ≡ 0
    u_free = bit_of (step_frees w u l.cell l.serial drop)

    safe : protected_valid u (held_ids (holds_of held))
    safe k i =
        step_keeps w u (Release l.cell l.serial) k drop (λ r. n (subst (In (holds_of held)) (holds_equal k l (sym r.0) (sym r.1)) i)) (by_name w (holds_of held) b k i)

pub accepted_frees_too : ContractDropPreservingBorrows (with_drop frees_too)
accepted_frees_too w held k q = frees w held k (fits_sized w q.fits) q.r1 q.r2 q.r3 q.r4

pub rejected_frees_too : ((w : Authority) (held : List ℕ) (l : Lease) → Own w l → frees_too w held (hold_in l) ≡ (answers w (drop_preserving held l), leaves w (drop_preserving held l))) → ⊥
unfolding perform drop_preserving_of held_lease_rules not_live first shape_fits head_fits leases_of holds_of is_in is_live bit_at owner_at set_cell state_at state_of is_free is_held
rejected_frees_too p = omega (arith, ap (λ (x : Answer × Authority). bit_at x.1.table 0) (p two_held [] (lease_of 1 2 5) refl))

pub accepted_frees_all : ContractReleaseAll (with_release frees_all)
accepted_frees_all w script place leases q =
    record {
      e1 = λ k l.
          let b = zero_bit (length w.table) k in
          let o = zero_owner (length w.table) k in
          record { bits = inl b; owned = (λ s. absurd (omega arith), λ s. absurd (omega arith)); below = λ s. absurd (omega arith) };
      e2 = refl;
      e3 = λ i l a. omega (arith, a.locked, zero_bit (length w.table) (hold_at (holds_of leases) i).cell);
    }

pub rejected_frees_all : ((w : Authority) (leases : List ℕ) → frees_all w leases ≡ (answers w (release_all [] 0 leases), leaves w (release_all [] 0 leases))) → ⊥
unfolding perform release_all_of release_rules not_releasable first shape_fits head_fits health_fits leases_of holds_of is_in is_live give_back_of boundary_of run_steps_of bit_at owner_at set_cell state_at state_of is_free is_held
rejected_frees_all p = omega (arith, ap (λ (x : Answer × Authority). bit_at x.1.table 0) (p two_held (1 ∷ 2 ∷ 5 ∷ [])))
