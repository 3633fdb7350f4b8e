-- Ours keeps each promise of `ContractCells` (`promise-..`); whoever keeps it meets upstream's contract
-- (`implied-..`); so ours does (`meets-..`).
use Rattle.std.proofs.Common.{inl, inr, arith}
use Rattle.model.specs.Arena.{hold_in}
use Rattle.history.specs.Items.{try_acquire, drop_lease, competing_acquire, release_then_handoff, perform, Build}
use Rattle.history.specs.Statements.{world_in}
use Rattle.upstream.specs.Vocabulary.{lease_key}
use Rattle.upstream.proofs.Bridge.{valid_from, framed_valid}
use Rattle.upstream.proofs.Passing.{cell_passes}
use Rattle.upstream.proofs.TryAcquire.{compare_exchange_e1, compare_exchange_e3, compare_exchange_e4, compare_exchange_e5, try_acquire_e1, try_acquire_e10, try_acquire_e11, try_acquire_e12, try_acquire_e13, try_acquire_e2, try_acquire_e3, try_acquire_e4, try_acquire_e5, try_acquire_e6, try_acquire_e7, try_acquire_e8, try_acquire_e9, try_acquire_r1, try_acquire_r2}
use Rattle.upstream.proofs.DropLease.{drop_lease_e1, drop_lease_e2, drop_lease_e3, drop_lease_e4, drop_lease_e5, drop_lease_r1, drop_lease_r2, store_e1, store_r1, store_r2, store_r3}
use Rattle.upstream.proofs.OneLease.{competing_acquire_is_excluded_e1, competing_acquire_is_excluded_e2, competing_acquire_is_excluded_e3, competing_acquire_is_excluded_e4, competing_acquire_is_excluded_r1, competing_acquire_is_excluded_r2, read_permission_e1, read_permission_e2, read_permission_r1, read_permission_r2, release_then_handoff_e1, release_then_handoff_e2, release_then_handoff_e3, release_then_handoff_e4, release_then_handoff_keys, release_then_handoff_r1, release_then_handoff_r2}
use Rattle.upstream.specs.ContractCells.{ContractCompareExchange, PromiseCompareExchange, ContractStore, PromiseStore, ContractTryAcquire, PromiseTryAcquire, ContractDropLease, PromiseDropLease, ContractReadPermission, PromiseReadPermission, ContractCompetingAcquireIsExcluded, PromiseCompetingAcquireIsExcluded, ContractReleaseThenHandoff, PromiseReleaseThenHandoff}

-- ---- 000.compare_exchange

pub promise_compare_exchange : PromiseCompareExchange perform
promise_compare_exchange w key =
    record {
      r1 = λ s i. try_acquire_r1 w key (cell_passes w key s i);
      r2 = try_acquire_r2 w key;
      e1 = compare_exchange_e1 w key;
      e2 = try_acquire_e8 w key;
      e3 = compare_exchange_e3 w key;
      e4 = compare_exchange_e4 w key;
      e5 = compare_exchange_e5 w key;
    }

pub implied_compare_exchange : (b : Build) → PromiseCompareExchange b → ContractCompareExchange b
implied_compare_exchange b p w key q =
    let h = p w key in
    record {
      e1 = let x = h.e1 q.fits (q.r1 key q.r2) q.r2 in (λ g. (x.0.0 g).0, λ z. x.0.1 (z, q.serials));
      e2 = h.e2;
      e3 = λ n. elim (h.e3 q.fits (q.r1 key q.r2) q.r2 n) [ inl x ↦ x | inr x ↦ absurd (n _ ((h.e1 q.fits (q.r1 key q.r2) q.r2).0.1 (x.1, q.serials)).1) ];
      e4 = h.e4;
      e5 = h.e5;
    }

pub meets_compare_exchange : ContractCompareExchange perform
meets_compare_exchange = implied_compare_exchange perform promise_compare_exchange

-- ---- 000.store

pub promise_store : PromiseStore perform
promise_store w l =
    record {
      r1 = store_r1 w l;
      r2 = store_r2 w l;
      r3 = store_r3 w l;
      e1 = store_e1 w l;
      e2 = drop_lease_e4 w l;
    }

pub implied_store : (b : Build) → PromiseStore b → ContractStore b
implied_store b p w l q =
    let h = p w l in
    record {
      e1 = h.e1 q.fits q.sound q.own (record { inside = q.r1; locked = q.r2; mine = (omega (arith, q.sound.owned.1 q.r2, q.r3), q.r3) });
      e2 = h.e2;
    }

pub meets_store : ContractStore perform
meets_store = implied_store perform promise_store

-- ---- 000.try_acquire

pub promise_try_acquire : PromiseTryAcquire perform
promise_try_acquire w key =
    record {
      r1 = λ s i. try_acquire_r1 w key (cell_passes w key s i);
      r2 = try_acquire_r2 w key;
      e1 = try_acquire_e1 w key;
      e2 = try_acquire_e2 w key;
      e3 = try_acquire_e3 w key;
      e4 = try_acquire_e4 w key;
      e5 = try_acquire_e5 w key;
      e6 = try_acquire_e6 w key;
      e7 = try_acquire_e7 w key;
      e8 = try_acquire_e8 w key;
      e9 = try_acquire_e9 w key;
      e10 = try_acquire_e10 w key;
      e11 = try_acquire_e11 w key;
      e12 = try_acquire_e12 w key;
      e13 = try_acquire_e13 w key;
    }

pub implied_try_acquire : (b : Build) → PromiseTryAcquire b → ContractTryAcquire b
implied_try_acquire b p w key q =
    let h = p w key in
    let m = b w (try_acquire key) in
    record {
      e1 = framed_valid w (world_in m) key h.e1 h.e2 q.r1;
      e2 = h.e2;
      e3 = h.e3;
      e4 = h.e4;
      e5 = h.e5;
      e6 = h.e6;
      e7 = h.e7;
      e8 = h.e8;
      e9 = h.e9;
      e10 = λ z. (_, (h.e10 q.fits (q.r1 key q.r2) q.r2 z).0 q.serials);
      e11 = h.e11;
      e12 = h.e12;
      e13 = h.e13;
    }

pub meets_try_acquire : ContractTryAcquire perform
meets_try_acquire = implied_try_acquire perform promise_try_acquire

-- ---- 000.drop_lease

pub promise_drop_lease : PromiseDropLease perform
promise_drop_lease w l =
    record {
      r1 = drop_lease_r1 w l;
      r2 = drop_lease_r2 w l;
      e1 = drop_lease_e1 w l;
      e2 = drop_lease_e2 w l;
      e3 = drop_lease_e3 w l;
      e4 = drop_lease_e4 w l;
      e5 = drop_lease_e5 w l;
    }

pub implied_drop_lease : (b : Build) → PromiseDropLease b → ContractDropLease b
implied_drop_lease b p w l q =
    let h = p w l in
    let m = b w (drop_lease l) in
    record {
      e1 = framed_valid w (world_in m) (lease_key (hold_in l)) h.e1 h.e2 q.r1;
      e2 = h.e2;
      e3 = h.e3 q.fits (q.r1 l.cell q.r2.inside) q.own q.r2;
      e4 = h.e4;
      e5 = h.e5 q.fits (q.r1 l.cell q.r2.inside) q.own q.r2;
    }

pub meets_drop_lease : ContractDropLease perform
meets_drop_lease = implied_drop_lease perform promise_drop_lease

-- ---- 000.read_permission

pub promise_read_permission : PromiseReadPermission perform
promise_read_permission w l =
    record {
      r1 = read_permission_r1 w l;
      r2 = read_permission_r2 w l;
      e1 = read_permission_e1 w l;
      e2 = read_permission_e2 w l;
    }

pub implied_read_permission : (b : Build) → PromiseReadPermission b → ContractReadPermission b
implied_read_permission b p w l q =
    let h = p w l in
    record {
      e1 = h.e1 q.fits (q.r1 l.cell q.r2.inside) q.own q.r2;
      e2 = h.e2;
    }

pub meets_read_permission : ContractReadPermission perform
meets_read_permission = implied_read_permission perform promise_read_permission

-- ---- 000.competing_acquire_is_excluded

pub promise_competing_acquire_is_excluded : PromiseCompetingAcquireIsExcluded perform
promise_competing_acquire_is_excluded w l =
    record {
      r1 = competing_acquire_is_excluded_r1 w l;
      r2 = competing_acquire_is_excluded_r2 w l;
      e1 = competing_acquire_is_excluded_e1 w l;
      e2 = competing_acquire_is_excluded_e2 w l;
      e3 = competing_acquire_is_excluded_e3 w l;
      e4 = competing_acquire_is_excluded_e4 w l;
    }

pub implied_competing_acquire_is_excluded : (b : Build) → PromiseCompetingAcquireIsExcluded b → ContractCompetingAcquireIsExcluded b
implied_competing_acquire_is_excluded b p w l q =
    let h = p w l in
    let m = b w (competing_acquire l) in
    record {
      e1 = h.e1 q.fits (q.r1 l.cell q.r2.inside) q.own q.r2;
      e2 = valid_from w (world_in m) h.e2 (h.e4 q.r2).same_keys q.r1;
      e3 = h.e3 q.r2;
      e4 = h.e4 q.r2;
    }

pub meets_competing_acquire_is_excluded : ContractCompetingAcquireIsExcluded perform
meets_competing_acquire_is_excluded = implied_competing_acquire_is_excluded perform promise_competing_acquire_is_excluded

-- ---- 000.release_then_handoff

pub promise_release_then_handoff : PromiseReleaseThenHandoff perform
promise_release_then_handoff w l =
    record {
      r1 = release_then_handoff_r1 w l;
      r2 = release_then_handoff_r2 w l;
      e1 = release_then_handoff_e1 w l;
      e2 = release_then_handoff_e2 w l;
      e3 = release_then_handoff_e3 w l;
      e4 = release_then_handoff_e4 w l;
      keys = release_then_handoff_keys w l;
    }

pub implied_release_then_handoff : (b : Build) → PromiseReleaseThenHandoff b → ContractReleaseThenHandoff b
implied_release_then_handoff b p w l q =
    let h = p w l in
    let m = b w (release_then_handoff l) in
    record {
      e1 = valid_from w (world_in m) h.e1 h.keys q.r1;
      e2 = let x = (h.e2 q.fits (q.r1 l.cell q.r2.inside) q.own q.r2).0 q.serials in (_, x.0, x.1);
      e3 = h.e3;
      e4 = h.e4 (q.r1 l.cell q.r2.inside) q.r2;
    }

pub meets_release_then_handoff : ContractReleaseThenHandoff perform
meets_release_then_handoff = implied_release_then_handoff perform promise_release_then_handoff
