-- Ours keeps each promise of `ContractLock` (`promise-..`); whoever keeps it meets upstream's contract
-- (`implied-..`); so ours does (`meets-..`).
use Rattle.history.specs.Items.{try_lock, perform, Build}
use Rattle.history.specs.Statements.{world_in}
use Rattle.upstream.proofs.Bridge.{valid_from}
use Rattle.upstream.proofs.TryLock.{try_lock_e1, try_lock_e2, try_lock_e3, try_lock_e4, try_lock_e5, try_lock_r1, try_lock_r2, try_lock_r3}
use Rattle.upstream.proofs.Guards.{guards_try_lock_e1, guards_try_lock_e2}
use Rattle.upstream.proofs.Limits.{try_lock_limit, try_lock_script}
use Rattle.upstream.specs.ContractLock.{ContractTryLock, PromiseTryLock, ContractOtherMutexPreservesLeases, PromiseOtherMutexPreservesLeases, ContractGuardsTryLock, PromiseGuardsTryLock}

-- ---- 000.try_lock

pub promise_try_lock : PromiseTryLock perform
promise_try_lock w script place held key =
    record {
      r1 = try_lock_r1 w script place held key;
      r2 = try_lock_r2 w script place held key;
      r3 = try_lock_r3 w script place held key;
      limit = try_lock_limit w script place held key;
      script_limit = try_lock_script w script place held key;
      e1 = try_lock_e1 w script place held key;
      e2 = try_lock_e2 w script place held key;
      e3 = try_lock_e3 w script place held key;
      e4 = try_lock_e4 w script place held key;
      e5 = try_lock_e5 w script place held key;
    }

pub implied_try_lock : (b : Build) → PromiseTryLock b → ContractTryLock b
implied_try_lock b p w script place held key q =
    let h = p w script place held key in
    let m = b w (try_lock script place held key) in
    record {
      e1 = valid_from w (world_in m) h.e1 h.e3 q.r1;
      e2 = h.e2 q.r3;
      e3 = h.e3;
      e4 = h.e4;
      e5 = h.e5;
    }

pub meets_try_lock : ContractTryLock perform
meets_try_lock = implied_try_lock perform promise_try_lock

-- ---- 000.other_mutex_preserves_leases

pub promise_other_mutex_preserves_leases : PromiseOtherMutexPreservesLeases perform
promise_other_mutex_preserves_leases w script place held key =
    record {
      r1 = try_lock_r1 w script place held key;
      r2 = try_lock_r3 w script place held key;
      r3 = try_lock_r2 w script place held key;
      limit = try_lock_limit w script place held key;
      script_limit = try_lock_script w script place held key;
      e1 = try_lock_e1 w script place held key;
      e2 = try_lock_e2 w script place held key;
      e3 = try_lock_e5 w script place held key;
      e4 = try_lock_e4 w script place held key;
      keys = try_lock_e3 w script place held key;
    }

pub implied_other_mutex_preserves_leases : (b : Build) → PromiseOtherMutexPreservesLeases b → ContractOtherMutexPreservesLeases b
implied_other_mutex_preserves_leases b p w script place held key q =
    let h = p w script place held key in
    let m = b w (try_lock script place held key) in
    record {
      e1 = valid_from w (world_in m) h.e1 h.keys q.r1;
      e2 = h.e2 q.r2;
      e3 = h.e3;
      e4 = h.e4;
    }

pub meets_other_mutex_preserves_leases : ContractOtherMutexPreservesLeases perform
meets_other_mutex_preserves_leases = implied_other_mutex_preserves_leases perform promise_other_mutex_preserves_leases

-- ---- 001.try_lock

pub promise_guards_try_lock : PromiseGuardsTryLock perform
promise_guards_try_lock w script place held key =
    record {
      e1 = guards_try_lock_e1 w script place held key;
      e2 = guards_try_lock_e2 w script place held key;
    }

pub implied_guards_try_lock : (b : Build) → PromiseGuardsTryLock b → ContractGuardsTryLock b
implied_guards_try_lock b p w script place held key =
    let h = p w script place held key in
    record {
      e1 = h.e1;
      e2 = h.e2;
    }

pub meets_guards_try_lock : ContractGuardsTryLock perform
meets_guards_try_lock = implied_guards_try_lock perform promise_guards_try_lock
