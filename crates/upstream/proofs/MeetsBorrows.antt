-- Ours keeps each promise of `ContractBorrows` (`promise-..`); whoever keeps it meets upstream's contract
-- (`implied-..`); so ours does (`meets-..`).
use Rattle.model.specs.Arena.{holds_of}
use Rattle.history.specs.Items.{foreign_release, drop_preserving, acquire_preserving, environment, perform, Build}
use Rattle.history.specs.Statements.{world_in}
use Rattle.upstream.proofs.Bridge.{valid_leases, valid_from}
use Rattle.upstream.proofs.Borrows.{acquire_preserving_borrows_e1, acquire_preserving_borrows_e2, acquire_preserving_borrows_e3, acquire_preserving_borrows_e4, acquire_preserving_borrows_e5, acquire_preserving_borrows_e6, acquire_preserving_borrows_e7, acquire_preserving_borrows_e8, acquire_preserving_borrows_e9, acquire_preserving_borrows_r1, acquire_preserving_borrows_r2, acquire_preserving_borrows_r3, acquire_too_long, drop_preserving_borrows_e1, drop_preserving_borrows_e2, drop_preserving_borrows_e3, drop_preserving_borrows_e4, drop_preserving_borrows_e5, drop_preserving_borrows_e6, drop_preserving_borrows_r1, drop_preserving_borrows_r2, drop_preserving_borrows_r3, drop_preserving_borrows_r4, drop_too_long, foreign_release_between_attempts_e1, foreign_release_between_attempts_e2, foreign_release_between_attempts_e3, foreign_release_between_attempts_e4, foreign_release_between_attempts_e5, foreign_release_between_attempts_keys, foreign_release_between_attempts_r1, foreign_release_between_attempts_r2, foreign_release_between_attempts_r3, foreign_release_between_attempts_r4, foreign_too_long}
use Rattle.upstream.proofs.Environment.{environment_e1, environment_e2, environment_e3, environment_e4, environment_for_borrows_e2, environment_r2, interfere_e1}
use Rattle.upstream.proofs.Damage.{environment_r1, drops_damaged, sets_waiters}
use Rattle.upstream.proofs.Limits.{environment_limit, environment_script}
use Rattle.upstream.specs.ContractBorrows.{ContractInterfere, PromiseInterfere, ContractEnvironment, PromiseEnvironment, ContractEnvironmentForBorrows, PromiseEnvironmentForBorrows, ContractAcquirePreservingBorrows, PromiseAcquirePreservingBorrows, ContractDropPreservingBorrows, PromiseDropPreservingBorrows, ContractForeignReleaseBetweenAttempts, PromiseForeignReleaseBetweenAttempts}

-- ---- 000.interfere

pub promise_interfere : PromiseInterfere perform
promise_interfere = (
  λ w script place held.
      record {
        r1 = environment_r1 w script place held;
        r2 = environment_r2 w script place held;
        limit = environment_limit w script place held;
        script_limit = environment_script w script place held;
        e1 = interfere_e1 w script place held;
      },
  drops_damaged,
  sets_waiters,
)

pub implied_interfere : (b : Build) → PromiseInterfere b → ContractInterfere b
implied_interfere b p w script place held q =
    let h = p.0 w script place held in
    record {
      e1 = h.e1;
    }

pub meets_interfere : ContractInterfere perform
meets_interfere = implied_interfere perform promise_interfere

-- ---- 000.environment

pub promise_environment : PromiseEnvironment perform
promise_environment = (
  λ w script place held.
      record {
        r1 = environment_r1 w script place held;
        r2 = environment_r2 w script place held;
        limit = environment_limit w script place held;
        script_limit = environment_script w script place held;
        e1 = environment_e1 w script place held;
        e2 = environment_e2 w script place held;
        e3 = environment_e3 w script place held;
        e4 = environment_e4 w script place held;
      },
  drops_damaged,
  sets_waiters,
)

pub implied_environment : (b : Build) → PromiseEnvironment b → ContractEnvironment b
implied_environment b p w script place held q =
    let h = p.0 w script place held in
    let m = b w (environment script place held) in
    record {
      e1 = valid_from w (world_in m) h.e1 h.e3 q.r1;
      e2 = h.e2 q.r2;
      e3 = h.e3;
      e4 = h.e4;
    }

pub meets_environment : ContractEnvironment perform
meets_environment = implied_environment perform promise_environment

-- ---- 000.environment_for_borrows

pub promise_environment_for_borrows : PromiseEnvironmentForBorrows perform
promise_environment_for_borrows = (
  λ w script place held.
      record {
        r1 = environment_r1 w script place held;
        r2 = environment_r2 w script place held;
        limit = environment_limit w script place held;
        script_limit = environment_script w script place held;
        e1 = environment_e1 w script place held;
        e2 = environment_for_borrows_e2 w script place held;
        e3 = environment_e3 w script place held;
        e4 = environment_e4 w script place held;
      },
  drops_damaged,
  sets_waiters,
)

pub implied_environment_for_borrows : (b : Build) → PromiseEnvironmentForBorrows b → ContractEnvironmentForBorrows b
implied_environment_for_borrows b p w script place held q =
    let h = p.0 w script place held in
    let m = b w (environment script place held) in
    record {
      e1 = valid_from w (world_in m) h.e1 h.e3 q.r1;
      e2 = h.e2 q.r2;
      e3 = h.e3;
      e4 = h.e4;
    }

pub meets_environment_for_borrows : ContractEnvironmentForBorrows perform
meets_environment_for_borrows = implied_environment_for_borrows perform promise_environment_for_borrows

-- ---- 000.acquire_preserving_borrows

pub promise_acquire_preserving_borrows : PromiseAcquirePreservingBorrows perform
promise_acquire_preserving_borrows w held key =
    record {
      r1 = acquire_preserving_borrows_r1 w held key;
      r2 = acquire_preserving_borrows_r2 w held key;
      r3 = acquire_preserving_borrows_r3 w held key;
      limit = acquire_too_long w held key;
      e1 = acquire_preserving_borrows_e1 w held key;
      e2 = acquire_preserving_borrows_e2 w held key;
      e3 = acquire_preserving_borrows_e3 w held key;
      e4 = acquire_preserving_borrows_e4 w held key;
      e5 = acquire_preserving_borrows_e5 w held key;
      e6 = acquire_preserving_borrows_e6 w held key;
      e7 = acquire_preserving_borrows_e7 w held key;
      e8 = acquire_preserving_borrows_e8 w held key;
      e9 = acquire_preserving_borrows_e9 w held key;
    }

pub implied_acquire_preserving_borrows : (b : Build) → PromiseAcquirePreservingBorrows b → ContractAcquirePreservingBorrows b
implied_acquire_preserving_borrows b p w held key q =
    let h = p w held key in
    let m = b w (acquire_preserving held key) in
    record {
      e1 = valid_from w (world_in m) h.e1 h.e4 q.r1;
      e2 = h.e2 q.r3;
      e3 = h.e3 q.r3;
      e4 = h.e4;
      e5 = λ z. (_, (h.e5 q.fits q.short (valid_leases w (holds_of held) q.r1 q.r3) (q.r1 key q.r2) q.r2 q.r3 z).0 q.serials);
      e6 = h.e6;
      e7 = h.e7;
      e8 = h.e8;
      e9 = h.e9 q.r3;
    }

pub meets_acquire_preserving_borrows : ContractAcquirePreservingBorrows perform
meets_acquire_preserving_borrows = implied_acquire_preserving_borrows perform promise_acquire_preserving_borrows

-- ---- 000.drop_preserving_borrows

pub promise_drop_preserving_borrows : PromiseDropPreservingBorrows perform
promise_drop_preserving_borrows w held l =
    record {
      r1 = drop_preserving_borrows_r1 w held l;
      r2 = drop_preserving_borrows_r2 w held l;
      r3 = drop_preserving_borrows_r3 w held l;
      r4 = drop_preserving_borrows_r4 w held l;
      limit = drop_too_long w held l;
      e1 = drop_preserving_borrows_e1 w held l;
      e2 = drop_preserving_borrows_e2 w held l;
      e3 = drop_preserving_borrows_e3 w held l;
      e4 = drop_preserving_borrows_e4 w held l;
      e5 = drop_preserving_borrows_e5 w held l;
      e6 = drop_preserving_borrows_e6 w held l;
    }

pub implied_drop_preserving_borrows : (b : Build) → PromiseDropPreservingBorrows b → ContractDropPreservingBorrows b
implied_drop_preserving_borrows b p w held l q =
    let h = p w held l in
    let m = b w (drop_preserving held l) in
    record {
      e1 = valid_from w (world_in m) h.e1 h.e4 q.r1;
      e2 = h.e2 q.r3 q.r4;
      e3 = h.e3 q.r3 q.r4;
      e4 = h.e4;
      e5 = h.e5 q.fits q.short (valid_leases w (holds_of held) q.r1 q.r3) (q.r1 l.cell q.r2.inside) q.own q.r2 q.r3 q.r4;
      e6 = h.e6;
    }

pub meets_drop_preserving_borrows : ContractDropPreservingBorrows perform
meets_drop_preserving_borrows = implied_drop_preserving_borrows perform promise_drop_preserving_borrows

-- ---- 000.foreign_release_between_attempts

pub promise_foreign_release_between_attempts : PromiseForeignReleaseBetweenAttempts perform
promise_foreign_release_between_attempts w held l =
    record {
      r1 = foreign_release_between_attempts_r1 w held l;
      r2 = foreign_release_between_attempts_r2 w held l;
      r3 = foreign_release_between_attempts_r3 w held l;
      r4 = foreign_release_between_attempts_r4 w held l;
      limit = foreign_too_long w held l;
      e1 = foreign_release_between_attempts_e1 w held l;
      e2 = foreign_release_between_attempts_e2 w held l;
      e3 = foreign_release_between_attempts_e3 w held l;
      e4 = foreign_release_between_attempts_e4 w held l;
      e5 = foreign_release_between_attempts_e5 w held l;
      keys = foreign_release_between_attempts_keys w held l;
    }

pub implied_foreign_release_between_attempts : (b : Build) → PromiseForeignReleaseBetweenAttempts b → ContractForeignReleaseBetweenAttempts b
implied_foreign_release_between_attempts b p w held l q =
    let h = p w held l in
    let m = b w (foreign_release held l) in
    record {
      e1 = valid_from w (world_in m) h.e1 h.keys q.r1;
      e2 = let x = (h.e2 q.fits q.short (valid_leases w (holds_of held) q.r1 q.r3) (q.r1 l.cell q.r2.inside) q.own q.r2 q.r3 q.r4).0 q.serials in (_, x.0, x.1);
      e3 = h.e3 q.r3 q.r4;
      e4 = h.e4;
      e5 = h.e5 (q.r1 l.cell q.r2.inside) q.r2;
    }

pub meets_foreign_release_between_attempts : ContractForeignReleaseBetweenAttempts perform
meets_foreign_release_between_attempts = implied_foreign_release_between_attempts perform promise_foreign_release_between_attempts
