-- Ours keeps each promise of `ContractMultilock` (`promise-..`); whoever keeps it meets upstream's contract
-- (`implied-..`); so ours does (`meets-..`).
use Rattle.model.specs.Arena.{holds_of}
use Rattle.history.specs.Items.{release_all, perform, Build}
use Rattle.history.specs.Statements.{world_in}
use Rattle.upstream.proofs.Bridge.{valid_leases, valid_from}
use Rattle.upstream.proofs.ReleaseAll.{release_all_e1, release_all_e2, release_all_e3, release_all_r1, release_all_r2, release_all_r3, release_too_many}
use Rattle.upstream.proofs.Guards.{acquire_index_locks_e1, acquire_index_locks_e2, acquire_index_locks_e3, acquire_index_locks_r1}
use Rattle.upstream.proofs.Limits.{release_all_script, locks_limit, locks_script}
use Rattle.upstream.specs.ContractMultilock.{ContractReleaseAll, PromiseReleaseAll, ContractAcquireIndexLocks, PromiseAcquireIndexLocks}

-- ---- 000.release_all

pub promise_release_all : PromiseReleaseAll perform
promise_release_all w script place leases =
    record {
      r1 = release_all_r1 w script place leases;
      r2 = release_all_r2 w script place leases;
      r3 = release_all_r3 w script place leases;
      limit = release_too_many w script place leases;
      script_limit = release_all_script w script place leases;
      e1 = release_all_e1 w script place leases;
      e2 = release_all_e2 w script place leases;
      e3 = λ s f o v a d. release_all_e3 w script place leases s f o v (a, d);
    }

pub implied_release_all : (b : Build) → PromiseReleaseAll b → ContractReleaseAll b
implied_release_all b p w script place leases q =
    let h = p w script place leases in
    let m = b w (release_all script place leases) in
    record {
      e1 = valid_from w (world_in m) h.e1 h.e2 q.r1;
      e2 = h.e2;
      e3 = h.e3 q.scripted q.few q.own (valid_leases w (holds_of leases) q.r1 q.r2) q.r2 q.r3;
    }

pub meets_release_all : ContractReleaseAll perform
meets_release_all = implied_release_all perform promise_release_all

-- ---- 001.acquire_index_locks

pub promise_acquire_index_locks : PromiseAcquireIndexLocks perform
promise_acquire_index_locks w registry script place held keys grants =
    record {
      r1 = acquire_index_locks_r1 w registry script place held keys grants;
      limit = locks_limit w registry script place held keys grants;
      script_limit = locks_script w registry script place held keys grants;
      e1 = acquire_index_locks_e1 w registry script place held keys grants;
      e2 = acquire_index_locks_e2 w registry script place held keys grants;
      e3 = acquire_index_locks_e3 w registry script place held keys grants;
    }

pub implied_acquire_index_locks : (b : Build) → PromiseAcquireIndexLocks b → ContractAcquireIndexLocks b
implied_acquire_index_locks b p w registry script place held keys grants q =
    let h = p w registry script place held keys grants in
    record {
      e1 = h.e1;
      e2 = h.e2;
      e3 = h.e3;
    }

pub meets_acquire_index_locks : ContractAcquireIndexLocks perform
meets_acquire_index_locks = implied_acquire_index_locks perform promise_acquire_index_locks
