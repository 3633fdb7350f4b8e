-- Ours keeps each promise of `ContractBucket` (`promise-..`); whoever keeps it meets upstream's contract
-- (`implied-..`); so ours does (`meets-..`).
use Rattle.std.specs.Prelude.{refl}
use Rattle.std.proofs.Common.{arith}
use Rattle.history.specs.Items.{transactional, acquire_bucket, perform, Build}
use Rattle.history.specs.Statements.{world_in}
use Rattle.upstream.proofs.Bridge.{valid_from, not_le}
use Rattle.upstream.proofs.Buckets.{acquire_index_bucket_e1, acquire_index_bucket_e2, acquire_index_bucket_e3, acquire_index_bucket_e4, acquire_index_bucket_e5, acquire_index_bucket_r1, acquire_index_bucket_r2, acquire_index_bucket_r3, acquire_index_bucket_r4, yield_now_n1, guards_acquire_bucket_e1, guards_acquire_bucket_e2, guards_acquire_bucket_e3, guards_transactional_e1, guards_transactional_e2, guards_transactional_e3, transactional_try_lock_bucket_e1, transactional_try_lock_bucket_e2, transactional_try_lock_bucket_e3, transactional_try_lock_bucket_e4, transactional_try_lock_bucket_e5, transactional_try_lock_bucket_r1, transactional_try_lock_bucket_r2, transactional_try_lock_bucket_r3, transactional_try_lock_bucket_r4}
use Rattle.upstream.proofs.Health.{guards_bucket_e1, guards_bucket_e2, header_answer, poisoned_n1, poisoned_many, poisoned_left, bucket_e1, bucket_r1, publication_header_e1}
use Rattle.upstream.proofs.Limits.{transactional_limit, acquire_bucket_limit, transactional_script, acquire_bucket_script}
use Rattle.upstream.proofs.ContractBucket.{ContractTransactionalTryLockBucket, PromiseTransactionalTryLockBucket, ContractAcquireIndexBucket, PromiseAcquireIndexBucket, ContractGuardsTransactional, PromiseGuardsTransactional, ContractGuardsAcquireBucket, PromiseGuardsAcquireBucket, ContractPublicationHeader, PromisePublicationHeader, PromisePoisoned, PromisePoisonedRetrying, PromiseYieldNow, ContractBucket, PromiseBucket, ContractGuardsBucket, PromiseGuardsBucket}

-- ---- 000.publication_header and 001.publication_header

pub promise_publication_header : PromisePublicationHeader perform
promise_publication_header w registry script place held binding bucket =
    record {
      r1 = transactional_try_lock_bucket_r2 w registry script place held binding bucket;
      e1 = publication_header_e1 w registry script place held binding bucket;
      six = header_answer w registry script place held binding bucket;
    }

pub implied_publication_header : (b : Build) → PromisePublicationHeader b → ContractPublicationHeader b
implied_publication_header b p w registry script place held binding bucket q =
    let h = p w registry script place held binding bucket in
    record {
      e1 = λ l e. (h.e1 l e).0;
    }

pub meets_publication_header : ContractPublicationHeader perform
meets_publication_header = implied_publication_header perform promise_publication_header

-- ---- 000.poisoned and 001.poisoned

pub promise_poisoned : PromisePoisoned perform
promise_poisoned w registry script place held binding bucket =
    record {
      n1 = poisoned_n1 w registry script place held binding bucket;
    }

-- ---- 000.poisoned and 001.poisoned, of the retrying call

pub promise_poisoned_retrying : PromisePoisonedRetrying perform
promise_poisoned_retrying w registry script place held binding bucket =
    record {
      n1 = poisoned_many w registry script place held binding bucket;
      left = poisoned_left w registry script place held binding bucket;
    }

-- ---- 000.yield_now and 001.yield_now

pub promise_yield_now : PromiseYieldNow perform
promise_yield_now w registry script place held binding bucket =
    record {
      n1 = yield_now_n1 w registry script place held binding bucket;
    }

-- ---- 000.bucket

pub promise_bucket : PromiseBucket perform
promise_bucket w registry script place held binding bucket =
    record {
      r1 = bucket_r1 w registry script place held binding bucket;
      e1 = bucket_e1 w registry script place held binding bucket;
      key = publication_header_e1 w registry script place held binding bucket;
    }

pub implied_bucket : (b : Build) → PromiseBucket b → ContractBucket b
implied_bucket b p w registry script place held binding bucket q =
    let h = p w registry script place held binding bucket in
    record {
      e1 = ((λ n. not_le w.head.buckets bucket (λ z. n ((h.e1 q.checked bucket).1 (refl, q.inside, q.healthy, z))), λ l e. omega (arith, ((h.e1 q.checked bucket).0 e).3)), λ l e. ((h.key l e).0.0, (h.key l e).1));
    }

pub meets_bucket : ContractBucket perform
meets_bucket = implied_bucket perform promise_bucket

-- ---- 001.bucket

pub promise_guards_bucket : PromiseGuardsBucket perform
promise_guards_bucket w registry script place held binding bucket =
    record {
      e1 = guards_bucket_e1 w registry script place held binding bucket;
      e2 = guards_bucket_e2 w registry script place held binding bucket;
    }

pub implied_guards_bucket : (b : Build) → PromiseGuardsBucket b → ContractGuardsBucket b
implied_guards_bucket b p w registry script place held binding bucket q =
    let h = p w registry script place held binding bucket in
    record {
      e1 = (λ n. not_le w.head.buckets bucket (λ z. n ((h.e1 q.checked bucket).1 (refl, q.inside, q.healthy, z))), λ l e. omega (arith, ((h.e1 q.checked bucket).0 e).3));
      e2 = h.e2;
    }

pub meets_guards_bucket : ContractGuardsBucket perform
meets_guards_bucket = implied_guards_bucket perform promise_guards_bucket

-- ---- 000.transactional_try_lock_bucket

pub promise_transactional_try_lock_bucket : PromiseTransactionalTryLockBucket perform
promise_transactional_try_lock_bucket w registry script place held binding bucket =
    record {
      r1 = transactional_try_lock_bucket_r1 w registry script place held binding bucket;
      r2 = transactional_try_lock_bucket_r2 w registry script place held binding bucket;
      r3 = transactional_try_lock_bucket_r3 w registry script place held binding bucket;
      r4 = transactional_try_lock_bucket_r4 w registry script place held binding bucket;
      limit = transactional_limit w registry script place held binding bucket;
      script_limit = transactional_script w registry script place held binding bucket;
      e1 = transactional_try_lock_bucket_e1 w registry script place held binding bucket;
      e2 = transactional_try_lock_bucket_e2 w registry script place held binding bucket;
      e3 = transactional_try_lock_bucket_e3 w registry script place held binding bucket;
      e4 = transactional_try_lock_bucket_e4 w registry script place held binding bucket;
      e5 = transactional_try_lock_bucket_e5 w registry script place held binding bucket;
    }

pub implied_transactional_try_lock_bucket : (b : Build) → PromiseTransactionalTryLockBucket b → ContractTransactionalTryLockBucket b
implied_transactional_try_lock_bucket b p w registry script place held binding bucket q =
    let h = p w registry script place held binding bucket in
    let m = b w (transactional registry script place held binding bucket) in
    record {
      e1 = valid_from w (world_in m) h.e1 h.e3 q.r1;
      e2 = h.e2 q.r3;
      e3 = h.e3;
      e4 = h.e4;
      e5 = h.e5;
    }

pub meets_transactional_try_lock_bucket : ContractTransactionalTryLockBucket perform
meets_transactional_try_lock_bucket = implied_transactional_try_lock_bucket perform promise_transactional_try_lock_bucket

-- ---- 001.transactional_try_lock_bucket

pub promise_guards_transactional : PromiseGuardsTransactional perform
promise_guards_transactional w registry script place held binding bucket =
    record {
      r1 = transactional_try_lock_bucket_r2 w registry script place held binding bucket;
      e1 = guards_transactional_e1 w registry script place held binding bucket;
      e2 = guards_transactional_e2 w registry script place held binding bucket;
      e3 = guards_transactional_e3 w registry script place held binding bucket;
    }

pub implied_guards_transactional : (b : Build) → PromiseGuardsTransactional b → ContractGuardsTransactional b
implied_guards_transactional b p w registry script place held binding bucket q =
    let h = p w registry script place held binding bucket in
    record {
      e1 = h.e1;
      e2 = h.e2;
      e3 = h.e3;
    }

pub meets_guards_transactional : ContractGuardsTransactional perform
meets_guards_transactional = implied_guards_transactional perform promise_guards_transactional

-- ---- 000.acquire_index_bucket

pub promise_acquire_index_bucket : PromiseAcquireIndexBucket perform
promise_acquire_index_bucket w registry script place held binding bucket =
    record {
      r1 = acquire_index_bucket_r1 w registry script place held binding bucket;
      r2 = acquire_index_bucket_r2 w registry script place held binding bucket;
      r3 = acquire_index_bucket_r3 w registry script place held binding bucket;
      r4 = acquire_index_bucket_r4 w registry script place held binding bucket;
      limit = acquire_bucket_limit w registry script place held binding bucket;
      script_limit = acquire_bucket_script w registry script place held binding bucket;
      e1 = acquire_index_bucket_e1 w registry script place held binding bucket;
      e2 = acquire_index_bucket_e2 w registry script place held binding bucket;
      e3 = acquire_index_bucket_e3 w registry script place held binding bucket;
      e4 = acquire_index_bucket_e4 w registry script place held binding bucket;
      e5 = acquire_index_bucket_e5 w registry script place held binding bucket;
    }

pub implied_acquire_index_bucket : (b : Build) → PromiseAcquireIndexBucket b → ContractAcquireIndexBucket b
implied_acquire_index_bucket b p w registry script place held binding bucket q =
    let h = p w registry script place held binding bucket in
    let m = b w (acquire_bucket registry script place held binding bucket) in
    record {
      e1 = valid_from w (world_in m) h.e1 h.e3 q.r1;
      e2 = h.e2 q.r3;
      e3 = h.e3;
      e4 = h.e4;
      e5 = h.e5;
    }

pub meets_acquire_index_bucket : ContractAcquireIndexBucket perform
meets_acquire_index_bucket = implied_acquire_index_bucket perform promise_acquire_index_bucket

-- ---- 001.acquire_index_bucket

pub promise_guards_acquire_bucket : PromiseGuardsAcquireBucket perform
promise_guards_acquire_bucket w registry script place held binding bucket =
    record {
      r1 = acquire_index_bucket_r2 w registry script place held binding bucket;
      e1 = guards_acquire_bucket_e1 w registry script place held binding bucket;
      e2 = guards_acquire_bucket_e2 w registry script place held binding bucket;
      e3 = guards_acquire_bucket_e3 w registry script place held binding bucket;
    }

pub implied_guards_acquire_bucket : (b : Build) → PromiseGuardsAcquireBucket b → ContractGuardsAcquireBucket b
implied_guards_acquire_bucket b p w registry script place held binding bucket q =
    let h = p w registry script place held binding bucket in
    record {
      e1 = h.e1;
      e2 = h.e2;
      e3 = h.e3;
    }

pub meets_guards_acquire_bucket : ContractGuardsAcquireBucket perform
meets_guards_acquire_bucket = implied_guards_acquire_bucket perform promise_guards_acquire_bucket
