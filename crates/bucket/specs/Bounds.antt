-- How large a call's counts can get, from the attempt limit: the bounds that steps ask for, so that no sum wraps.
--
-- A count (attempts, boundaries, yields) grows by at most 5 in one attempt: boundaries grow fastest, by 3 in its
-- `try_lock` and by 2 in the pause behind it. A key has `attempt_limit` attempts, and a call has at most 64 keys.
-- So no bound is over 1,331,204 (`try_most`, and 4 inside a pause), and 32 bits hold it.
use Rattle.std.specs.Prelude.{ℕ, ◌+◌, ◌*◌}
use Rattle.model.specs.Lock.{attempt_limit}

-- what the attempts on one key can add to a count
abbrev pub key_most : ℕ
key_most = 5 * attempt_limit

-- what a count can be before a key's first attempt, and where leases begin to be given back: 64 keys have added to it
abbrev pub call_most : ℕ
call_most = 64 * key_most

-- what it can be before any attempt on a key, and before any of at most 64 leases is given back, each with a boundary
abbrev pub try_most : ℕ
try_most = call_most + key_most
