-- Upstream's contracts on many leases at once, and what holds here. Of any build, statements only: `MeetsMultilock`
-- has the proofs. docs/CONTRACTS.md shows these records, and says what each kind of them is.
use Rattle.std.specs.Prelude.{ℕ, ◌+◌, ◌≤◌, ◌<◌, ◌≡◌, List, ◌≢◌, length}
use Rattle.model.specs.Log.{Made}
use Rattle.model.specs.Arena.{leases_of, holds_of}
use Rattle.model.specs.Checks.{count_in, lease_count}
use Rattle.model.specs.Foreign.{steps_in}
use Rattle.model.specs.Lock.{hold_at}
use Rattle.types.specs.declared.Answer.TheVariants.{AllGranted}
use Rattle.types.specs.declared.Refusal.TheVariants.{BadScript, TooMany, BadBinding, NotHeld, Repeated}
use Rattle.history.specs.World.{World}
use Rattle.history.specs.Items.{Call, release_all, acquire_locks, Says, unchanged, Build}
use Rattle.history.specs.Statements.{answer_in as result, world_in as final, buffer_in as buffer}
use Rattle.upstream.specs.Vocabulary.{cell, Authority, lease_key, dom, valid, authorized, leases_authorized, key_at, keys_valid, guards_match, all_guards_in}
use Rattle.upstream.specs.Premises.{Own, lease_at, AllOwn, valid_at, keeps_valid, leases_valid, Scripted, WholeArena, WholeKeyed, KeyedHeldGood, Few, LeasesCounted, GoodBefore, KeysCounted}

module _ (w : Authority) (script : List ℕ) (place : ℕ) (leases : List ℕ) where
  -- ---- 000.release_all

  pub record RequiresReleaseAll : Type 0 where
    pub scripted : Scripted w script place
    pub few : Few leases
    pub own : AllOwn w leases
    -- valid(old(authority))
    pub r1 : valid w
    -- forall|i: int| 0 <= i < leases.len() ==> authorized(old(authority), &leases[i])
    pub r2 : leases_authorized w (holds_of leases)
    -- forall|i: int, j: int| 0 <= i < j < leases.len() ==> lease_key(&leases[i]) != lease_key(&leases[j])
    pub r3 : (i j : ℕ) → i < j → j < length (holds_of leases)
        → lease_key (hold_at (holds_of leases) i) ≢ lease_key (hold_at (holds_of leases) j)

  pub record EnsuresReleaseAll (m : Made (World × Says)) : Type 0 where
    -- valid(final(authority))
    pub e1 : valid (final m)
    -- cells(final(authority)).dom() == cells(old(authority)).dom()
    pub e2 : dom (final m) ≡ dom w
    -- forall|i: int| 0 <= i < leases.len() ==> !authorized(final(authority), &leases[i])
    -- different: at most 64 leases, else 4, and 32,768 steps of others, else 2
    pub e3 : (i : ℕ) → i < length (holds_of leases) → authorized (final m) (hold_at (holds_of leases) i) → ⊥

  -- what holds here
  pub record HereReleaseAll (m : Made (World × Says)) : Type 0 where
    pub r1 : (i : ℕ) → i < length (holds_of leases) → LeasesCounted w script place leases → GoodBefore w leases i
        → Own w (lease_at (leases_of leases) i) → (valid_at w (hold_at (holds_of leases) i).cell → ⊥)
        → m ≡ unchanged w (release_all script place leases) (NotHeld i)
    pub r2 : (i : ℕ) → i < length (holds_of leases) → LeasesCounted w script place leases → GoodBefore w leases i
        → Own w (lease_at (leases_of leases) i) → (authorized w (hold_at (holds_of leases) i) → ⊥)
        → m ≡ unchanged w (release_all script place leases) (NotHeld i)
    pub r3 : (i j : ℕ) → i < j → j < length (holds_of leases) → LeasesCounted w script place leases
        → GoodBefore w leases j → Own w (lease_at (leases_of leases) j) → valid_at w (hold_at (holds_of leases) j).cell
        → authorized w (hold_at (holds_of leases) i) → authorized w (hold_at (holds_of leases) j)
        → lease_key (hold_at (holds_of leases) i) ≡ lease_key (hold_at (holds_of leases) j)
        → m ≡ unchanged w (release_all script place leases) (Repeated j)
    pub limit : Scripted w script place → 64 < lease_count leases
        → m ≡ unchanged w (release_all script place leases) TooMany
    pub script_limit : WholeArena w → 32768 < steps_in script
        → m ≡ unchanged w (release_all script place leases) BadScript
    pub e1 : keeps_valid w (final m)
    pub e2 : dom (final m) ≡ dom w
    pub e3 : Scripted w script place → Few leases → AllOwn w leases → leases_valid w (holds_of leases)
        → leases_authorized w (holds_of leases)
        → ((i j : ℕ) → i < j → j < length (holds_of leases)
        → lease_key (hold_at (holds_of leases) i) ≢ lease_key (hold_at (holds_of leases) j))
        → (i : ℕ) → i < length (holds_of leases)
        → authorized (final m) (hold_at (holds_of leases) i) → ⊥

-- ---- of any build

abbrev pub ContractReleaseAll : Build → Type 0
ContractReleaseAll b =
    (w : Authority) (script : List ℕ) (place : ℕ) (leases : List ℕ)
    → RequiresReleaseAll w script place leases
    → EnsuresReleaseAll w script place leases (b w (release_all script place leases))

abbrev pub PromiseReleaseAll : Build → Type 0
PromiseReleaseAll b =
    (w : Authority) (script : List ℕ) (place : ℕ) (leases : List ℕ)
    → HereReleaseAll w script place leases (b w (release_all script place leases))

module _ (w : Authority) (registry script : List ℕ) (place : ℕ) (held keys grants : List ℕ) where
  abbrev call : Call
  call = acquire_locks registry script place held keys grants

  -- ---- 001.acquire_index_locks

  pub record RequiresAcquireIndexLocks : Type 0 where
    -- keys_valid(driver.registry(), keys@)
    pub r1 : keys_valid registry keys

  pub record EnsuresAcquireIndexLocks (m : Made (World × Says)) : Type 0 where
    -- result.is_ok() ==> guards_match(driver.registry(), keys@, result.unwrap()@)
    pub e1 : result m ≡ AllGranted → guards_match w.head.buckets registry keys (holds_of (buffer m))
    -- result.is_ok() ==> all_guards_in(result.unwrap()@, driver.arena())
    -- different: one arena: each guard's cell is in it
    pub e2 : result m ≡ AllGranted → all_guards_in (holds_of (buffer m)) w
    -- result.is_ok() ==> forall|i: int| 0 <= i < keys.len() ==> keys[i].1 < driver.bucket_count()
    pub e3 : result m ≡ AllGranted → (i : ℕ) → i < count_in keys → (key_at keys i).1 < w.head.buckets

  -- what holds here
  pub record HereAcquireIndexLocks (m : Made (World × Says)) : Type 0 where
    pub r1 : (i : ℕ) → KeyedHeldGood w registry script place held → KeysCounted held keys grants → i < count_in keys
        → ((j : ℕ) → j < i → (key_at keys j).0 < length registry) → length registry ≤ (key_at keys i).0
        → m ≡ unchanged w call (BadBinding i)
    pub limit : KeyedHeldGood w registry script place held → 64 < lease_count held + count_in keys
        → m ≡ unchanged w call TooMany
    pub script_limit : WholeKeyed w registry → 32768 < steps_in script → m ≡ unchanged w call BadScript
    pub e1 : result m ≡ AllGranted → guards_match w.head.buckets registry keys (holds_of (buffer m))
    pub e2 : result m ≡ AllGranted → all_guards_in (holds_of (buffer m)) w
    pub e3 : result m ≡ AllGranted → (i : ℕ) → i < count_in keys → (key_at keys i).1 < w.head.buckets

-- ---- of any build

abbrev pub ContractAcquireIndexLocks : Build → Type 0
ContractAcquireIndexLocks b =
    (w : Authority) (registry script : List ℕ) (place : ℕ) (held keys grants : List ℕ)
    → let m = b w (acquire_locks registry script place held keys grants) in
    RequiresAcquireIndexLocks w registry script place held keys grants
    → EnsuresAcquireIndexLocks w registry script place held keys grants m

abbrev pub PromiseAcquireIndexLocks : Build → Type 0
PromiseAcquireIndexLocks b =
    (w : Authority) (registry script : List ℕ) (place : ℕ) (held keys grants : List ℕ)
    → let m = b w (acquire_locks registry script place held keys grants) in
    HereAcquireIndexLocks w registry script place held keys grants m
