-- Upstream's contracts on a lock by key (what a key comes to, one attempt, up to 4,096 of them), and what holds
-- here. Of any build, statements only: `MeetsBucket` has the proofs. docs/CONTRACTS.md shows these records, and says
-- what each kind of them is.
use Rattle.std.specs.Prelude.{ℕ, ◌≤◌, ◌<◌, ◌≡◌, List, ◌↔◌, ◌⊎◌, length, get_or}
use Rattle.model.specs.Log.{Made}
use Rattle.model.specs.Arena.{hold_in, holds_of}
use Rattle.model.specs.Checks.{lease_count}
use Rattle.model.specs.Foreign.{steps_in}
use Rattle.types.specs.declared.Answer.TheVariants.{Granted, Refused}
use Rattle.types.specs.declared.Lease.{Lease}
use Rattle.types.specs.declared.Refusal.TheVariants.{BadScript, BadHeld, BadBinding, BadHeader, Poisoned, InvalidBucket, Damaged}
use Rattle.history.specs.World.{World, yields, number_of_lem}
use Rattle.history.specs.Items.{Call, transactional, acquire_bucket, Says, unchanged, Build}
use Rattle.history.specs.Statements.{answer_in as result, world_in as final}
use Rattle.upstream.specs.Vocabulary.{Key, Authority, lease_key, dom, contains_key, valid, authorized, leases_authorized, key_of, physical_domain, bucket_request_valid, physical, guards_place}
use Rattle.upstream.specs.Premises.{keeps_valid, Fits, FirstBad, Keyed, SwapDamaged, WholeKeyed, Passes, KeyedHeldGood, WellLong, header_at, KeyFound}
use Rattle.upstream.proofs.Health.{ReadAgain, ReadsPoison}

module _ (w : Authority) (registry script : List ℕ) (place : ℕ) (held : List ℕ) (binding bucket : ℕ) where
  abbrev once : Call
  once = transactional registry script place held binding bucket

  abbrev many : Call
  many = acquire_bucket registry script place held binding bucket

  -- the key's header, by the registry, and its health when the call begins
  abbrev header : ℕ
  header = header_at registry binding

  abbrev byte : ℕ
  byte = get_or w.health header 0

  -- its cell
  abbrev own_cell : Key
  own_cell = key_of w header bucket

  -- the lease is on that cell, whose number tells header and bucket
  abbrev OnTheKey : Lease → Type 0
  OnTheKey l = (lease_key (hold_in l) ≡ own_cell) × (bucket < w.head.buckets)

  -- ---- 000.publication_header and 001.publication_header: read at the beginning of every attempt

  pub record RequiresPublicationHeader : Type 0 where
    -- binding < self.registry().len()
    pub r1 : binding < length registry

  pub record EnsuresPublicationHeader (m : Made (World × Says)) : Type 0 where
    -- result.is_ok() ==> result.unwrap() == self.registry()[binding as int]
    -- r.is_ok() ==> r.unwrap() == self.registry()[binding as int]
    pub e1 : (l : Lease) → result m ≡ Granted l → OnTheKey l

  -- what holds here
  pub record HerePublicationHeader (m : Made (World × Says)) : Type 0 where
    pub r1 : KeyedHeldGood w registry script place held → length registry ≤ binding
        → m ≡ unchanged w once (BadBinding 0)
    pub e1 : (l : Lease) → result m ≡ Granted l → OnTheKey l × contains_key w (lease_key (hold_in l))
    pub six : Passes w once → (h : ℕ)
        → (result m ≡ Refused (BadHeader h)) ↔ ((h ≡ header) × (w.head.headers ≤ header))

  -- ---- 000.poisoned and 001.poisoned: no clause upstream

  -- what holds here
  pub record HerePoisoned (m : Made (World × Says)) : Type 0 where
    pub n1 : Passes w once → (h : ℕ)
        → (result m ≡ Refused (Poisoned h))
        ↔ ((h ≡ header) × (header < w.head.headers)
        × ((byte ≡ 0 → ⊥) ⊎ ((bucket < w.head.buckets) × ReadAgain w registry script place held binding bucket)))

  -- ---- 000.poisoned and 001.poisoned, of the retrying call

  -- what holds here
  pub record HerePoisonedRetrying (m : Made (World × Says)) : Type 0 where
    pub n1 : Passes w many → (h : ℕ)
        → (result m ≡ Refused (Poisoned h))
        ↔ ((h ≡ header) × ReadsPoison w registry script place held binding bucket)
    pub left : Passes w many → (h : ℕ) → result m ≡ Refused (Poisoned h) → get_or (final m).health h 0 ≡ 0 → ⊥

  -- ---- 000.yield_now and 001.yield_now

  -- what holds here
  pub record HereYieldNow (m : Made (World × Says)) : Type 0 where
    pub n1 : m.seen.1.counts.yields ≡ number_of_lem yields m.log

  -- ---- 000.bucket: None is 8

  pub record RequiresBucket : Type 0 where
    pub checked : Passes w once
    pub inside : header < w.head.headers
    pub healthy : byte ≡ 0
    -- bucket_request_valid(self.arena(), self.bucket_count(), header, bucket, authority)
    pub r1 : bucket_request_valid w.head.buckets header bucket w

  pub record EnsuresBucket (m : Made (World × Says)) : Type 0 where
    -- bucket_reply(self.arena(), self.bucket_count(), header, bucket, authority, result)
    -- different: header and health are read first, 6 and 7; then 8 exactly if the bucket is not below the count
    pub e1 : ((result m ≡ Refused (InvalidBucket bucket) → ⊥) ↔ (bucket < w.head.buckets))
        × ((l : Lease) → result m ≡ Granted l → (lease_key (hold_in l) ≡ own_cell)
        × contains_key w (lease_key (hold_in l)))

  -- what holds here
  pub record HereBucket (m : Made (World × Says)) : Type 0 where
    pub r1 : Passes w once → (bucket_request_valid w.head.buckets header bucket w → ⊥)
        → result m ≡ Refused (BadHeader header)
    pub e1 : Passes w once → (number : ℕ)
        → (result m ≡ Refused (InvalidBucket number))
        ↔ ((number ≡ bucket) × (header < w.head.headers) × (byte ≡ 0) × (w.head.buckets ≤ bucket))
    pub key : (l : Lease) → result m ≡ Granted l → OnTheKey l × contains_key w (lease_key (hold_in l))

  -- ---- 001.bucket: None is 8

  pub record RequiresGuardsBucket : Type 0 where
    pub checked : Passes w once
    pub inside : header < w.head.headers
    pub healthy : byte ≡ 0

  pub record EnsuresGuardsBucket (m : Made (World × Says)) : Type 0 where
    -- r.is_some() <==> bucket < self.bucket_count()
    -- different: header and health are read first, 6 and 7; then 8 exactly if the bucket is not below the count
    pub e1 : (result m ≡ Refused (InvalidBucket bucket) → ⊥) ↔ (bucket < w.head.buckets)
    -- r.is_some() ==> r.unwrap() == (header, bucket)
    pub e2 : (l : Lease) → result m ≡ Granted l → guards_place w.head.buckets (hold_in l) (header, bucket)

  -- what holds here
  pub record HereGuardsBucket (m : Made (World × Says)) : Type 0 where
    pub e1 : Passes w once → (number : ℕ)
        → (result m ≡ Refused (InvalidBucket number))
        ↔ ((number ≡ bucket) × (header < w.head.headers) × (byte ≡ 0) × (w.head.buckets ≤ bucket))
    pub e2 : (l : Lease) → result m ≡ Granted l → guards_place w.head.buckets (hold_in l) (header, bucket)

  -- ---- 000.transactional_try_lock_bucket

  pub record RequiresTransactionalTryLockBucket : Type 0 where
    pub fits : Fits w
    -- valid(old(authority))
    pub r1 : valid w
    -- binding < driver.registry().len()
    pub r2 : binding < length registry
    -- leases_authorized(old(authority), held@)
    pub r3 : leases_authorized w (holds_of held)
    -- physical_domain(driver, old(authority))
    pub r4 : physical_domain registry w

  pub record EnsuresTransactionalTryLockBucket (m : Made (World × Says)) : Type 0 where
    -- valid(final(authority))
    pub e1 : valid (final m)
    -- leases_authorized(final(authority), held@)
    pub e2 : leases_authorized (final m) (holds_of held)
    -- cells(final(authority)).dom() == cells(old(authority)).dom()
    pub e3 : dom (final m) ≡ dom w
    -- result.is_ok() && result.unwrap().is_some() ==> authorized(final(authority), &result.unwrap().unwrap())
    pub e4 : (l : Lease) → result m ≡ Granted l → authorized (final m) (hold_in l)
    -- result.is_ok() && result.unwrap().is_some() ==> lease_key(&result.unwrap().unwrap()) == (driver.arena(), driver.registry()[binding as int], bucket)
    pub e5 : (l : Lease) → result m ≡ Granted l → OnTheKey l

  -- what holds here
  pub record HereTransactionalTryLockBucket (m : Made (World × Says)) : Type 0 where
    pub r1 : Passes w once → KeyFound w registry binding bucket → SwapDamaged w script place held own_cell
        → result m ≡ Refused (Damaged own_cell)
    pub r2 : KeyedHeldGood w registry script place held → length registry ≤ binding
        → m ≡ unchanged w once (BadBinding 0)
    pub r3 : (i : ℕ) → Keyed w registry script place → WellLong held → FirstBad w held i
        → m ≡ unchanged w once (BadHeld i)
    pub r4 : Passes w once → w.head.headers ≤ header → result m ≡ Refused (BadHeader header)
    pub limit : Keyed w registry script place → 64 < lease_count held
        → m ≡ unchanged w once (BadHeld (lease_count held))
    pub script_limit : WholeKeyed w registry → 32768 < steps_in script → m ≡ unchanged w once BadScript
    pub e1 : keeps_valid w (final m)
    pub e2 : leases_authorized w (holds_of held) → leases_authorized (final m) (holds_of held)
    pub e3 : dom (final m) ≡ dom w
    pub e4 : (l : Lease) → result m ≡ Granted l → authorized (final m) (hold_in l)
    pub e5 : (l : Lease) → result m ≡ Granted l → OnTheKey l

  -- ---- 001.transactional_try_lock_bucket

  pub record RequiresGuardsTransactional : Type 0 where
    -- binding < driver.registry().len()
    pub r1 : binding < length registry

  pub record EnsuresGuardsTransactional (m : Made (World × Says)) : Type 0 where
    -- result.is_ok() && result.unwrap().is_some() ==> result.unwrap().unwrap().physical == physical(driver.registry(), (binding, bucket))
    pub e1 : (l : Lease) → result m ≡ Granted l
        → guards_place w.head.buckets (hold_in l) (physical registry (binding, bucket))
    -- result.is_ok() && result.unwrap().is_some() ==> result.unwrap().unwrap().arena == driver.arena()
    -- different: one arena: the guard's cell is in it
    pub e2 : (l : Lease) → result m ≡ Granted l → contains_key w (lease_key (hold_in l))
    -- result.is_ok() && result.unwrap().is_some() ==> bucket < driver.bucket_count()
    pub e3 : (l : Lease) → result m ≡ Granted l → bucket < w.head.buckets

  -- what holds here
  pub record HereGuardsTransactional (m : Made (World × Says)) : Type 0 where
    pub r1 : KeyedHeldGood w registry script place held → length registry ≤ binding
        → m ≡ unchanged w once (BadBinding 0)
    pub e1 : (l : Lease) → result m ≡ Granted l
        → guards_place w.head.buckets (hold_in l) (physical registry (binding, bucket))
    pub e2 : (l : Lease) → result m ≡ Granted l → contains_key w (lease_key (hold_in l))
    pub e3 : (l : Lease) → result m ≡ Granted l → bucket < w.head.buckets

  -- ---- 000.acquire_index_bucket

  pub record RequiresAcquireIndexBucket : Type 0 where
    pub fits : Fits w
    -- valid(old(authority))
    pub r1 : valid w
    -- binding < driver.registry().len()
    pub r2 : binding < length registry
    -- leases_authorized(old(authority), held@)
    pub r3 : leases_authorized w (holds_of held)
    -- physical_domain(driver, old(authority))
    pub r4 : physical_domain registry w

  pub record EnsuresAcquireIndexBucket (m : Made (World × Says)) : Type 0 where
    -- valid(final(authority))
    pub e1 : valid (final m)
    -- leases_authorized(final(authority), held@)
    pub e2 : leases_authorized (final m) (holds_of held)
    -- cells(final(authority)).dom() == cells(old(authority)).dom()
    pub e3 : dom (final m) ≡ dom w
    -- result.is_ok() ==> authorized(final(authority), &result.unwrap())
    pub e4 : (l : Lease) → result m ≡ Granted l → authorized (final m) (hold_in l)
    -- result.is_ok() ==> lease_key(&result.unwrap()) == (driver.arena(), driver.registry()[binding as int], bucket)
    pub e5 : (l : Lease) → result m ≡ Granted l → OnTheKey l

  -- what holds here
  pub record HereAcquireIndexBucket (m : Made (World × Says)) : Type 0 where
    pub r1 : Passes w many → KeyFound w registry binding bucket → SwapDamaged w script place held own_cell
        → result m ≡ Refused (Damaged own_cell)
    pub r2 : KeyedHeldGood w registry script place held → length registry ≤ binding
        → m ≡ unchanged w many (BadBinding 0)
    pub r3 : (i : ℕ) → Keyed w registry script place → WellLong held → FirstBad w held i
        → m ≡ unchanged w many (BadHeld i)
    pub r4 : Passes w many → w.head.headers ≤ header → result m ≡ Refused (BadHeader header)
    pub limit : Keyed w registry script place → 64 < lease_count held
        → m ≡ unchanged w many (BadHeld (lease_count held))
    pub script_limit : WholeKeyed w registry → 32768 < steps_in script → m ≡ unchanged w many BadScript
    pub e1 : keeps_valid w (final m)
    pub e2 : leases_authorized w (holds_of held) → leases_authorized (final m) (holds_of held)
    pub e3 : dom (final m) ≡ dom w
    pub e4 : (l : Lease) → result m ≡ Granted l → authorized (final m) (hold_in l)
    pub e5 : (l : Lease) → result m ≡ Granted l → OnTheKey l

  -- ---- 001.acquire_index_bucket

  pub record RequiresGuardsAcquireBucket : Type 0 where
    -- binding < driver.registry().len()
    pub r1 : binding < length registry

  pub record EnsuresGuardsAcquireBucket (m : Made (World × Says)) : Type 0 where
    -- result.is_ok() ==> result.unwrap().physical == physical(driver.registry(), (binding, bucket))
    pub e1 : (l : Lease) → result m ≡ Granted l
        → guards_place w.head.buckets (hold_in l) (physical registry (binding, bucket))
    -- result.is_ok() ==> result.unwrap().arena == driver.arena()
    -- different: one arena: the guard's cell is in it
    pub e2 : (l : Lease) → result m ≡ Granted l → contains_key w (lease_key (hold_in l))
    -- result.is_ok() ==> bucket < driver.bucket_count()
    pub e3 : (l : Lease) → result m ≡ Granted l → bucket < w.head.buckets

  -- what holds here
  pub record HereGuardsAcquireBucket (m : Made (World × Says)) : Type 0 where
    pub r1 : KeyedHeldGood w registry script place held → length registry ≤ binding
        → m ≡ unchanged w many (BadBinding 0)
    pub e1 : (l : Lease) → result m ≡ Granted l
        → guards_place w.head.buckets (hold_in l) (physical registry (binding, bucket))
    pub e2 : (l : Lease) → result m ≡ Granted l → contains_key w (lease_key (hold_in l))
    pub e3 : (l : Lease) → result m ≡ Granted l → bucket < w.head.buckets

-- ---- of any build

abbrev pub ContractPublicationHeader : Build → Type 0
ContractPublicationHeader b =
    (w : Authority) (registry script : List ℕ) (place : ℕ) (held : List ℕ) (binding bucket : ℕ)
    → let m = b w (transactional registry script place held binding bucket) in
    RequiresPublicationHeader w registry script place held binding bucket
    → EnsuresPublicationHeader w registry script place held binding bucket m

abbrev pub PromisePublicationHeader : Build → Type 0
PromisePublicationHeader b =
    (w : Authority) (registry script : List ℕ) (place : ℕ) (held : List ℕ) (binding bucket : ℕ)
    → let m = b w (transactional registry script place held binding bucket) in
    HerePublicationHeader w registry script place held binding bucket m

abbrev pub PromisePoisoned : Build → Type 0
PromisePoisoned b =
    (w : Authority) (registry script : List ℕ) (place : ℕ) (held : List ℕ) (binding bucket : ℕ)
    → let m = b w (transactional registry script place held binding bucket) in
    HerePoisoned w registry script place held binding bucket m

abbrev pub PromisePoisonedRetrying : Build → Type 0
PromisePoisonedRetrying b =
    (w : Authority) (registry script : List ℕ) (place : ℕ) (held : List ℕ) (binding bucket : ℕ)
    → let m = b w (acquire_bucket registry script place held binding bucket) in
    HerePoisonedRetrying w registry script place held binding bucket m

abbrev pub PromiseYieldNow : Build → Type 0
PromiseYieldNow b =
    (w : Authority) (registry script : List ℕ) (place : ℕ) (held : List ℕ) (binding bucket : ℕ)
    → let m = b w (acquire_bucket registry script place held binding bucket) in
    HereYieldNow w registry script place held binding bucket m

abbrev pub ContractBucket : Build → Type 0
ContractBucket b =
    (w : Authority) (registry script : List ℕ) (place : ℕ) (held : List ℕ) (binding bucket : ℕ)
    → let m = b w (transactional registry script place held binding bucket) in
    RequiresBucket w registry script place held binding bucket
    → EnsuresBucket w registry script place held binding bucket m

abbrev pub PromiseBucket : Build → Type 0
PromiseBucket b =
    (w : Authority) (registry script : List ℕ) (place : ℕ) (held : List ℕ) (binding bucket : ℕ)
    → let m = b w (transactional registry script place held binding bucket) in
    HereBucket w registry script place held binding bucket m

abbrev pub ContractGuardsBucket : Build → Type 0
ContractGuardsBucket b =
    (w : Authority) (registry script : List ℕ) (place : ℕ) (held : List ℕ) (binding bucket : ℕ)
    → let m = b w (transactional registry script place held binding bucket) in
    RequiresGuardsBucket w registry script place held binding bucket
    → EnsuresGuardsBucket w registry script place held binding bucket m

abbrev pub PromiseGuardsBucket : Build → Type 0
PromiseGuardsBucket b =
    (w : Authority) (registry script : List ℕ) (place : ℕ) (held : List ℕ) (binding bucket : ℕ)
    → let m = b w (transactional registry script place held binding bucket) in
    HereGuardsBucket w registry script place held binding bucket m

abbrev pub ContractTransactionalTryLockBucket : Build → Type 0
ContractTransactionalTryLockBucket b =
    (w : Authority) (registry script : List ℕ) (place : ℕ) (held : List ℕ) (binding bucket : ℕ)
    → let m = b w (transactional registry script place held binding bucket) in
    RequiresTransactionalTryLockBucket w registry script place held binding bucket
    → EnsuresTransactionalTryLockBucket w registry script place held binding bucket m

abbrev pub PromiseTransactionalTryLockBucket : Build → Type 0
PromiseTransactionalTryLockBucket b =
    (w : Authority) (registry script : List ℕ) (place : ℕ) (held : List ℕ) (binding bucket : ℕ)
    → let m = b w (transactional registry script place held binding bucket) in
    HereTransactionalTryLockBucket w registry script place held binding bucket m

abbrev pub ContractGuardsTransactional : Build → Type 0
ContractGuardsTransactional b =
    (w : Authority) (registry script : List ℕ) (place : ℕ) (held : List ℕ) (binding bucket : ℕ)
    → let m = b w (transactional registry script place held binding bucket) in
    RequiresGuardsTransactional w registry script place held binding bucket
    → EnsuresGuardsTransactional w registry script place held binding bucket m

abbrev pub PromiseGuardsTransactional : Build → Type 0
PromiseGuardsTransactional b =
    (w : Authority) (registry script : List ℕ) (place : ℕ) (held : List ℕ) (binding bucket : ℕ)
    → let m = b w (transactional registry script place held binding bucket) in
    HereGuardsTransactional w registry script place held binding bucket m

abbrev pub ContractAcquireIndexBucket : Build → Type 0
ContractAcquireIndexBucket b =
    (w : Authority) (registry script : List ℕ) (place : ℕ) (held : List ℕ) (binding bucket : ℕ)
    → let m = b w (acquire_bucket registry script place held binding bucket) in
    RequiresAcquireIndexBucket w registry script place held binding bucket
    → EnsuresAcquireIndexBucket w registry script place held binding bucket m

abbrev pub PromiseAcquireIndexBucket : Build → Type 0
PromiseAcquireIndexBucket b =
    (w : Authority) (registry script : List ℕ) (place : ℕ) (held : List ℕ) (binding bucket : ℕ)
    → let m = b w (acquire_bucket registry script place held binding bucket) in
    HereAcquireIndexBucket w registry script place held binding bucket m

abbrev pub ContractGuardsAcquireBucket : Build → Type 0
ContractGuardsAcquireBucket b =
    (w : Authority) (registry script : List ℕ) (place : ℕ) (held : List ℕ) (binding bucket : ℕ)
    → let m = b w (acquire_bucket registry script place held binding bucket) in
    RequiresGuardsAcquireBucket w registry script place held binding bucket
    → EnsuresGuardsAcquireBucket w registry script place held binding bucket m

abbrev pub PromiseGuardsAcquireBucket : Build → Type 0
PromiseGuardsAcquireBucket b =
    (w : Authority) (registry script : List ℕ) (place : ℕ) (held : List ℕ) (binding bucket : ℕ)
    → let m = b w (acquire_bucket registry script place held binding bucket) in
    HereGuardsAcquireBucket w registry script place held binding bucket m
