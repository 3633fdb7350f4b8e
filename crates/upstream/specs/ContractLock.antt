-- Upstream's contracts on a lock by cell, and what holds here. Of any build, statements only: `MeetsLock` has the
-- proofs. docs/CONTRACTS.md shows these records, and says what each kind of them is.
use Rattle.std.specs.Prelude.{ℕ, ◌<◌, ◌≡◌, List}
use Rattle.model.specs.Log.{Made}
use Rattle.model.specs.Arena.{hold_in, holds_of}
use Rattle.model.specs.Checks.{lease_count}
use Rattle.model.specs.Foreign.{steps_in}
use Rattle.types.specs.declared.Answer.TheVariants.{Granted, Refused}
use Rattle.types.specs.declared.Lease.{Lease}
use Rattle.types.specs.declared.Refusal.TheVariants.{BadScript, BadHeld, InvalidBucket, Damaged}
use Rattle.history.specs.World.{World}
use Rattle.history.specs.Items.{Call, try_lock, Says, unchanged, Build}
use Rattle.history.specs.Statements.{answer_in as result, world_in as final}
use Rattle.upstream.specs.Vocabulary.{Key, Authority, lease_key, dom, contains_key, valid, authorized, leases_authorized, guards_place}
use Rattle.upstream.specs.Premises.{keeps_valid, Fits, FirstBad, Scripted, at_the_swap, SwapDamaged, WholeArena, Passes, ScriptedHeldGood, WellLong}
use Rattle.upstream.specs.Guards.{slot_of}

module _ (w : Authority) (script : List ℕ) (place : ℕ) (held : List ℕ) (key : Key) where
  abbrev call : Call
  call = try_lock script place held key

  -- ---- 000.try_lock

  pub record RequiresTryLock : Type 0 where
    pub fits : Fits w
    -- valid(old(authority))
    pub r1 : valid w
    -- cells(old(authority)).contains_key(key)
    pub r2 : contains_key w key
    -- leases_authorized(old(authority), held@)
    pub r3 : leases_authorized w (holds_of held)

  pub record EnsuresTryLock (m : Made (World × Says)) : Type 0 where
    -- valid(final(authority))
    pub e1 : valid (final m)
    -- leases_authorized(final(authority), held@)
    pub e2 : leases_authorized (final m) (holds_of held)
    -- cells(final(authority)).dom() == cells(old(authority)).dom()
    pub e3 : dom (final m) ≡ dom w
    -- result.is_some() ==> lease_key(&result.unwrap()) == key
    pub e4 : (l : Lease) → result m ≡ Granted l → lease_key (hold_in l) ≡ key
    -- result.is_some() ==> authorized(final(authority), &result.unwrap())
    pub e5 : (l : Lease) → result m ≡ Granted l → authorized (final m) (hold_in l)

  -- what holds here
  pub record HereTryLock (m : Made (World × Says)) : Type 0 where
    pub r1 : Passes w call → SwapDamaged w script place held key
        → (result m ≡ Refused (Damaged key)) × (final m ≡ at_the_swap w script place held)
    pub r2 : ScriptedHeldGood w script place held → (contains_key w key → ⊥)
        → m ≡ unchanged w call (InvalidBucket key)
    pub r3 : (i : ℕ) → Scripted w script place → WellLong held → FirstBad w held i
        → m ≡ unchanged w call (BadHeld i)
    pub limit : Scripted w script place → 64 < lease_count held → m ≡ unchanged w call (BadHeld (lease_count held))
    pub script_limit : WholeArena w → 32768 < steps_in script → m ≡ unchanged w call BadScript
    pub e1 : keeps_valid w (final m)
    pub e2 : leases_authorized w (holds_of held) → leases_authorized (final m) (holds_of held)
    pub e3 : dom (final m) ≡ dom w
    pub e4 : (l : Lease) → result m ≡ Granted l → lease_key (hold_in l) ≡ key
    pub e5 : (l : Lease) → result m ≡ Granted l → authorized (final m) (hold_in l)

  -- ---- 000.other_mutex_preserves_leases

  pub record RequiresOtherMutexPreservesLeases : Type 0 where
    pub fits : Fits w
    -- valid(old(authority))
    pub r1 : valid w
    -- leases_authorized(old(authority), held@)
    pub r2 : leases_authorized w (holds_of held)
    -- cells(old(authority)).contains_key(key)
    pub r3 : contains_key w key

  pub record EnsuresOtherMutexPreservesLeases (m : Made (World × Says)) : Type 0 where
    -- valid(final(authority))
    pub e1 : valid (final m)
    -- leases_authorized(final(authority), held@)
    pub e2 : leases_authorized (final m) (holds_of held)
    -- other.is_some() ==> authorized(final(authority), &other.unwrap())
    pub e3 : (l : Lease) → result m ≡ Granted l → authorized (final m) (hold_in l)
    -- other.is_some() ==> lease_key(&other.unwrap()) == key
    pub e4 : (l : Lease) → result m ≡ Granted l → lease_key (hold_in l) ≡ key

  -- what holds here
  pub record HereOtherMutexPreservesLeases (m : Made (World × Says)) : Type 0 where
    pub r1 : Passes w call → SwapDamaged w script place held key
        → (result m ≡ Refused (Damaged key)) × (final m ≡ at_the_swap w script place held)
    pub r2 : (i : ℕ) → Scripted w script place → WellLong held → FirstBad w held i
        → m ≡ unchanged w call (BadHeld i)
    pub r3 : ScriptedHeldGood w script place held → (contains_key w key → ⊥)
        → m ≡ unchanged w call (InvalidBucket key)
    pub limit : Scripted w script place → 64 < lease_count held → m ≡ unchanged w call (BadHeld (lease_count held))
    pub script_limit : WholeArena w → 32768 < steps_in script → m ≡ unchanged w call BadScript
    pub e1 : keeps_valid w (final m)
    pub e2 : leases_authorized w (holds_of held) → leases_authorized (final m) (holds_of held)
    pub e3 : (l : Lease) → result m ≡ Granted l → authorized (final m) (hold_in l)
    pub e4 : (l : Lease) → result m ≡ Granted l → lease_key (hold_in l) ≡ key
    pub keys : dom (final m) ≡ dom w

  -- ---- 001.try_lock

  pub record EnsuresGuardsTryLock (m : Made (World × Says)) : Type 0 where
    -- r.is_some() ==> r.unwrap().physical == slot
    pub e1 : (l : Lease) → result m ≡ Granted l
        → guards_place w.head.buckets (hold_in l) (slot_of w.head.buckets key)
    -- r.is_some() ==> r.unwrap().arena == self.arena()
    -- different: one arena: the guard's cell is in it
    pub e2 : (l : Lease) → result m ≡ Granted l → contains_key w (lease_key (hold_in l))

  -- what holds here
  pub record HereGuardsTryLock (m : Made (World × Says)) : Type 0 where
    pub e1 : (l : Lease) → result m ≡ Granted l
        → guards_place w.head.buckets (hold_in l) (slot_of w.head.buckets key)
    pub e2 : (l : Lease) → result m ≡ Granted l → contains_key w (lease_key (hold_in l))

-- ---- of any build

abbrev pub ContractTryLock : Build → Type 0
ContractTryLock b =
    (w : Authority) (script : List ℕ) (place : ℕ) (held : List ℕ) (key : Key)
    → RequiresTryLock w script place held key
    → EnsuresTryLock w script place held key (b w (try_lock script place held key))

abbrev pub PromiseTryLock : Build → Type 0
PromiseTryLock b =
    (w : Authority) (script : List ℕ) (place : ℕ) (held : List ℕ) (key : Key)
    → HereTryLock w script place held key (b w (try_lock script place held key))

abbrev pub ContractOtherMutexPreservesLeases : Build → Type 0
ContractOtherMutexPreservesLeases b =
    (w : Authority) (script : List ℕ) (place : ℕ) (held : List ℕ) (key : Key)
    → RequiresOtherMutexPreservesLeases w script place held key
    → EnsuresOtherMutexPreservesLeases w script place held key (b w (try_lock script place held key))

abbrev pub PromiseOtherMutexPreservesLeases : Build → Type 0
PromiseOtherMutexPreservesLeases b =
    (w : Authority) (script : List ℕ) (place : ℕ) (held : List ℕ) (key : Key)
    → HereOtherMutexPreservesLeases w script place held key (b w (try_lock script place held key))

abbrev pub ContractGuardsTryLock : Build → Type 0
ContractGuardsTryLock b =
    (w : Authority) (script : List ℕ) (place : ℕ) (held : List ℕ) (key : Key)
    → EnsuresGuardsTryLock w script place held key (b w (try_lock script place held key))

abbrev pub PromiseGuardsTryLock : Build → Type 0
PromiseGuardsTryLock b =
    (w : Authority) (script : List ℕ) (place : ℕ) (held : List ℕ) (key : Key)
    → HereGuardsTryLock w script place held key (b w (try_lock script place held key))
