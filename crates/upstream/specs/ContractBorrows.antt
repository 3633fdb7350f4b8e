-- Upstream's contracts on the steps of others and on calls beside leases that the caller keeps, and what holds here.
-- Of any build, statements only: `MeetsBorrows` has the proofs. docs/CONTRACTS.md shows these records, and says what
-- each kind of them is.
use Rattle.std.specs.Prelude.{ℕ, ◌≤◌, ◌<◌, ◌≡◌, List}
use Rattle.model.specs.Log.{Made}
use Rattle.model.specs.Arena.{last_serial, lease_of, hold_of, hold_in, holds_of}
use Rattle.model.specs.Checks.{lease_count}
use Rattle.model.specs.Foreign.{steps_in}
use Rattle.types.specs.declared.Answer.TheVariants.{Granted, Refused}
use Rattle.types.specs.declared.Lease.{Lease}
use Rattle.types.specs.declared.Refusal.TheVariants.{BadScript, BadHeld, InvalidBucket, Damaged, SerialsSpent, NotHeld, Protected}
use Rattle.history.specs.World.{World}
use Rattle.history.specs.Items.{Call, foreign_release, drop_preserving, acquire_preserving, environment, Says, unchanged, Build}
use Rattle.history.specs.Statements.{answer_in as result, world_in as final}
use Rattle.upstream.specs.Vocabulary.{Key, cell, Authority, lease_key, lease_serial, next_serial, dom, contains_key, cells, valid, authorized, protected_valid, held_ids, leases_authorized, legal_environment, no_resurrection}
use Rattle.upstream.specs.Premises.{Own, valid_at, keeps_valid, leases_valid, Fits, FirstBad, Short, Scripted, WholeArena, Passes, HeldGood, WellLong}
use Rattle.upstream.specs.Damage.{Damage, DropsDamaged, SetsWaiters}

module _ (w : Authority) (script : List ℕ) (place : ℕ) (held : List ℕ) where
  abbrev call : Call
  call = environment script place held

  -- ---- 000.interfere

  pub record RequiresInterfere : Type 0 where
    -- valid(old(authority))
    pub r1 : valid w
    -- protected_valid(old(authority), protected)
    pub r2 : protected_valid w (held_ids (holds_of held))

  pub record EnsuresInterfere (m : Made (World × Says)) : Type 0 where
    -- legal_environment(old(authority), final(authority), protected)
    pub e1 : legal_environment w (final m) (held_ids (holds_of held))

  -- what holds here
  pub record HereInterfere (m : Made (World × Says)) : Type 0 where
    pub r1 : Damage w m
    pub r2 : (i : ℕ) → Scripted w script place → WellLong held → FirstBad w held i
        → m ≡ unchanged w call (BadHeld i)
    pub limit : Scripted w script place → 64 < lease_count held → m ≡ unchanged w call (BadHeld (lease_count held))
    pub script_limit : WholeArena w → 32768 < steps_in script → m ≡ unchanged w call BadScript
    pub e1 : legal_environment w (final m) (held_ids (holds_of held))

  -- ---- 000.environment

  pub record RequiresEnvironment : Type 0 where
    -- valid(old(authority))
    pub r1 : valid w
    -- protected_valid(old(authority), protected)
    pub r2 : protected_valid w (held_ids (holds_of held))

  pub record EnsuresEnvironment (m : Made (World × Says)) : Type 0 where
    -- valid(final(authority))
    pub e1 : valid (final m)
    -- protected_valid(final(authority), protected)
    pub e2 : protected_valid (final m) (held_ids (holds_of held))
    -- cells(final(authority)).dom() == cells(old(authority)).dom()
    pub e3 : dom (final m) ≡ dom w
    -- no_resurrection(old(authority), final(authority))
    pub e4 : no_resurrection w (final m)

  -- what holds here
  pub record HereEnvironment (m : Made (World × Says)) : Type 0 where
    pub r1 : Damage w m
    pub r2 : (i : ℕ) → Scripted w script place → WellLong held → FirstBad w held i
        → m ≡ unchanged w call (BadHeld i)
    pub limit : Scripted w script place → 64 < lease_count held → m ≡ unchanged w call (BadHeld (lease_count held))
    pub script_limit : WholeArena w → 32768 < steps_in script → m ≡ unchanged w call BadScript
    pub e1 : keeps_valid w (final m)
    pub e2 : protected_valid w (held_ids (holds_of held)) → protected_valid (final m) (held_ids (holds_of held))
    pub e3 : dom (final m) ≡ dom w
    pub e4 : no_resurrection w (final m)

  -- ---- 000.environment_for_borrows

  pub record RequiresEnvironmentForBorrows : Type 0 where
    -- valid(old(authority))
    pub r1 : valid w
    -- leases_authorized(old(authority), held@)
    pub r2 : leases_authorized w (holds_of held)

  pub record EnsuresEnvironmentForBorrows (m : Made (World × Says)) : Type 0 where
    -- valid(final(authority))
    pub e1 : valid (final m)
    -- leases_authorized(final(authority), held@)
    pub e2 : leases_authorized (final m) (holds_of held)
    -- cells(final(authority)).dom() == cells(old(authority)).dom()
    pub e3 : dom (final m) ≡ dom w
    -- no_resurrection(old(authority), final(authority))
    pub e4 : no_resurrection w (final m)

  -- what holds here
  pub record HereEnvironmentForBorrows (m : Made (World × Says)) : Type 0 where
    pub r1 : Damage w m
    pub r2 : (i : ℕ) → Scripted w script place → WellLong held → FirstBad w held i
        → m ≡ unchanged w call (BadHeld i)
    pub limit : Scripted w script place → 64 < lease_count held → m ≡ unchanged w call (BadHeld (lease_count held))
    pub script_limit : WholeArena w → 32768 < steps_in script → m ≡ unchanged w call BadScript
    pub e1 : keeps_valid w (final m)
    pub e2 : leases_authorized w (holds_of held) → leases_authorized (final m) (holds_of held)
    pub e3 : dom (final m) ≡ dom w
    pub e4 : no_resurrection w (final m)

-- ---- of any build

abbrev pub ContractInterfere : Build → Type 0
ContractInterfere b =
    (w : Authority) (script : List ℕ) (place : ℕ) (held : List ℕ)
    → RequiresInterfere w script place held
    → EnsuresInterfere w script place held (b w (environment script place held))

abbrev pub PromiseInterfere : Build → Type 0
PromiseInterfere b =
    ((w : Authority) (script : List ℕ) (place : ℕ) (held : List ℕ)
    → HereInterfere w script place held (b w (environment script place held)))
    × DropsDamaged b × SetsWaiters b

abbrev pub ContractEnvironment : Build → Type 0
ContractEnvironment b =
    (w : Authority) (script : List ℕ) (place : ℕ) (held : List ℕ)
    → RequiresEnvironment w script place held
    → EnsuresEnvironment w script place held (b w (environment script place held))

abbrev pub PromiseEnvironment : Build → Type 0
PromiseEnvironment b =
    ((w : Authority) (script : List ℕ) (place : ℕ) (held : List ℕ)
    → HereEnvironment w script place held (b w (environment script place held)))
    × DropsDamaged b × SetsWaiters b

abbrev pub ContractEnvironmentForBorrows : Build → Type 0
ContractEnvironmentForBorrows b =
    (w : Authority) (script : List ℕ) (place : ℕ) (held : List ℕ)
    → RequiresEnvironmentForBorrows w script place held
    → EnsuresEnvironmentForBorrows w script place held (b w (environment script place held))

abbrev pub PromiseEnvironmentForBorrows : Build → Type 0
PromiseEnvironmentForBorrows b =
    ((w : Authority) (script : List ℕ) (place : ℕ) (held : List ℕ)
    → HereEnvironmentForBorrows w script place held (b w (environment script place held)))
    × DropsDamaged b × SetsWaiters b

module _ (w : Authority) (held : List ℕ) (key : Key) where
  -- ---- 000.acquire_preserving_borrows

  pub record RequiresAcquirePreservingBorrows : Type 0 where
    pub fits : Fits w
    pub short : Short w held
    pub serials : next_serial w < last_serial
    -- valid(old(authority))
    pub r1 : valid w
    -- cells(old(authority)).contains_key(key)
    pub r2 : contains_key w key
    -- leases_authorized(old(authority), held@)
    pub r3 : leases_authorized w (holds_of held)

  pub record EnsuresAcquirePreservingBorrows (m : Made (World × Says)) : Type 0 where
    -- valid(final(authority))
    pub e1 : valid (final m)
    -- leases_authorized(final(authority), held@)
    pub e2 : leases_authorized (final m) (holds_of held)
    -- protected_valid(final(authority), held_ids(held@))
    pub e3 : protected_valid (final m) (held_ids (holds_of held))
    -- cells(final(authority)).dom() == cells(old(authority)).dom()
    pub e4 : dom (final m) ≡ dom w
    -- cells(old(authority))[key].bit == 0 ==> result.is_some()
    -- different: and a serial remains, else 10; at most 64 held leases, else 3
    pub e5 : (cells w key).bit ≡ 0 → (l : Lease) × (result m ≡ Granted l)
    -- result.is_some() ==> lease_serial(&result.unwrap()) == next_serial(old(authority))
    pub e6 : (l : Lease) → result m ≡ Granted l → lease_serial (hold_in l) ≡ next_serial w
    -- result.is_some() ==> authorized(final(authority), &result.unwrap())
    pub e7 : (l : Lease) → result m ≡ Granted l → authorized (final m) (hold_in l)
    -- result.is_some() ==> lease_key(&result.unwrap()) == key
    pub e8 : (l : Lease) → result m ≡ Granted l → lease_key (hold_in l) ≡ key
    -- result.is_some() ==> !held_ids(held@).contains((key, lease_serial(&result.unwrap())))
    pub e9 : (l : Lease) → result m ≡ Granted l → held_ids (holds_of held) (hold_of key (lease_serial (hold_in l))) → ⊥

  -- what holds here
  pub record HereAcquirePreservingBorrows (m : Made (World × Says)) : Type 0 where
    pub r1 : Passes w (acquire_preserving held key) → (valid_at w key → ⊥)
        → (result m ≡ Refused (Damaged key)) × (final m ≡ w)
    pub r2 : HeldGood w held → (contains_key w key → ⊥)
        → m ≡ unchanged w (acquire_preserving held key) (InvalidBucket key)
    pub r3 : (i : ℕ) → Fits w → WellLong held → FirstBad w held i
        → m ≡ unchanged w (acquire_preserving held key) (BadHeld i)
    pub limit : Fits w → 64 < lease_count held
        → m ≡ unchanged w (acquire_preserving held key) (BadHeld (lease_count held))
    pub e1 : keeps_valid w (final m)
    pub e2 : leases_authorized w (holds_of held) → leases_authorized (final m) (holds_of held)
    pub e3 : leases_authorized w (holds_of held) → protected_valid (final m) (held_ids (holds_of held))
    pub e4 : dom (final m) ≡ dom w
    pub e5 : Fits w → Short w held → leases_valid w (holds_of held) → valid_at w key → contains_key w key
        → leases_authorized w (holds_of held) → (cells w key).bit ≡ 0
        → (next_serial w < last_serial → result m ≡ Granted (lease_of key (next_serial w) w.head.boot))
        × (last_serial ≤ next_serial w → result m ≡ Refused (SerialsSpent key))
    pub e6 : (l : Lease) → result m ≡ Granted l → lease_serial (hold_in l) ≡ next_serial w
    pub e7 : (l : Lease) → result m ≡ Granted l → authorized (final m) (hold_in l)
    pub e8 : (l : Lease) → result m ≡ Granted l → lease_key (hold_in l) ≡ key
    pub e9 : leases_authorized w (holds_of held) → (l : Lease) → result m ≡ Granted l
        → held_ids (holds_of held) (hold_of key (lease_serial (hold_in l))) → ⊥

-- ---- of any build

abbrev pub ContractAcquirePreservingBorrows : Build → Type 0
ContractAcquirePreservingBorrows b =
    (w : Authority) (held : List ℕ) (key : Key)
    → RequiresAcquirePreservingBorrows w held key
    → EnsuresAcquirePreservingBorrows w held key (b w (acquire_preserving held key))

abbrev pub PromiseAcquirePreservingBorrows : Build → Type 0
PromiseAcquirePreservingBorrows b =
    (w : Authority) (held : List ℕ) (key : Key)
    → HereAcquirePreservingBorrows w held key (b w (acquire_preserving held key))

module _ (w : Authority) (held : List ℕ) (l : Lease) where
  -- ---- 000.drop_preserving_borrows

  pub record RequiresDropPreservingBorrows : Type 0 where
    pub fits : Fits w
    pub short : Short w held
    pub own : Own w l
    -- valid(old(authority))
    pub r1 : valid w
    -- authorized(old(authority), &lease)
    pub r2 : authorized w (hold_in l)
    -- leases_authorized(old(authority), held@)
    pub r3 : leases_authorized w (holds_of held)
    -- !held_ids(held@).contains((lease_key(&lease), lease_serial(&lease)))
    pub r4 : held_ids (holds_of held) (hold_in l) → ⊥

  pub record EnsuresDropPreservingBorrows (m : Made (World × Says)) : Type 0 where
    -- valid(final(authority))
    pub e1 : valid (final m)
    -- leases_authorized(final(authority), held@)
    pub e2 : leases_authorized (final m) (holds_of held)
    -- protected_valid(final(authority), held_ids(held@))
    pub e3 : protected_valid (final m) (held_ids (holds_of held))
    -- cells(final(authority)).dom() == cells(old(authority)).dom()
    pub e4 : dom (final m) ≡ dom w
    -- cells(final(authority))[lease_key(&lease)].bit == 0
    -- different: at most 64 held leases, else 3
    pub e5 : (cells (final m) (lease_key (hold_in l))).bit ≡ 0
    -- next_serial(final(authority)) == next_serial(old(authority))
    pub e6 : next_serial (final m) ≡ next_serial w

  -- what holds here
  pub record HereDropPreservingBorrows (m : Made (World × Says)) : Type 0 where
    pub r1 : HeldGood w held → Own w l → (valid_at w (lease_key (hold_in l)) → ⊥)
        → m ≡ unchanged w (drop_preserving held l) (NotHeld 0)
    pub r2 : HeldGood w held → Own w l → (authorized w (hold_in l) → ⊥)
        → m ≡ unchanged w (drop_preserving held l) (NotHeld 0)
    pub r3 : (i : ℕ) → Fits w → WellLong held → FirstBad w held i
        → m ≡ unchanged w (drop_preserving held l) (BadHeld i)
    pub r4 : HeldGood w held → valid_at w (lease_key (hold_in l)) → Own w l → authorized w (hold_in l)
        → held_ids (holds_of held) (hold_in l)
        → m ≡ unchanged w (drop_preserving held l) Protected
    pub limit : Fits w → 64 < lease_count held → m ≡ unchanged w (drop_preserving held l) (BadHeld (lease_count held))
    pub e1 : keeps_valid w (final m)
    pub e2 : leases_authorized w (holds_of held) → (held_ids (holds_of held) (hold_in l) → ⊥)
        → leases_authorized (final m) (holds_of held)
    pub e3 : leases_authorized w (holds_of held) → (held_ids (holds_of held) (hold_in l) → ⊥)
        → protected_valid (final m) (held_ids (holds_of held))
    pub e4 : dom (final m) ≡ dom w
    pub e5 : Fits w → Short w held → leases_valid w (holds_of held) → valid_at w (lease_key (hold_in l)) → Own w l
        → authorized w (hold_in l) → leases_authorized w (holds_of held) → (held_ids (holds_of held) (hold_in l) → ⊥)
        → (cells (final m) (lease_key (hold_in l))).bit ≡ 0
    pub e6 : next_serial (final m) ≡ next_serial w

  -- ---- 000.foreign_release_between_attempts

  pub record RequiresForeignReleaseBetweenAttempts : Type 0 where
    pub fits : Fits w
    pub short : Short w held
    pub own : Own w l
    pub serials : next_serial w < last_serial
    -- valid(old(authority))
    pub r1 : valid w
    -- authorized(old(authority), &foreign)
    pub r2 : authorized w (hold_in l)
    -- leases_authorized(old(authority), held@)
    pub r3 : leases_authorized w (holds_of held)
    -- !held_ids(held@).contains((lease_key(&foreign), lease_serial(&foreign)))
    pub r4 : held_ids (holds_of held) (hold_in l) → ⊥

  pub record EnsuresForeignReleaseBetweenAttempts (m : Made (World × Says)) : Type 0 where
    -- valid(final(authority))
    pub e1 : valid (final m)
    -- authorized(final(authority), &acquired)
    -- different: the sure grant gains "and a serial remains", else 10, and then the cell is free; at most 64 held leases, else 3
    pub e2 : (next : Lease) × (result m ≡ Granted next) × authorized (final m) (hold_in next)
    -- leases_authorized(final(authority), held@)
    pub e3 : leases_authorized (final m) (holds_of held)
    -- lease_key(&acquired) == lease_key(&foreign)
    -- different: and a serial remains, else 10; holds of whatever is granted, from any table
    pub e4 : (next : Lease) → result m ≡ Granted next → lease_key (hold_in next) ≡ lease_key (hold_in l)
    -- lease_serial(&acquired) > lease_serial(&foreign)
    -- different: and a serial remains, else 10; holds of whatever is granted
    pub e5 : (next : Lease) → result m ≡ Granted next → lease_serial (hold_in l) < lease_serial (hold_in next)

  -- what holds here
  pub record HereForeignReleaseBetweenAttempts (m : Made (World × Says)) : Type 0 where
    pub r1 : HeldGood w held → Own w l → (valid_at w (lease_key (hold_in l)) → ⊥)
        → m ≡ unchanged w (foreign_release held l) (NotHeld 0)
    pub r2 : HeldGood w held → Own w l → (authorized w (hold_in l) → ⊥)
        → m ≡ unchanged w (foreign_release held l) (NotHeld 0)
    pub r3 : (i : ℕ) → Fits w → WellLong held → FirstBad w held i
        → m ≡ unchanged w (foreign_release held l) (BadHeld i)
    pub r4 : HeldGood w held → valid_at w (lease_key (hold_in l)) → Own w l → authorized w (hold_in l)
        → held_ids (holds_of held) (hold_in l)
        → m ≡ unchanged w (foreign_release held l) Protected
    pub limit : Fits w → 64 < lease_count held → m ≡ unchanged w (foreign_release held l) (BadHeld (lease_count held))
    pub e1 : keeps_valid w (final m)
    pub e2 : Fits w → Short w held → leases_valid w (holds_of held) → valid_at w (lease_key (hold_in l)) → Own w l
        → authorized w (hold_in l) → leases_authorized w (holds_of held) → (held_ids (holds_of held) (hold_in l) → ⊥)
        → (next_serial w < last_serial
        → (result m ≡ Granted (lease_of (lease_key (hold_in l)) (next_serial w) w.head.boot))
        × authorized (final m) (hold_of (lease_key (hold_in l)) (next_serial w)))
        × (last_serial ≤ next_serial w → (result m ≡ Refused (SerialsSpent (lease_key (hold_in l))))
        × (cells (final m) (lease_key (hold_in l)) ≡ cell 0 0))
    pub e3 : leases_authorized w (holds_of held) → (held_ids (holds_of held) (hold_in l) → ⊥)
        → leases_authorized (final m) (holds_of held)
    pub e4 : (next : Lease) → result m ≡ Granted next → lease_key (hold_in next) ≡ lease_key (hold_in l)
    pub e5 : valid_at w (lease_key (hold_in l)) → authorized w (hold_in l) → (next : Lease) → result m ≡ Granted next
        → lease_serial (hold_in l) < lease_serial (hold_in next)
    pub keys : dom (final m) ≡ dom w

-- ---- of any build

abbrev pub ContractDropPreservingBorrows : Build → Type 0
ContractDropPreservingBorrows b =
    (w : Authority) (held : List ℕ) (l : Lease)
    → RequiresDropPreservingBorrows w held l
    → EnsuresDropPreservingBorrows w held l (b w (drop_preserving held l))

abbrev pub PromiseDropPreservingBorrows : Build → Type 0
PromiseDropPreservingBorrows b =
    (w : Authority) (held : List ℕ) (l : Lease)
    → HereDropPreservingBorrows w held l (b w (drop_preserving held l))

abbrev pub ContractForeignReleaseBetweenAttempts : Build → Type 0
ContractForeignReleaseBetweenAttempts b =
    (w : Authority) (held : List ℕ) (l : Lease)
    → RequiresForeignReleaseBetweenAttempts w held l
    → EnsuresForeignReleaseBetweenAttempts w held l (b w (foreign_release held l))

abbrev pub PromiseForeignReleaseBetweenAttempts : Build → Type 0
PromiseForeignReleaseBetweenAttempts b =
    (w : Authority) (held : List ℕ) (l : Lease)
    → HereForeignReleaseBetweenAttempts w held l (b w (foreign_release held l))
