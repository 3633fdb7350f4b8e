-- Upstream's contracts on one cell or one lease, and what holds here. Of any build, statements only: `MeetsCells`
-- has the proofs. docs/CONTRACTS.md shows these records, and says what each kind of them is.
use Rattle.std.specs.Prelude.{◌+◌, ◌≤◌, ◌<◌, ◌≡◌, ◌↔◌, ◌⊎◌, ◌≢◌}
use Rattle.model.specs.Log.{Made}
use Rattle.model.specs.Arena.{last_serial, lease_of, hold_of, hold_in}
use Rattle.types.specs.declared.Answer.TheVariants.{Cell, Granted, Busy, Refused}
use Rattle.types.specs.declared.Lease.{Lease}
use Rattle.types.specs.declared.Reason.{Reason}
use Rattle.types.specs.declared.Reason.TheVariants as reason
use Rattle.types.specs.declared.Refusal.TheVariants.{InvalidBucket, Damaged, SerialsSpent, NotHeld}
use Rattle.history.specs.World.{World}
use Rattle.history.specs.Items.{try_acquire, drop_lease, read_permission, competing_acquire, release_then_handoff, Says, unchanged, Build}
use Rattle.history.specs.Statements.{answer_in as result, world_in as final}
use Rattle.upstream.specs.Vocabulary.{Key, cell, Authority, lease_key, lease_serial, next_serial, dom, contains_key, cells, insert, CellsAre, answers_none, valid, authorized, framed, Acquire, Release, Observe, step}
use Rattle.upstream.specs.Premises.{Own, valid_at, keeps_valid, Fits}

-- ---- 000.compare_exchange: bit, owner and the next serial are one write here

pub record RequiresCompareExchange (w : Authority) (key : Key) : Type 0 where
  pub fits : Fits w
  pub serials : next_serial w < last_serial
  -- valid(old(authority))
  pub r1 : valid w
  -- cells(old(authority)).contains_key(key)
  pub r2 : contains_key w key

pub record EnsuresCompareExchange (w : Authority) (key : Key) (m : Made (World × Says)) : Type 0 where
  -- result.is_ok() <==> cells(old(authority))[key].bit == expected
  -- different: and a serial remains, else 10
  pub e1 : ((l : Lease) × (result m ≡ Granted l)) ↔ ((cells w key).bit ≡ 0)
  -- result.is_ok() ==> result.unwrap() == expected
  -- different: a grant answers the lease and not the old bit; that bit was 0
  pub e2 : (l : Lease) → result m ≡ Granted l → (cells w key).bit ≡ 0
  -- result.is_err() ==> result.unwrap_err() == cells(old(authority))[key].bit
  -- different: Busy, for whatever reason, stands for the old bit 1, and 10 for the old bit 0
  pub e3 : answers_none (result m) → (why : Reason) × (result m ≡ Busy why) × ((cells w key).bit ≡ 1)
  -- cells(final(authority)) == cells(old(authority)).insert(key, Cell { bit: if result.is_ok() { next } else { cells(old(authority))[key].bit }, owner: cells(old(authority))[key].owner, })
  -- different: bit and owner are one write, so the owner is written too
  pub e4 : ((l : Lease) → result m ≡ Granted l
      → CellsAre w (final m) (insert (cells w) key (cell 1 (lease_serial (hold_in l)))))
      × (answers_none (result m) → CellsAre w (final m) (cells w))
  -- next_serial(final(authority)) == next_serial(old(authority))
  -- different: the serial is issued in the same step: on a grant next rises by 1
  pub e5 : ((l : Lease) → result m ≡ Granted l → next_serial (final m) ≡ next_serial w + 1)
      × (answers_none (result m) → next_serial (final m) ≡ next_serial w)

-- what holds here
pub record HereCompareExchange (w : Authority) (key : Key) (m : Made (World × Says)) : Type 0 where
  pub r1 : Fits w → contains_key w key → (valid_at w key → ⊥) → (result m ≡ Refused (Damaged key)) × (final m ≡ w)
  pub r2 : Fits w → (contains_key w key → ⊥) → m ≡ unchanged w (try_acquire key) (InvalidBucket key)
  pub e1 : Fits w → valid_at w key → contains_key w key
      → (((l : Lease) × (result m ≡ Granted l)) ↔ (((cells w key).bit ≡ 0) × (next_serial w < last_serial)))
      × ((result m ≡ Refused (SerialsSpent key)) ↔ (((cells w key).bit ≡ 0) × (last_serial ≤ next_serial w)))
  pub e2 : (l : Lease) → result m ≡ Granted l → (cells w key).bit ≡ 0
  pub e3 : Fits w → valid_at w key → contains_key w key → answers_none (result m)
      → ((why : Reason) × (result m ≡ Busy why) × ((cells w key).bit ≡ 1))
      ⊎ ((result m ≡ Refused (SerialsSpent key)) × ((cells w key).bit ≡ 0))
  pub e4 : ((l : Lease) → result m ≡ Granted l
      → CellsAre w (final m) (insert (cells w) key (cell 1 (lease_serial (hold_in l)))))
      × (answers_none (result m) → CellsAre w (final m) (cells w))
  pub e5 : ((l : Lease) → result m ≡ Granted l → next_serial (final m) ≡ next_serial w + 1)
      × (answers_none (result m) → next_serial (final m) ≡ next_serial w)

abbrev pub ContractCompareExchange : Build → Type 0
ContractCompareExchange b =
    (w : Authority) (key : Key)
    → RequiresCompareExchange w key
    → EnsuresCompareExchange w key (b w (try_acquire key))

abbrev pub PromiseCompareExchange : Build → Type 0
PromiseCompareExchange b = (w : Authority) (key : Key) → HereCompareExchange w key (b w (try_acquire key))

-- ---- 000.store: bit and owner are one write, and the value is always 0

pub record RequiresStore (w : Authority) (l : Lease) : Type 0 where
  pub fits : Fits w
  pub own : Own w l
  pub sound : valid_at w (lease_key (hold_in l))
  -- cells(old(authority)).contains_key(key)
  pub r1 : contains_key w (lease_key (hold_in l))
  -- cells(old(authority))[key].bit == 1
  pub r2 : (cells w (lease_key (hold_in l))).bit ≡ 1
  -- cells(old(authority))[key].owner.is_none()
  -- different: the owner is compared and cleared in the same write; another owner is 12
  pub r3 : (cells w (lease_key (hold_in l))).owner ≡ lease_serial (hold_in l)

pub record EnsuresStore (w : Authority) (l : Lease) (m : Made (World × Says)) : Type 0 where
  -- cells(final(authority)) == cells(old(authority)).insert(key, Cell { bit: value, owner: cells(old(authority))[key].owner, })
  -- different: bit and owner are one write, and the value is always 0
  pub e1 : CellsAre w (final m) (insert (cells w) (lease_key (hold_in l)) (cell 0 0))
  -- next_serial(final(authority)) == next_serial(old(authority))
  pub e2 : next_serial (final m) ≡ next_serial w

-- what holds here
pub record HereStore (w : Authority) (l : Lease) (m : Made (World × Says)) : Type 0 where
  pub r1 : Fits w → Own w l → (contains_key w (lease_key (hold_in l)) → ⊥) → m ≡ unchanged w (drop_lease l) (NotHeld 0)
  pub r2 : Fits w → Own w l → (cells w (lease_key (hold_in l))).bit ≢ 1 → m ≡ unchanged w (drop_lease l) (NotHeld 0)
  pub r3 : Fits w → Own w l → (cells w (lease_key (hold_in l))).owner ≢ lease_serial (hold_in l)
      → m ≡ unchanged w (drop_lease l) (NotHeld 0)
  pub e1 : Fits w → valid_at w (lease_key (hold_in l)) → Own w l → authorized w (hold_in l)
      → CellsAre w (final m) (insert (cells w) (lease_key (hold_in l)) (cell 0 0))
  pub e2 : next_serial (final m) ≡ next_serial w

abbrev pub ContractStore : Build → Type 0
ContractStore b = (w : Authority) (l : Lease) → RequiresStore w l → EnsuresStore w l (b w (drop_lease l))

abbrev pub PromiseStore : Build → Type 0
PromiseStore b = (w : Authority) (l : Lease) → HereStore w l (b w (drop_lease l))

-- ---- 000.try_acquire

pub record RequiresTryAcquire (w : Authority) (key : Key) : Type 0 where
  pub fits : Fits w
  pub serials : next_serial w < last_serial
  -- valid(old(authority))
  pub r1 : valid w
  -- cells(old(authority)).contains_key(key)
  pub r2 : contains_key w key

pub record EnsuresTryAcquire (w : Authority) (key : Key) (m : Made (World × Says)) : Type 0 where
  -- valid(final(authority))
  pub e1 : valid (final m)
  -- framed(old(authority), final(authority), key)
  pub e2 : framed w (final m) key
  -- result.is_some() ==> lease_key(&result.unwrap()) == key
  pub e3 : (l : Lease) → result m ≡ Granted l → lease_key (hold_in l) ≡ key
  -- result.is_some() ==> authorized(final(authority), &result.unwrap())
  pub e4 : (l : Lease) → result m ≡ Granted l → authorized (final m) (hold_in l)
  -- result.is_none() ==> cells(final(authority)) == cells(old(authority))
  pub e5 : answers_none (result m) → CellsAre w (final m) (cells w)
  -- result.is_none() ==> next_serial(final(authority)) == next_serial(old(authority))
  pub e6 : answers_none (result m) → next_serial (final m) ≡ next_serial w
  -- cells(old(authority))[key].bit == 1 ==> result.is_none()
  pub e7 : (cells w key).bit ≡ 1 → answers_none (result m)
  -- result.is_some() ==> cells(old(authority))[key].bit == 0
  pub e8 : (l : Lease) → result m ≡ Granted l → (cells w key).bit ≡ 0
  -- result.is_some() ==> lease_serial(&result.unwrap()) == next_serial(old(authority))
  pub e9 : (l : Lease) → result m ≡ Granted l → lease_serial (hold_in l) ≡ next_serial w
  -- cells(old(authority))[key].bit == 0 ==> result.is_some()
  -- different: and a serial remains, else 10
  pub e10 : (cells w key).bit ≡ 0 → (l : Lease) × (result m ≡ Granted l)
  -- next_serial(final(authority)) >= next_serial(old(authority))
  pub e11 : next_serial w ≤ next_serial (final m)
  -- result.is_some() ==> step(old(authority), final(authority), Step::Acquire { key, serial: lease_serial(&result.unwrap()) })
  pub e12 : (l : Lease) → result m ≡ Granted l → step w (final m) (Acquire key (lease_serial (hold_in l)))
  -- result.is_none() ==> step(old(authority), final(authority), Step::Observe)
  pub e13 : answers_none (result m) → step w (final m) Observe

-- what holds here
pub record HereTryAcquire (w : Authority) (key : Key) (m : Made (World × Says)) : Type 0 where
  pub r1 : Fits w → contains_key w key → (valid_at w key → ⊥) → (result m ≡ Refused (Damaged key)) × (final m ≡ w)
  pub r2 : Fits w → (contains_key w key → ⊥) → m ≡ unchanged w (try_acquire key) (InvalidBucket key)
  pub e1 : keeps_valid w (final m)
  pub e2 : framed w (final m) key
  pub e3 : (l : Lease) → result m ≡ Granted l → lease_key (hold_in l) ≡ key
  pub e4 : (l : Lease) → result m ≡ Granted l → authorized (final m) (hold_in l)
  pub e5 : answers_none (result m) → CellsAre w (final m) (cells w)
  pub e6 : answers_none (result m) → next_serial (final m) ≡ next_serial w
  pub e7 : (cells w key).bit ≡ 1 → answers_none (result m)
  pub e8 : (l : Lease) → result m ≡ Granted l → (cells w key).bit ≡ 0
  pub e9 : (l : Lease) → result m ≡ Granted l → lease_serial (hold_in l) ≡ next_serial w
  pub e10 : Fits w → valid_at w key → contains_key w key → (cells w key).bit ≡ 0
      → (next_serial w < last_serial → result m ≡ Granted (lease_of key (next_serial w) w.head.boot))
      × (last_serial ≤ next_serial w → result m ≡ Refused (SerialsSpent key))
  pub e11 : next_serial w ≤ next_serial (final m)
  pub e12 : (l : Lease) → result m ≡ Granted l → step w (final m) (Acquire key (lease_serial (hold_in l)))
  pub e13 : answers_none (result m) → step w (final m) Observe

abbrev pub ContractTryAcquire : Build → Type 0
ContractTryAcquire b =
    (w : Authority) (key : Key)
    → RequiresTryAcquire w key
    → EnsuresTryAcquire w key (b w (try_acquire key))

abbrev pub PromiseTryAcquire : Build → Type 0
PromiseTryAcquire b = (w : Authority) (key : Key) → HereTryAcquire w key (b w (try_acquire key))

-- ---- 000.drop_lease

pub record RequiresDropLease (w : Authority) (l : Lease) : Type 0 where
  pub fits : Fits w
  pub own : Own w l
  -- valid(old(authority))
  pub r1 : valid w
  -- authorized(old(authority), &lease)
  pub r2 : authorized w (hold_in l)

pub record EnsuresDropLease (w : Authority) (l : Lease) (m : Made (World × Says)) : Type 0 where
  -- valid(final(authority))
  pub e1 : valid (final m)
  -- framed(old(authority), final(authority), lease_key(&lease))
  pub e2 : framed w (final m) (lease_key (hold_in l))
  -- cells(final(authority))[lease_key(&lease)] == (Cell { bit: 0, owner: None })
  pub e3 : cells (final m) (lease_key (hold_in l)) ≡ cell 0 0
  -- next_serial(final(authority)) == next_serial(old(authority))
  pub e4 : next_serial (final m) ≡ next_serial w
  -- step(old(authority), final(authority), Step::Release { key: lease_key(&lease), serial: lease_serial(&lease) })
  pub e5 : step w (final m) (Release (lease_key (hold_in l)) (lease_serial (hold_in l)))

-- what holds here
pub record HereDropLease (w : Authority) (l : Lease) (m : Made (World × Says)) : Type 0 where
  pub r1 : Fits w → Own w l → (valid_at w (lease_key (hold_in l)) → ⊥) → m ≡ unchanged w (drop_lease l) (NotHeld 0)
  pub r2 : Fits w → Own w l → (authorized w (hold_in l) → ⊥) → m ≡ unchanged w (drop_lease l) (NotHeld 0)
  pub e1 : keeps_valid w (final m)
  pub e2 : framed w (final m) (lease_key (hold_in l))
  pub e3 : Fits w → valid_at w (lease_key (hold_in l)) → Own w l → authorized w (hold_in l)
      → cells (final m) (lease_key (hold_in l)) ≡ cell 0 0
  pub e4 : next_serial (final m) ≡ next_serial w
  pub e5 : Fits w → valid_at w (lease_key (hold_in l)) → Own w l → authorized w (hold_in l)
      → step w (final m) (Release (lease_key (hold_in l)) (lease_serial (hold_in l)))

abbrev pub ContractDropLease : Build → Type 0
ContractDropLease b =
    (w : Authority) (l : Lease)
    → RequiresDropLease w l
    → EnsuresDropLease w l (b w (drop_lease l))

abbrev pub PromiseDropLease : Build → Type 0
PromiseDropLease b = (w : Authority) (l : Lease) → HereDropLease w l (b w (drop_lease l))

-- ---- 000.read_permission

pub record RequiresReadPermission (w : Authority) (l : Lease) : Type 0 where
  pub fits : Fits w
  pub own : Own w l
  -- valid(authority)
  pub r1 : valid w
  -- authorized(authority, lease)
  pub r2 : authorized w (hold_in l)

pub record EnsuresReadPermission (w : Authority) (l : Lease) (m : Made (World × Says)) : Type 0 where
  -- key == lease_key(lease)
  pub e1 : result m ≡ Cell (lease_key (hold_in l))
  -- cells(authority)[key].bit == 1
  pub e2 : (k : Key) → result m ≡ Cell k → (cells w k).bit ≡ 1

-- what holds here
pub record HereReadPermission (w : Authority) (l : Lease) (m : Made (World × Says)) : Type 0 where
  pub r1 : Fits w → Own w l → (valid_at w (lease_key (hold_in l)) → ⊥)
      → m ≡ unchanged w (read_permission l) (NotHeld 0)
  pub r2 : Fits w → Own w l → (authorized w (hold_in l) → ⊥) → m ≡ unchanged w (read_permission l) (NotHeld 0)
  pub e1 : Fits w → valid_at w (lease_key (hold_in l)) → Own w l → authorized w (hold_in l)
      → result m ≡ Cell (lease_key (hold_in l))
  pub e2 : (k : Key) → result m ≡ Cell k → (cells w k).bit ≡ 1

abbrev pub ContractReadPermission : Build → Type 0
ContractReadPermission b =
    (w : Authority) (l : Lease)
    → RequiresReadPermission w l
    → EnsuresReadPermission w l (b w (read_permission l))

abbrev pub PromiseReadPermission : Build → Type 0
PromiseReadPermission b = (w : Authority) (l : Lease) → HereReadPermission w l (b w (read_permission l))

-- ---- 000.competing_acquire_is_excluded

pub record RequiresCompetingAcquireIsExcluded (w : Authority) (l : Lease) : Type 0 where
  pub fits : Fits w
  pub own : Own w l
  -- valid(old(authority))
  pub r1 : valid w
  -- authorized(old(authority), first)
  pub r2 : authorized w (hold_in l)

pub record EnsuresCompetingAcquireIsExcluded (w : Authority) (l : Lease) (m : Made (World × Says)) : Type 0 where
  -- rejected
  -- different: it answers Busy, not true; its reason is held, with the given lease's own serial
  pub e1 : result m ≡ Busy (reason.Held (lease_serial (hold_in l)))
  -- valid(final(authority))
  pub e2 : valid (final m)
  -- authorized(final(authority), first)
  pub e3 : authorized (final m) (hold_in l)
  -- cells(final(authority)) == cells(old(authority))
  pub e4 : CellsAre w (final m) (cells w)

-- what holds here
pub record HereCompetingAcquireIsExcluded (w : Authority) (l : Lease) (m : Made (World × Says)) : Type 0 where
  pub r1 : Fits w → Own w l → (valid_at w (lease_key (hold_in l)) → ⊥)
      → m ≡ unchanged w (competing_acquire l) (NotHeld 0)
  pub r2 : Fits w → Own w l → (authorized w (hold_in l) → ⊥) → m ≡ unchanged w (competing_acquire l) (NotHeld 0)
  pub e1 : Fits w → valid_at w (lease_key (hold_in l)) → Own w l → authorized w (hold_in l)
      → result m ≡ Busy (reason.Held (lease_serial (hold_in l)))
  pub e2 : keeps_valid w (final m)
  pub e3 : authorized w (hold_in l) → authorized (final m) (hold_in l)
  pub e4 : authorized w (hold_in l) → CellsAre w (final m) (cells w)

abbrev pub ContractCompetingAcquireIsExcluded : Build → Type 0
ContractCompetingAcquireIsExcluded b =
    (w : Authority) (l : Lease)
    → RequiresCompetingAcquireIsExcluded w l
    → EnsuresCompetingAcquireIsExcluded w l (b w (competing_acquire l))

abbrev pub PromiseCompetingAcquireIsExcluded : Build → Type 0
PromiseCompetingAcquireIsExcluded b =
    (w : Authority) (l : Lease)
    → HereCompetingAcquireIsExcluded w l (b w (competing_acquire l))

-- ---- 000.release_then_handoff

pub record RequiresReleaseThenHandoff (w : Authority) (l : Lease) : Type 0 where
  pub fits : Fits w
  pub own : Own w l
  pub serials : next_serial w < last_serial
  -- valid(old(authority))
  pub r1 : valid w
  -- authorized(old(authority), &first)
  pub r2 : authorized w (hold_in l)

pub record EnsuresReleaseThenHandoff (w : Authority) (l : Lease) (m : Made (World × Says)) : Type 0 where
  -- valid(final(authority))
  pub e1 : valid (final m)
  -- authorized(final(authority), &next)
  -- different: the sure grant gains "and a serial remains", else 10, and then the cell is free
  pub e2 : (next : Lease) × (result m ≡ Granted next) × authorized (final m) (hold_in next)
  -- lease_key(&next) == lease_key(&first)
  -- different: and a serial remains, else 10; holds of whatever is granted, from any table
  pub e3 : (next : Lease) → result m ≡ Granted next → lease_key (hold_in next) ≡ lease_key (hold_in l)
  -- lease_serial(&next) > lease_serial(&first)
  -- different: and a serial remains, else 10; holds of whatever is granted
  pub e4 : (next : Lease) → result m ≡ Granted next → lease_serial (hold_in l) < lease_serial (hold_in next)

-- what holds here
pub record HereReleaseThenHandoff (w : Authority) (l : Lease) (m : Made (World × Says)) : Type 0 where
  pub r1 : Fits w → Own w l → (valid_at w (lease_key (hold_in l)) → ⊥)
      → m ≡ unchanged w (release_then_handoff l) (NotHeld 0)
  pub r2 : Fits w → Own w l → (authorized w (hold_in l) → ⊥) → m ≡ unchanged w (release_then_handoff l) (NotHeld 0)
  pub e1 : keeps_valid w (final m)
  pub e2 : Fits w → valid_at w (lease_key (hold_in l)) → Own w l → authorized w (hold_in l)
      → (next_serial w < last_serial
      → (result m ≡ Granted (lease_of (lease_key (hold_in l)) (next_serial w) w.head.boot))
      × authorized (final m) (hold_of (lease_key (hold_in l)) (next_serial w)))
      × (last_serial ≤ next_serial w → (result m ≡ Refused (SerialsSpent (lease_key (hold_in l))))
      × (cells (final m) (lease_key (hold_in l)) ≡ cell 0 0))
  pub e3 : (next : Lease) → result m ≡ Granted next → lease_key (hold_in next) ≡ lease_key (hold_in l)
  pub e4 : valid_at w (lease_key (hold_in l)) → authorized w (hold_in l) → (next : Lease) → result m ≡ Granted next
      → lease_serial (hold_in l) < lease_serial (hold_in next)
  pub keys : dom (final m) ≡ dom w

abbrev pub ContractReleaseThenHandoff : Build → Type 0
ContractReleaseThenHandoff b =
    (w : Authority) (l : Lease)
    → RequiresReleaseThenHandoff w l
    → EnsuresReleaseThenHandoff w l (b w (release_then_handoff l))

abbrev pub PromiseReleaseThenHandoff : Build → Type 0
PromiseReleaseThenHandoff b =
    (w : Authority) (l : Lease)
    → HereReleaseThenHandoff w l (b w (release_then_handoff l))
