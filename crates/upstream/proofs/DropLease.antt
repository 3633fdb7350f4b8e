-- 000: `drop_lease`, and the store inside it (`Atomics::store`).
-- ---- what one release comes to, whatever the table holds; F says that no check of the call applies
use Rattle.std.specs.Prelude.{◌≡◌, refl, ◌≢◌, Ok}
use Rattle.std.proofs.Common.{sym}
use Rattle.std.proofs.lemmas.Bool.{not-false}
use Rattle.model.specs.Log.{by_caller, released}
use Rattle.model.specs.Arena.{hold_in}
use Rattle.model.specs.Refusals.{first}
use Rattle.model.specs.Checks.{lease_rules}
use Rattle.types.specs.declared.Answer.{Answer}
use Rattle.types.specs.declared.Answer.TheVariants.{Done, Refused}
use Rattle.types.specs.declared.Hold.{Hold}
use Rattle.types.specs.declared.Lease.{Lease}
use Rattle.types.specs.declared.Refusal.{Refusal}
use Rattle.types.specs.declared.Refusal.TheVariants.{NotHeld}
use Rattle.history.specs.Judged.{refused_so}
use Rattle.history.specs.World as world
use Rattle.history.specs.World.{Live}
use Rattle.history.specs.Items.{drop_lease, unchanged, perform, rules}
use Rattle.history.specs.Statements.{answers, leaves}
use Rattle.history.specs.Tests.{holds_equal}
use Rattle.upstream.specs.Vocabulary.{cell, Authority, lease_key, lease_serial, next_serial, contains_key, cells, insert, CellsAre, ValidCell, authorized, framed, Release, GivesUp, step}
use Rattle.upstream.specs.Premises.{Own, valid_at, keeps_valid, Fits}
use Rattle.upstream.proofs.Protocol.{insert_framed, step_valid_at, step_keeps, step_frees}
use Rattle.upstream.specs.Bridge.{Sized}
use Rattle.upstream.proofs.Bridge.{fits_sized, event_step, by_checks}
use Rattle.upstream.proofs.Refusing.{unauthorized, on_damaged, lease_refused}
use Rattle.upstream.proofs.Passing.{lease_passes}
use Rattle.upstream.proofs.TryAcquire.{fine_fault}
use Rattle.upstream.specs.DropLease.{Drops, drops, barred}

pub dropped : (w : Authority) (l : Hold) → Sized w → Live w l → GivesUp w (world.after_event w (released by_caller l.cell l.serial)) l.cell l.serial
dropped w l z v = event_step w (released by_caller l.cell l.serial) z v

module _ {F : Type 0} {w : Authority} {l : Hold} where
  pub drops_valid_at : {a : Answer} {v : Authority} → Drops F w l a v → keeps_valid w v
  drops_valid_at (drops {v = v} x) k j y = step_valid_at w v (Release l.cell l.serial) x k j y
  drops_valid_at (barred r f) k j x = x

  drops_framed : {a : Answer} {v : Authority} → Drops F w l a v → framed w v l.cell
  drops_framed (drops {v = v} x) other = insert_framed w v l.cell (cell 0 0) x.written other
  drops_framed (barred r f) other = ((λ i. i, λ i. i), λ _ _. refl)

  pub drops_stays : {a : Answer} {v : Authority} → Drops F w l a v → next_serial v ≡ next_serial w
  drops_stays (drops x) = x.stays
  drops_stays (barred r f) = refl

  -- every other lease stays authorized
  pub drops_keeps : {a : Answer} {v : Authority} → Drops F w l a v → (k : Hold) → (k ≡ l → ⊥) → authorized w k → authorized v k
  drops_keeps (drops {v = v} x) k n p =
      step_keeps w v (Release l.cell l.serial) k x (λ r. n (holds_equal k l (sym r.0) (sym r.1))) p
  drops_keeps (barred r f) k n p = p

  pub drops_done : {a : Answer} {v : Authority} → Drops F w l a v → F → (a ≡ Done) × GivesUp w v l.cell l.serial
  drops_done (drops x) f = (refl, x)
  drops_done (barred r n) f = absurd (n f)

-- ---- `drop_lease`

module _ (w : Authority) (l : Lease) where
  abbrev result : Answer
  result = answers w (drop_lease l)

  abbrev final : Authority
  final = leaves w (drop_lease l)

  abbrev Checked : Type 0
  Checked = first (rules w (drop_lease l)) ≡ Ok tt

  tried : Drops Checked w (hold_in l) result final
  unfolding lease_rules
  tried =
      by_checks (λ m. Drops Checked w (hold_in l) m.seen.1.answer m.seen.0) w (drop_lease l) (λ r e. barred r (λ f. fine_fault f e))
      (λ e k. drops (dropped w (hold_in l) (fits_sized w (not-false _ k.0)) (not-false _ k.1.1.0)))

  -- upstream's premises are enough
  drop_lease_done : Fits w → valid_at w (lease_key (hold_in l)) → Own w l → authorized w (hold_in l) → (result ≡ Done) × GivesUp w final l.cell l.serial
  drop_lease_done s v o a = drops_done tried (lease_passes w l s v o a)

  -- valid(old(authority)): 12, where the lease's cell is damaged
  pub drop_lease_r1 : Fits w → Own w l → (ValidCell (next_serial w) (cells w (lease_key (hold_in l))) → ⊥) → perform w (drop_lease l) ≡ unchanged w (drop_lease l) (NotHeld 0)
  drop_lease_r1 s o n = refused_so w (drop_lease l) (NotHeld 0) (lease_refused w l s o (on_damaged w (hold_in l) n))

  -- authorized(old(authority), &lease): 12
  pub drop_lease_r2 : Fits w → Own w l → (authorized w (hold_in l) → ⊥) → perform w (drop_lease l) ≡ unchanged w (drop_lease l) (NotHeld 0)
  drop_lease_r2 s o n = refused_so w (drop_lease l) (NotHeld 0) (lease_refused w l s o (unauthorized w (hold_in l) n))

  pub drop_lease_e1 : keeps_valid w final
  drop_lease_e1 = drops_valid_at tried

  pub drop_lease_e2 : framed w final (lease_key (hold_in l))
  drop_lease_e2 = drops_framed tried

  pub drop_lease_e3 : Fits w → valid_at w (lease_key (hold_in l)) → Own w l → authorized w (hold_in l) → cells final (lease_key (hold_in l)) ≡ cell 0 0
  drop_lease_e3 s v o a = step_frees w final l.cell l.serial (drop_lease_done s v o a).1

  pub drop_lease_e4 : next_serial final ≡ next_serial w
  drop_lease_e4 = drops_stays tried

  pub drop_lease_e5 : Fits w → valid_at w (lease_key (hold_in l)) → Own w l → authorized w (hold_in l) → step w final (Release (lease_key (hold_in l)) (lease_serial (hold_in l)))
  drop_lease_e5 s v o a = (drop_lease_done s v o a).1

  -- ---- `store`

  -- cells(old(authority)).contains_key(key): 12
  pub store_r1 : Fits w → Own w l → (contains_key w (lease_key (hold_in l)) → ⊥) → perform w (drop_lease l) ≡ unchanged w (drop_lease l) (NotHeld 0)
  store_r1 s o n = drop_lease_r2 s o (λ a. n a.inside)

  -- cells(old(authority))[key].bit == 1: 12
  pub store_r2 : Fits w → Own w l → (cells w (lease_key (hold_in l))).bit ≢ 1 → perform w (drop_lease l) ≡ unchanged w (drop_lease l) (NotHeld 0)
  store_r2 s o n = drop_lease_r2 s o (λ a. n a.locked)

  -- the owner that the release finds is the lease's serial; upstream clears it before the store
  pub store_r3 : Fits w → Own w l → (cells w (lease_key (hold_in l))).owner ≢ lease_serial (hold_in l) → perform w (drop_lease l) ≡ unchanged w (drop_lease l) (NotHeld 0)
  store_r3 s o n = drop_lease_r2 s o (λ a. n a.mine.1)

  pub store_e1 : Fits w → valid_at w (lease_key (hold_in l)) → Own w l → authorized w (hold_in l) → CellsAre w final (insert (cells w) (lease_key (hold_in l)) (cell 0 0))
  store_e1 s v o a = (drop_lease_done s v o a).1.written
