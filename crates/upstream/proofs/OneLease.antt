-- 000: `read_permission`, `competing_acquire_is_excluded` and `release_then_handoff`: the calls on one lease.
-- ---- release and take again: what it comes to; F says that no check of the call applies
use Rattle.std.specs.Prelude.{ℕ, ◌≤◌, ◌<◌, ◌≡◌, [], ◌∷◌, Ok}
use Rattle.std.proofs.Math.Path.{refl, ap}
use Rattle.std.proofs.Common.{sym, ◌∙◌, subst, inl, arith}
use borrow.Author.Tests.{not-false}
use Rattle.model.specs.Log.{by_caller, released}
use Rattle.model.specs.Arena.{last_serial, lease_of, hold_of, hold_in}
use Rattle.model.specs.Answers.{kind_of}
use Rattle.model.specs.Refusals.{first}
use Rattle.model.specs.Checks.{lease_rules}
use Rattle.types.specs.declared.Answer.{Answer}
use Rattle.types.specs.declared.Answer.TheVariants.{Done, Cell, Granted, Busy, Refused}
use Rattle.types.specs.declared.Hold.{Hold}
use Rattle.types.specs.declared.Lease.{Lease}
use Rattle.types.specs.declared.Reason.TheVariants as reason
use Rattle.types.specs.declared.Refusal.{Refusal}
use Rattle.types.specs.declared.Refusal.TheVariants.{NotHeld, SerialsSpent}
use Rattle.history.specs.Judged.{refused_so}
use Rattle.history.specs.World as world
use Rattle.history.specs.World.{Live}
use Rattle.history.specs.Items.{read_permission, competing_acquire, release_then_handoff, unchanged, perform, rules}
use Rattle.history.specs.Statements.{answers, leaves}
use Rattle.history.specs.Events.{lives}
use Rattle.upstream.specs.Vocabulary.{Key, cell, Authority, lease_key, lease_serial, next_serial, dom, cells, CellsAre, ValidCell, authorized, Release, GivesUp}
use Rattle.upstream.specs.Premises.{Own, valid_at, keeps_valid, Fits}
use Rattle.upstream.proofs.Protocol.{step_valid_at, step_frees, step_grants, bit_of}
use Rattle.upstream.proofs.Bridge.{cell_live, fits_sized, sized_now, by_checks}
use Rattle.upstream.proofs.Refusing.{unauthorized, on_damaged, lease_refused}
use Rattle.upstream.proofs.Passing.{lease_passes}
use Rattle.upstream.specs.TryAcquire.{Tries, barred}
use Rattle.upstream.proofs.TryAcquire.{acquired, tries_valid_at, tries_keys, tries_keeps, tries_some, tries_none, tries_held, tries_free, tries_spent, observed, fine_fault}
use Rattle.upstream.specs.DropLease.{Drops, drops}
use Rattle.upstream.proofs.DropLease.{dropped, drops_keeps}
use Rattle.upstream.specs.OneLease.{Hands, hands, unheld}

free_now : (w u : Authority) (l : Hold) → GivesUp w u l.cell l.serial → ValidCell (next_serial u) (cells u l.cell) × ((cells u l.cell).bit ≡ 0)
free_now w u l x =
    let e = step_frees w u l.cell l.serial x in
    (rw e (record { bits = inl refl; owned = (λ p. absurd (omega arith), λ p. absurd (omega arith)); below = λ p. absurd (omega arith) }), bit_of e)

module _ {F : Type 0} {w : Authority} {l : Hold} where
  pub hands_valid_at : {a : Answer} {v : Authority} → Hands F w l a v → keeps_valid w v
  hands_valid_at (hands u o x t) k i c = tries_valid_at t k (omega (arith, x.written.same_keys)) (step_valid_at w u (Release l.cell l.serial) x k i c)
  hands_valid_at (unheld r f) k i c = c

  pub hands_keys : {a : Answer} {v : Authority} → Hands F w l a v → dom v ≡ dom w
  hands_keys (hands u o x t) = tries_keys t ∙ x.written.same_keys
  hands_keys (unheld r f) = refl

  -- what is granted has the lease's cell and the next serial, and is authorized
  pub hands_some : {a : Answer} {v : Authority} → Hands F w l a v → (k : Lease) → a ≡ Granted k
      → (k ≡ lease_of l.cell (next_serial w) w.head.boot) × authorized v (hold_in k)
  hands_some (hands u {v = v} o x t) k e =
      let s = tries_some t k e in
      let n : k ≡ lease_of l.cell (next_serial w) w.head.boot
      = s.0 ∙ ap (λ (n : ℕ). lease_of l.cell n u.head.boot) x.stays ∙ ap (lease_of l.cell (next_serial w)) o in
      (n, rw s.0 (step_grants u v l.cell (next_serial u) s.1))
  hands_some (unheld r f) k e = absurd (omega (arith, ap kind_of e))

  -- every other lease stays authorized
  pub hands_keeps : {a : Answer} {v : Authority} → Hands F w l a v → (k : Hold) → (k ≡ l → ⊥) → authorized w k → authorized v k
  hands_keeps (hands u o x t) k n p = let d : Drops F w l Done u = drops x in tries_keeps t k (drops_keeps d k n p)
  hands_keeps (unheld r f) k n p = p

  -- it is granted if a serial remains, else 10, and then the cell is free
  pub hands_granted : {a : Answer} {v : Authority} → Hands F w l a v → F → next_serial w < last_serial → a ≡ Granted (lease_of l.cell (next_serial w) w.head.boot)
  hands_granted (hands u o x t) f n =
      let y = free_now w u l x in
      tries_free t f y.0 y.1 (omega (arith, x.stays)) ∙ ap {B = Answer} (λ s. Granted (lease_of l.cell s u.head.boot)) x.stays ∙ ap {B = Answer} (λ b. Granted (lease_of l.cell (next_serial w) b)) o
  hands_granted (unheld r m) f n = absurd (m f)

  pub hands_spent : {a : Answer} {v : Authority} → Hands F w l a v → F → last_serial ≤ next_serial w → (a ≡ Refused (SerialsSpent l.cell)) × (cells v l.cell ≡ cell 0 0)
  hands_spent (hands u {a = a} {v = v} o x t) f n =
      let y = free_now w u l x in
      let e = tries_spent t f y.0 y.1 (omega (arith, x.stays)) in
      let same = tries_none t (λ k g. omega (arith, ap kind_of (sym e ∙ g))) in
      (e, subst (λ z. cells z l.cell ≡ cell 0 0) (sym same) (step_frees w u l.cell l.serial x))
  hands_spent (unheld r m) f n = absurd (m f)

module _ (w : Authority) (l : Lease) where
  -- ---- `read_permission`

  pub read_permission_r1 : Fits w → Own w l → (ValidCell (next_serial w) (cells w (lease_key (hold_in l))) → ⊥) → perform w (read_permission l) ≡ unchanged w (read_permission l) (NotHeld 0)
  read_permission_r1 s o n = refused_so w (read_permission l) (NotHeld 0) (lease_refused w l s o (on_damaged w (hold_in l) n))

  pub read_permission_r2 : Fits w → Own w l → (authorized w (hold_in l) → ⊥) → perform w (read_permission l) ≡ unchanged w (read_permission l) (NotHeld 0)
  read_permission_r2 s o n = refused_so w (read_permission l) (NotHeld 0) (lease_refused w l s o (unauthorized w (hold_in l) n))

  pub read_permission_e1 : Fits w → valid_at w (lease_key (hold_in l)) → Own w l → authorized w (hold_in l) → answers w (read_permission l) ≡ Cell (lease_key (hold_in l))
  read_permission_e1 s v o a =
      by_checks (λ m. m.seen.1.answer ≡ Cell (lease_key (hold_in l))) w (read_permission l)
      (λ r e. absurd (fine_fault (lease_passes w l s v o a) e)) (λ e k. refl)

  pub read_permission_e2 : (k : Key) → answers w (read_permission l) ≡ Cell k → (cells w k).bit ≡ 1
  unfolding lease_rules
  read_permission_e2 k =
      by_checks (λ m. m.seen.1.answer ≡ Cell k → (cells w k).bit ≡ 1) w (read_permission l) (λ r e q. absurd (omega (arith, ap kind_of q)))
      (λ e c q. let z : l.cell ≡ k = cc in rw (← z) (lives w (hold_in l) (not-false _ c.1.1.0)).bit_is)

  -- ---- `competing_acquire_is_excluded`

  abbrev CheckedCompeting : Type 0
  CheckedCompeting = first (rules w (competing_acquire l)) ≡ Ok tt

  competing : Tries CheckedCompeting w l.cell (answers w (competing_acquire l)) (leaves w (competing_acquire l))
  unfolding lease_rules
  competing =
      by_checks (λ m. Tries CheckedCompeting w l.cell m.seen.1.answer m.seen.0) w (competing_acquire l) (λ r e. barred r (λ f. fine_fault f e))
      (λ e k. acquired CheckedCompeting 1 w l.cell (fits_sized w (not-false _ k.0)) (lives w (hold_in l) (not-false _ k.1.1.0)).in_range)

  -- the cell's bit is 1, so nothing is granted, and nothing changes: not if the call is refused, as a lease with another boot number is
  excluded : authorized w (hold_in l) → leaves w (competing_acquire l) ≡ w
  excluded a = tries_none competing (λ k e. omega (arith, (tries_some competing k e).1.unlocked, a.locked))

  pub competing_acquire_is_excluded_r1 : Fits w → Own w l → (ValidCell (next_serial w) (cells w (lease_key (hold_in l))) → ⊥)
      → perform w (competing_acquire l) ≡ unchanged w (competing_acquire l) (NotHeld 0)
  competing_acquire_is_excluded_r1 s o n = refused_so w (competing_acquire l) (NotHeld 0) (lease_refused w l s o (on_damaged w (hold_in l) n))

  pub competing_acquire_is_excluded_r2 : Fits w → Own w l → (authorized w (hold_in l) → ⊥) → perform w (competing_acquire l) ≡ unchanged w (competing_acquire l) (NotHeld 0)
  competing_acquire_is_excluded_r2 s o n = refused_so w (competing_acquire l) (NotHeld 0) (lease_refused w l s o (unauthorized w (hold_in l) n))

  -- rejected: Busy. Document 02, L1: "held, with the owner's serial", which is the given lease's own
  pub competing_acquire_is_excluded_e1 : Fits w → valid_at w (lease_key (hold_in l)) → Own w l → authorized w (hold_in l) → answers w (competing_acquire l) ≡ Busy (reason.Held (lease_serial (hold_in l)))
  competing_acquire_is_excluded_e1 s v o a =
      (tries_held competing (lease_passes w l s v o a) v a.locked).0 ∙ ap (λ (s : ℕ). Busy (reason.Held s)) a.mine.1

  pub competing_acquire_is_excluded_e2 : keeps_valid w (leaves w (competing_acquire l))
  competing_acquire_is_excluded_e2 = tries_valid_at competing

  pub competing_acquire_is_excluded_e3 : authorized w (hold_in l) → authorized (leaves w (competing_acquire l)) (hold_in l)
  competing_acquire_is_excluded_e3 a = tries_keeps competing (hold_in l) a

  pub competing_acquire_is_excluded_e4 : authorized w (hold_in l) → CellsAre w (leaves w (competing_acquire l)) (cells w)
  competing_acquire_is_excluded_e4 a = (observed w (leaves w (competing_acquire l)) (excluded a)).same

  -- ---- `release_then_handoff`

  abbrev Checked : Type 0
  Checked = first (rules w (release_then_handoff l)) ≡ Ok tt

  abbrev result : Answer
  result = answers w (release_then_handoff l)

  abbrev final : Authority
  final = leaves w (release_then_handoff l)

  handed : Hands Checked w (hold_in l) result final
  unfolding lease_rules
  handed =
      by_checks (λ m. Hands Checked w (hold_in l) m.seen.1.answer m.seen.0) w (release_then_handoff l) (λ r e. unheld r (λ f. fine_fault f e))
      (λ e k.
      let z = fits_sized w (not-false _ k.0) in
      let v : Live w (hold_in l) = not-false _ k.1.1.0 in
      let event = released by_caller l.cell l.serial in
      hands (world.after_event w event) refl (dropped w (hold_in l) z v) (acquired Checked 1 (world.after_event w event) l.cell (sized_now w (event ∷ []) z) (lives w (hold_in l) v).in_range))

  pub release_then_handoff_r1 : Fits w → Own w l → (ValidCell (next_serial w) (cells w (lease_key (hold_in l))) → ⊥)
      → perform w (release_then_handoff l) ≡ unchanged w (release_then_handoff l) (NotHeld 0)
  release_then_handoff_r1 s o n = refused_so w (release_then_handoff l) (NotHeld 0) (lease_refused w l s o (on_damaged w (hold_in l) n))

  pub release_then_handoff_r2 : Fits w → Own w l → (authorized w (hold_in l) → ⊥) → perform w (release_then_handoff l) ≡ unchanged w (release_then_handoff l) (NotHeld 0)
  release_then_handoff_r2 s o n = refused_so w (release_then_handoff l) (NotHeld 0) (lease_refused w l s o (unauthorized w (hold_in l) n))

  pub release_then_handoff_e1 : keeps_valid w final
  release_then_handoff_e1 = hands_valid_at handed

  pub release_then_handoff_keys : dom final ≡ dom w
  release_then_handoff_keys = hands_keys handed

  -- the sure grant gains "and a serial remains", else SerialsSpent, and "the release stands and the cell is free"
  pub release_then_handoff_e2 : Fits w → valid_at w (lease_key (hold_in l)) → Own w l → authorized w (hold_in l)
      → (next_serial w < last_serial → (result ≡ Granted (lease_of (lease_key (hold_in l)) (next_serial w) w.head.boot)) × authorized final (hold_of (lease_key (hold_in l)) (next_serial w)))
      × (last_serial ≤ next_serial w → (result ≡ Refused (SerialsSpent (lease_key (hold_in l)))) × (cells final (lease_key (hold_in l)) ≡ cell 0 0))
  release_then_handoff_e2 s v o a =
      let f = lease_passes w l s v o a in
      (λ n. let e = hands_granted handed f n in (e, (hands_some handed _ e).1), hands_spent handed f)

  pub release_then_handoff_e3 : (k : Lease) → result ≡ Granted k → lease_key (hold_in k) ≡ lease_key (hold_in l)
  release_then_handoff_e3 k e = ap (λ (x : Lease). x.cell) (hands_some handed k e).0

  pub release_then_handoff_e4 : valid_at w (lease_key (hold_in l)) → authorized w (hold_in l) → (k : Lease) → result ≡ Granted k → lease_serial (hold_in l) < lease_serial (hold_in k)
  release_then_handoff_e4 v a k e =
      omega (arith, ap (λ (x : Lease). x.serial) (hands_some handed k e).0, (lives w (hold_in l) (cell_live w (hold_in l) a v)).high)
