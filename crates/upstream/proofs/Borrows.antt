-- 000: `acquire_preserving_borrows`, `drop_preserving_borrows` and `foreign_release_between_attempts`: the calls with a
-- held list and no script.
use Rattle.std.specs.Prelude.{ℕ, ◌≤◌, ◌<◌, ◌≡◌, List, [], ◌∷◌, ◌++◌, false, Ok, Err}
use Rattle.std.proofs.Math.Path.{refl, subst}
use Rattle.std.proofs.Common.{sym, ap, ◌∙◌, arith}
use Rattle.std.proofs.Math.Bool.{not}
use borrow.Author.Tests.{not-false, leb-false}
use Rattle.model.specs.Log.{by_caller, released}
use Rattle.model.specs.Arena.{last_serial, lease_of, hold_of, hold_in, holds_of, set_cell}
use Rattle.model.specs.Refusals.{Rule, first}
use Rattle.model.specs.Checks.{lease_count, bad_shape, bad_held, bad_held_length, held_cell_rules, held_lease_rules}
use Rattle.model.specs.Calls.{acquire_of}
use Rattle.types.specs.declared.Answer.{Answer}
use Rattle.types.specs.declared.Answer.TheVariants.{Granted, Refused}
use Rattle.types.specs.declared.Lease.{Lease}
use Rattle.types.specs.declared.Refusal.TheVariants.{BadHeld, InvalidBucket, Damaged, SerialsSpent, NotHeld, Protected}
use Rattle.laws.specs.Checks.{first_hit, first_skip}
use Rattle.history.specs.World as world
use Rattle.history.specs.World.{Live, world_of}
use Rattle.history.specs.Items.{acquire_preserving, drop_preserving, foreign_release, unchanged, perform, Clear, rules}
use Rattle.history.specs.Statements.{answers, leaves}
use Rattle.history.specs.Judged.{clear_back, refused_so}
use Rattle.history.specs.Tests.{In}
use Rattle.history.specs.Events.{lives}
use Rattle.upstream.specs.Vocabulary.{Key, cell, Authority, lease_key, lease_serial, next_serial, dom, contains_key, cells, ValidCell, authorized, protected_valid, held_ids, leases_authorized}
use Rattle.upstream.specs.Premises.{Own, valid_at, keeps_valid, leases_valid, Fits, FirstBad, Short}
use Rattle.upstream.proofs.Protocol.{step_grants, step_frees, bit_of}
use Rattle.upstream.proofs.Bridge.{live_cell, cell_live, by_name, by_place, fits_sized, sized_now, by_checks}
use Rattle.upstream.proofs.Refusing.{unauthorized, on_damaged, over, not_held_lem, held_refused, cell_refused, protected_refused}
use Rattle.upstream.proofs.Passing.{held_cell_passes, held_lease_passes}
use Rattle.upstream.specs.TryAcquire.{Tries, barred}
use Rattle.upstream.proofs.TryAcquire.{acquired, tries_keys, tries_valid_at, tries_some, tries_held, tries_free, tries_spent, tries_damaged, tries_keeps, fine_fault}
use Rattle.upstream.specs.DropLease.{Drops, drops}
use Rattle.upstream.proofs.DropLease.{dropped, drops_valid_at, drops_stays, drops_keeps, drops_done}
use Rattle.upstream.proofs.DropLease as drop
use Rattle.upstream.specs.DropLease as drop_said
use Rattle.upstream.specs.OneLease.{Hands, hands, unheld}
use Rattle.upstream.proofs.OneLease.{hands_valid_at, hands_keys, hands_keeps, hands_some, hands_granted, hands_spent}
use Rattle.upstream.specs.Borrows.{Before}

-- ---- `acquire_preserving_borrows`

module _ (w : Authority) (held : List ℕ) (c : Key) where
  abbrev Checked₁ : Type 0
  Checked₁ = first (rules w (acquire_preserving held c)) ≡ Ok tt

  abbrev result₁ : Answer
  result₁ = answers w (acquire_preserving held c)

  abbrev final₁ : Authority
  final₁ = leaves w (acquire_preserving held c)

  tried : Tries Checked₁ w c result₁ final₁
  unfolding held_cell_rules
  tried =
      by_checks (λ m. Tries Checked₁ w c m.seen.1.answer m.seen.0) w (acquire_preserving held c) (λ r e. barred r (λ f. fine_fault f e))
      (λ e k. acquired Checked₁ 1 w c (fits_sized w (not-false _ k.0)) (leb-false _ _ (clear_back (Before w held) _ k).0))

  -- valid(old(authority)): 9, where the cell that is to be taken is damaged
  pub acquire_preserving_borrows_r1 : Checked₁ → (ValidCell (next_serial w) (cells w c) → ⊥) → (result₁ ≡ Refused (Damaged c)) × (final₁ ≡ w)
  acquire_preserving_borrows_r1 = tries_damaged tried

  -- cells(old(authority)).contains_key(key): 8
  pub acquire_preserving_borrows_r2 : Clear (Before w held) → (contains_key w c → ⊥) → perform w (acquire_preserving held c) ≡ unchanged w (acquire_preserving held c) (InvalidBucket c)
  unfolding held_cell_rules
  acquire_preserving_borrows_r2 k n = refused_so w (acquire_preserving held c) (InvalidBucket c) (cell_refused (Before w held) w c k n)

  -- leases_authorized(old(authority), held@): 3, with the first position
  pub acquire_preserving_borrows_r3 : (i : ℕ) → Fits w → (bad_held_length held).applies ≡ false → FirstBad w held i
      → perform w (acquire_preserving held c) ≡ unchanged w (acquire_preserving held c) (BadHeld i)
  unfolding held_cell_rules
  acquire_preserving_borrows_r3 i s b f =
      refused_so w (acquire_preserving held c) (BadHeld i) (held_refused (bad_shape w.head w.table ∷ []) w held i _ (ap not s, tt) b f)

  pub acquire_preserving_borrows_e1 : keeps_valid w final₁
  acquire_preserving_borrows_e1 = tries_valid_at tried

  pub acquire_preserving_borrows_e2 : leases_authorized w (holds_of held) → leases_authorized final₁ (holds_of held)
  acquire_preserving_borrows_e2 p i l = tries_keeps tried _ (p i l)

  pub acquire_preserving_borrows_e3 : leases_authorized w (holds_of held) → protected_valid final₁ (held_ids (holds_of held))
  acquire_preserving_borrows_e3 p = by_name final₁ (holds_of held) (acquire_preserving_borrows_e2 p)

  pub acquire_preserving_borrows_e4 : dom final₁ ≡ dom w
  acquire_preserving_borrows_e4 = tries_keys tried

  -- "gain 'and a serial remains', else SerialsSpent"
  pub acquire_preserving_borrows_e5 : Fits w → Short w held → leases_valid w (holds_of held) → valid_at w c → contains_key w c → leases_authorized w (holds_of held) → (cells w c).bit ≡ 0
      → (next_serial w < last_serial → result₁ ≡ Granted (lease_of c (next_serial w) w.head.boot)) × (last_serial ≤ next_serial w → result₁ ≡ Refused (SerialsSpent c))
  acquire_preserving_borrows_e5 s k v u i p b = let f = held_cell_passes w held c s k v i p in (tries_free tried f u b, tries_spent tried f u b)

  pub acquire_preserving_borrows_e6 : (l : Lease) → result₁ ≡ Granted l → lease_serial (hold_in l) ≡ next_serial w
  acquire_preserving_borrows_e6 l e = ap (λ (k : Lease). k.serial) (tries_some tried l e).0

  pub acquire_preserving_borrows_e7 : (l : Lease) → result₁ ≡ Granted l → authorized final₁ (hold_in l)
  acquire_preserving_borrows_e7 l e = let x = tries_some tried l e in rw x.0 (step_grants w final₁ c (next_serial w) x.1)

  pub acquire_preserving_borrows_e8 : (l : Lease) → result₁ ≡ Granted l → lease_key (hold_in l) ≡ c
  acquire_preserving_borrows_e8 l e = ap (λ (k : Lease). k.cell) (tries_some tried l e).0

  pub acquire_preserving_borrows_e9 : leases_authorized w (holds_of held) → (l : Lease) → result₁ ≡ Granted l → held_ids (holds_of held) (hold_of c (lease_serial (hold_in l))) → ⊥
  acquire_preserving_borrows_e9 p l e i =
      omega (arith, (by_name w (holds_of held) p (hold_of c (lease_serial (hold_in l))) i).locked, (tries_some tried l e).1.unlocked)

-- ---- `drop_preserving_borrows`

module _ (w : Authority) (held : List ℕ) (l : Lease) where
  abbrev Checked₂ : Type 0
  Checked₂ = first (rules w (drop_preserving held l)) ≡ Ok tt

  abbrev result₂ : Answer
  result₂ = answers w (drop_preserving held l)

  abbrev final₂ : Authority
  final₂ = leaves w (drop_preserving held l)

  dropping : Drops Checked₂ w (hold_in l) result₂ final₂
  unfolding held_lease_rules
  dropping =
      by_checks (λ m. Drops Checked₂ w (hold_in l) m.seen.1.answer m.seen.0) w (drop_preserving held l) (λ r e. drop_said.barred r (λ f. fine_fault f e))
      (λ e k. drops (dropped w (hold_in l) (fits_sized w (not-false _ k.0)) (not-false _ (clear_back (Before w held) _ k).1.0)))

  -- valid(old(authority)): 12, where the lease's cell is damaged
  pub drop_preserving_borrows_r1 : Clear (Before w held) → Own w l → (ValidCell (next_serial w) (cells w (lease_key (hold_in l))) → ⊥)
      → perform w (drop_preserving held l) ≡ unchanged w (drop_preserving held l) (NotHeld 0)
  unfolding held_lease_rules
  drop_preserving_borrows_r1 k o n = refused_so w (drop_preserving held l) (NotHeld 0) (not_held_lem (Before w held) w 0 l _ k o (on_damaged w (hold_in l) n))

  -- authorized(old(authority), &lease): 12
  pub drop_preserving_borrows_r2 : Clear (Before w held) → Own w l → (authorized w (hold_in l) → ⊥) → perform w (drop_preserving held l) ≡ unchanged w (drop_preserving held l) (NotHeld 0)
  unfolding held_lease_rules
  drop_preserving_borrows_r2 k o n = refused_so w (drop_preserving held l) (NotHeld 0) (not_held_lem (Before w held) w 0 l _ k o (unauthorized w (hold_in l) n))

  -- leases_authorized(old(authority), held@): 3, with the first position
  pub drop_preserving_borrows_r3 : (i : ℕ) → Fits w → (bad_held_length held).applies ≡ false → FirstBad w held i
      → perform w (drop_preserving held l) ≡ unchanged w (drop_preserving held l) (BadHeld i)
  unfolding held_lease_rules
  drop_preserving_borrows_r3 i s b f =
      refused_so w (drop_preserving held l) (BadHeld i) (held_refused (bad_shape w.head w.table ∷ []) w held i _ (ap not s, tt) b f)

  -- !held_ids(held@).contains((lease_key(&lease), lease_serial(&lease))): 13
  pub drop_preserving_borrows_r4 : Clear (Before w held) → valid_at w (lease_key (hold_in l)) → Own w l → authorized w (hold_in l) → held_ids (holds_of held) (hold_in l)
      → perform w (drop_preserving held l) ≡ unchanged w (drop_preserving held l) Protected
  unfolding held_lease_rules
  drop_preserving_borrows_r4 k v o a i = refused_so w (drop_preserving held l) Protected (protected_refused (Before w held) w held l k o (cell_live w (hold_in l) a v) i)

  pub drop_preserving_borrows_e1 : keeps_valid w final₂
  drop_preserving_borrows_e1 = drops_valid_at dropping

  pub drop_preserving_borrows_e3 : leases_authorized w (holds_of held) → (held_ids (holds_of held) (hold_in l) → ⊥) → protected_valid final₂ (held_ids (holds_of held))
  drop_preserving_borrows_e3 p n k i = drops_keeps dropping k (λ e. n (subst (In (holds_of held)) e i)) (by_name w (holds_of held) p k i)

  pub drop_preserving_borrows_e2 : leases_authorized w (holds_of held) → (held_ids (holds_of held) (hold_in l) → ⊥) → leases_authorized final₂ (holds_of held)
  drop_preserving_borrows_e2 p n = by_place final₂ (holds_of held) (drop_preserving_borrows_e3 p n)

  pub drop_preserving_borrows_e4 : dom final₂ ≡ dom w
  drop_preserving_borrows_e4 = go dropping
    where
      go : {a : Answer} {v : Authority} → Drops Checked₂ w (hold_in l) a v → dom v ≡ dom w
      go (drops x) = x.written.same_keys
      go (drop_said.barred r f) = refl

  pub drop_preserving_borrows_e5 : Fits w → Short w held → leases_valid w (holds_of held) → valid_at w (lease_key (hold_in l)) → Own w l → authorized w (hold_in l) → leases_authorized w (holds_of held) → (held_ids (holds_of held) (hold_in l) → ⊥)
      → (cells final₂ (lease_key (hold_in l))).bit ≡ 0
  drop_preserving_borrows_e5 s k v u o a p n = bit_of (step_frees w final₂ l.cell l.serial (drops_done dropping (held_lease_passes w held l s k v u o a p n)).1)

  pub drop_preserving_borrows_e6 : next_serial final₂ ≡ next_serial w
  drop_preserving_borrows_e6 = drops_stays dropping

-- ---- `foreign_release_between_attempts`

module _ (w : Authority) (held : List ℕ) (l : Lease) where
  abbrev Checked₃ : Type 0
  Checked₃ = first (rules w (foreign_release held l)) ≡ Ok tt

  abbrev result₃ : Answer
  result₃ = answers w (foreign_release held l)

  abbrev final₃ : Authority
  final₃ = leaves w (foreign_release held l)

  -- the first try is Busy and changes nothing; then as in `release_then_handoff`
  abbrev Then : Authority → Type 0
  Then v =
      let m = (acquire_of 2 v.head (set_cell v.table l.cell 0 0) l.cell).seen in
      Hands Checked₃ w (hold_in l) m.0.answer (world_of m.0.head m.1 v.health)

  handed : Hands Checked₃ w (hold_in l) result₃ final₃
  unfolding held_lease_rules
  handed =
      by_checks (λ m. Hands Checked₃ w (hold_in l) m.seen.1.answer m.seen.0) w (foreign_release held l) (λ r e. unheld r (λ f. fine_fault f e))
      (λ e k.
      let z = fits_sized w (not-false _ k.0) in
      let v : Live w (hold_in l) = not-false _ (clear_back (Before w held) _ k).1.0 in
      let x = lives w (hold_in l) v in
      let event = released by_caller l.cell l.serial in
      let one = tries_held (acquired Checked₃ 1 w l.cell z x.in_range) e (live_cell w (hold_in l) v) x.bit_is in
      subst Then (sym one.1) (hands (world.after_event w event) refl (dropped w (hold_in l) z v) (acquired Checked₃ 2 (world.after_event w event) l.cell (sized_now w (event ∷ []) z) x.in_range)))

  pub foreign_release_between_attempts_r1 : Clear (Before w held) → Own w l → (ValidCell (next_serial w) (cells w (lease_key (hold_in l))) → ⊥)
      → perform w (foreign_release held l) ≡ unchanged w (foreign_release held l) (NotHeld 0)
  unfolding held_lease_rules
  foreign_release_between_attempts_r1 k o n = refused_so w (foreign_release held l) (NotHeld 0) (not_held_lem (Before w held) w 0 l _ k o (on_damaged w (hold_in l) n))

  pub foreign_release_between_attempts_r2 : Clear (Before w held) → Own w l → (authorized w (hold_in l) → ⊥) → perform w (foreign_release held l) ≡ unchanged w (foreign_release held l) (NotHeld 0)
  unfolding held_lease_rules
  foreign_release_between_attempts_r2 k o n = refused_so w (foreign_release held l) (NotHeld 0) (not_held_lem (Before w held) w 0 l _ k o (unauthorized w (hold_in l) n))

  pub foreign_release_between_attempts_r3 : (i : ℕ) → Fits w → (bad_held_length held).applies ≡ false → FirstBad w held i
      → perform w (foreign_release held l) ≡ unchanged w (foreign_release held l) (BadHeld i)
  unfolding held_lease_rules
  foreign_release_between_attempts_r3 i s b f =
      refused_so w (foreign_release held l) (BadHeld i) (held_refused (bad_shape w.head w.table ∷ []) w held i _ (ap not s, tt) b f)

  pub foreign_release_between_attempts_r4 : Clear (Before w held) → valid_at w (lease_key (hold_in l)) → Own w l → authorized w (hold_in l) → held_ids (holds_of held) (hold_in l)
      → perform w (foreign_release held l) ≡ unchanged w (foreign_release held l) Protected
  unfolding held_lease_rules
  foreign_release_between_attempts_r4 k v o a i = refused_so w (foreign_release held l) Protected (protected_refused (Before w held) w held l k o (cell_live w (hold_in l) a v) i)

  pub foreign_release_between_attempts_e1 : keeps_valid w final₃
  foreign_release_between_attempts_e1 = hands_valid_at handed

  pub foreign_release_between_attempts_keys : dom final₃ ≡ dom w
  foreign_release_between_attempts_keys = hands_keys handed

  -- the sure grant gains "and a serial remains", else SerialsSpent, and "the release stands and the cell is free"
  pub foreign_release_between_attempts_e2 : Fits w → Short w held → leases_valid w (holds_of held) → valid_at w (lease_key (hold_in l)) → Own w l → authorized w (hold_in l) → leases_authorized w (holds_of held) → (held_ids (holds_of held) (hold_in l) → ⊥)
      → (next_serial w < last_serial → (result₃ ≡ Granted (lease_of (lease_key (hold_in l)) (next_serial w) w.head.boot)) × authorized final₃ (hold_of (lease_key (hold_in l)) (next_serial w)))
      × (last_serial ≤ next_serial w → (result₃ ≡ Refused (SerialsSpent (lease_key (hold_in l)))) × (cells final₃ (lease_key (hold_in l)) ≡ cell 0 0))
  foreign_release_between_attempts_e2 s k v u o a p m =
      let f = held_lease_passes w held l s k v u o a p m in
      (λ n. let e = hands_granted handed f n in (e, (hands_some handed _ e).1), hands_spent handed f)

  pub foreign_release_between_attempts_e3 : leases_authorized w (holds_of held) → (held_ids (holds_of held) (hold_in l) → ⊥) → leases_authorized final₃ (holds_of held)
  foreign_release_between_attempts_e3 p n =
      by_place final₃ (holds_of held) (λ k i. hands_keeps handed k (λ e. n (subst (In (holds_of held)) e i)) (by_name w (holds_of held) p k i))

  pub foreign_release_between_attempts_e4 : (k : Lease) → result₃ ≡ Granted k → lease_key (hold_in k) ≡ lease_key (hold_in l)
  foreign_release_between_attempts_e4 k e = ap (λ (x : Lease). x.cell) (hands_some handed k e).0

  pub foreign_release_between_attempts_e5 : valid_at w (lease_key (hold_in l)) → authorized w (hold_in l) → (k : Lease) → result₃ ≡ Granted k → lease_serial (hold_in l) < lease_serial (hold_in k)
  foreign_release_between_attempts_e5 v a k e =
      omega (arith, ap (λ (x : Lease). x.serial) (hands_some handed k e).0, (lives w (hold_in l) (cell_live w (hold_in l) a v)).high)

-- ---- the limits: a held list that is no list of leases, or has more than 64, is 3 with its number of leases

module _ (w : Authority) (held : List ℕ) where
  too_long : (ys : List Rule) → Fits w → 64 < lease_count held → first (bad_shape w.head w.table ∷ (bad_held w.head w.table held ++ ys)) ≡ Err (BadHeld (lease_count held))
  too_long ys s b = first_skip (bad_shape w.head w.table) _ (ap not s) ∙ first_hit (bad_held_length held) _ (over held b)

  pub acquire_too_long : (c : Key) → Fits w → 64 < lease_count held
      → perform w (acquire_preserving held c) ≡ unchanged w (acquire_preserving held c) (BadHeld (lease_count held))
  unfolding held_cell_rules
  acquire_too_long c s b = refused_so w (acquire_preserving held c) (BadHeld (lease_count held)) (too_long _ s b)

  pub drop_too_long : (l : Lease) → Fits w → 64 < lease_count held
      → perform w (drop_preserving held l) ≡ unchanged w (drop_preserving held l) (BadHeld (lease_count held))
  unfolding held_lease_rules
  drop_too_long l s b = refused_so w (drop_preserving held l) (BadHeld (lease_count held)) (too_long _ s b)

  pub foreign_too_long : (l : Lease) → Fits w → 64 < lease_count held
      → perform w (foreign_release held l) ≡ unchanged w (foreign_release held l) (BadHeld (lease_count held))
  unfolding held_lease_rules
  foreign_too_long l s b = refused_so w (foreign_release held l) (BadHeld (lease_count held)) (too_long _ s b)
