-- 000: `try_acquire`, and the compare-and-set inside it (`Atomics::compare_exchange`).
-- ---- what one `try_acquire` comes to, whatever the table holds; F says that no check of the call applies
use Rattle.types.specs.Checks.{Check}
use Rattle.std.specs.Prelude.{ℕ, ◌+◌, ◌≤◌, ◌<◌, ◌≡◌, refl, true, ◌↔◌, ◌⊎◌, length, Ok, Err}
use Rattle.std.proofs.Common.{ap, ◌∙◌, inl, inr, arith, ltb-true, ltb-false, leb-false, le-leb}
use mathlib.Core.List.{List, [], ◌∷◌}
use Rattle.std.proofs.Math.Bool.{not}
use Rattle.std.proofs.lemmas.Bool.{not-false}
use Rattle.model.specs.Log.{Made}
use Rattle.model.specs.Arena.{last_serial, serial_remains, spent_to, lease_of, hold_in, bit_at, owner_at, state_at, shape_fits, cells_of}
use Rattle.model.specs.Answers.{kind_of, refusal_in}
use Rattle.model.specs.Refusals.{first}
use Rattle.model.specs.Checks.{bad_shape, bad_cell, cell_rules}
use Rattle.model.specs.Lock.{take_in, take_of, outcome_of, answer_of}
use Rattle.model.specs.Calls.{acquire_of}
use Rattle.types.specs.declared.Answer.{Answer}
use Rattle.types.specs.declared.Answer.TheVariants.{Granted, Busy, Refused}
use Rattle.types.specs.declared.Hold.{Hold}
use Rattle.types.specs.declared.Lease.{Lease}
use Rattle.types.specs.declared.Reason.{Reason}
use Rattle.types.specs.declared.Reason.TheVariants as reason
use Rattle.types.specs.declared.Refusal.{Refusal}
use Rattle.types.specs.declared.Refusal.TheVariants.{InvalidBucket, Damaged, SerialsSpent}
use Rattle.types.specs.declared.State.{State}
use Rattle.types.specs.declared.Took.{Took}
use Rattle.laws.specs.Words.{length_set_cell}
use Rattle.history.specs.Judged.{refused_so}
use Rattle.history.specs.World.{world_of}
use Rattle.history.specs.Items.{try_acquire, unchanged, perform, rules}
use Rattle.history.specs.Statements.{answers, leaves}
use Rattle.history.specs.Tests.{Status, free, held, Stands, is_free_lem, is_held_lem, is_damaged, stands, if_cases}
use Rattle.upstream.specs.Vocabulary.{Key, cell, is_some, is_none, Authority, lease_key, lease_serial, next_serial, dom, contains_key, cells, insert, CellsAre, answers_none, ValidCell, valid, authorized, framed, Acquire, Observe, Acquires, step}
use Rattle.upstream.specs.Premises.{valid_at, keeps_valid, Fits}
use Rattle.upstream.proofs.Protocol.{insert_framed, step_valid, step_valid_at, step_keeps, step_grants}
use Rattle.upstream.specs.Bridge.{Sized}
use Rattle.upstream.proofs.Bridge.{status_valid, valid_status, fits_sized, put_cells, first_after, by_checks}
use Rattle.upstream.proofs.Passing.{cell_passes}
use Rattle.upstream.specs.TryAcquire.{Tries, takes, busy, damaged, spent, barred}

pub acquired : (F : Type 0) (n : ℕ) (w : Authority) (c : Key) → Sized w → contains_key w c
    → let m = (acquire_of n w.head w.table c).seen in Tries F w c m.0.answer (world_of m.0.head m.1 w.health)
unfolding acquire_of take_of state_at
acquired F n w c z i = go (stands (next_serial w) (bit_at w.table c) (owner_at w.table c))
  where
    Of : Made (Took × List ℕ) → Type 0
    Of m = Tries F w c (answer_of w.head.boot (outcome_of c m.seen.0.answer)) (world_of (spent_to w.head m.seen.0.next) m.seen.1 w.health)

    broken : (b o : ℕ) → (b ≡ 0 → o ≡ 0 → ⊥) → (b ≡ 1 → 1 ≤ o → o < next_serial w → ⊥) → Status b o (next_serial w) → ⊥
    broken b o p q (free x y) = p x y
    broken b o p q (held x y k) = q x y k

    go : {s : State} → Stands (next_serial w) (bit_at w.table c) (owner_at w.table c) s → Of (take_in s (next_serial w) w.table c)
    go (is_free_lem p q) =
        if_cases Of (serial_remains (next_serial w))
        (λ r. takes (record {
          inside = i;
          unlocked = p;
          nobody = q;
          next_one = refl;
          somebody = z.1;
          rises = refl;
          written = put_cells w (next_serial w + 1) c 1 (next_serial w) z i;
        }) (ltb-true _ _ r) (length_set_cell w.table c 1 (next_serial w) ∙ z.0, omega arith))
        (λ r. spent i p q (ltb-false _ _ r))
    go (is_held_lem p q r) = busy i p q r
    go (is_damaged p q) = damaged i (λ v. broken _ _ p q (valid_status (next_serial w) (cells w c) v))

-- ---- upstream's clauses, of any call that comes to one `try_acquire`

module _ {F : Type 0} {w : Authority} {c : Key} where
  pub tries_valid : {a : Answer} {v : Authority} → Tries F w c a v → valid w → valid v
  tries_valid (takes x l z) k = step_valid w _ (Acquire c (next_serial w)) k x
  tries_valid (busy i p q r) k = k
  tries_valid (damaged i p) k = k
  tries_valid (spent i p q r) k = k
  tries_valid (barred r f) k = k

  pub tries_valid_at : {a : Answer} {v : Authority} → Tries F w c a v → keeps_valid w v
  tries_valid_at (takes {v = v} x l z) k j y = step_valid_at w v (Acquire c (next_serial w)) x k j y
  tries_valid_at (busy i p q r) k j x = x
  tries_valid_at (damaged i p) k j x = x
  tries_valid_at (spent i p q r) k j x = x
  tries_valid_at (barred r f) k j x = x

  -- granted: everything that upstream says of a grant
  pub tries_some : {a : Answer} {v : Authority} → Tries F w c a v → (l : Lease) → a ≡ Granted l
      → (l ≡ lease_of c (next_serial w) w.head.boot) × Acquires w v c (next_serial w) × (next_serial w < last_serial)
  tries_some (takes x k z) l e = (cc, x, k)
  tries_some (busy i p q r) l e = absurd (omega (arith, ap kind_of e))
  tries_some (damaged i p) l e = absurd (omega (arith, ap kind_of e))
  tries_some (spent i p q r) l e = absurd (omega (arith, ap kind_of e))
  tries_some (barred r f) l e = absurd (omega (arith, ap kind_of e))

  -- else nothing changed
  pub tries_none : {a : Answer} {v : Authority} → Tries F w c a v → answers_none a → v ≡ w
  tries_none (takes x k z) n = absurd (n _ refl)
  tries_none (busy i p q r) n = refl
  tries_none (damaged i p) n = refl
  tries_none (spent i p q r) n = refl
  tries_none (barred r f) n = refl

  pub tries_keys : {a : Answer} {v : Authority} → Tries F w c a v → dom v ≡ dom w
  tries_keys (takes x k z) = x.written.same_keys
  tries_keys (busy i p q r) = refl
  tries_keys (damaged i p) = refl
  tries_keys (spent i p q r) = refl
  tries_keys (barred r f) = refl

  pub tries_sized : {a : Answer} {v : Authority} → Tries F w c a v → Sized w → Sized v
  tries_sized (takes x k z) k₀ = z
  tries_sized (busy i p q r) k = k
  tries_sized (damaged i p) k = k
  tries_sized (spent i p q r) k = k
  tries_sized (barred r f) k = k

  -- a lease that was authorized stays so
  pub tries_keeps : {a : Answer} {v : Authority} → Tries F w c a v → (l : Hold) → authorized w l → authorized v l
  tries_keeps (takes x k z) l p = step_keeps w _ (Acquire c (next_serial w)) l x (λ r. r) p
  tries_keeps (busy i p q r) l x = x
  tries_keeps (damaged i p) l x = x
  tries_keeps (spent i p q r) l x = x
  tries_keeps (barred r f) l x = x

  -- "bit 0 implies granted" gains "and a serial remains"
  pub tries_free : {a : Answer} {v : Authority} → Tries F w c a v → F → ValidCell (next_serial w) (cells w c) → (cells w c).bit ≡ 0 → next_serial w < last_serial
      → a ≡ Granted (lease_of c (next_serial w) w.head.boot)
  tries_free (takes x k z) f v b n = refl
  tries_free (busy i p q r) f v b n = absurd (omega arith)
  tries_free (damaged i p) f v b n = absurd (p v)
  tries_free (spent i p q r) f v b n = absurd (omega arith)
  tries_free (barred r n) f v b n' = absurd (n f)

  -- else 10
  pub tries_spent : {a : Answer} {v : Authority} → Tries F w c a v → F → ValidCell (next_serial w) (cells w c) → (cells w c).bit ≡ 0 → last_serial ≤ next_serial w
      → a ≡ Refused (SerialsSpent c)
  tries_spent (takes x k z) f v b n = absurd (omega arith)
  tries_spent (busy i p q r) f v b n = absurd (omega arith)
  tries_spent (damaged i p) f v b n = absurd (p v)
  tries_spent (spent i p q r) f v b n = refl
  tries_spent (barred r n) f v b n' = absurd (n f)

  -- a cell that is not valid: 9
  pub tries_damaged : {a : Answer} {v : Authority} → Tries F w c a v → F → (ValidCell (next_serial w) (cells w c) → ⊥) → (a ≡ Refused (Damaged c)) × (v ≡ w)
  tries_damaged (takes x k z) f n = absurd (n (status_valid _ (cells w c) (free x.unlocked x.nobody)))
  tries_damaged (busy i p q r) f n = absurd (n (status_valid _ (cells w c) (held p q r)))
  tries_damaged (damaged i p) f n = (refl, refl)
  tries_damaged (spent i p q r) f n = absurd (n (status_valid _ (cells w c) (free p q)))
  tries_damaged (barred r m) f n = absurd (m f)

  -- a held cell is Busy with its owner's serial, and nothing changes
  pub tries_held : {a : Answer} {v : Authority} → Tries F w c a v → F → ValidCell (next_serial w) (cells w c) → (cells w c).bit ≡ 1
      → (a ≡ Busy (reason.Held (cells w c).owner)) × (v ≡ w)
  tries_held (takes x k z) f v b = absurd (omega (arith, x.unlocked))
  tries_held (busy i p q r) f v b = (refl, refl)
  tries_held (damaged i p) f v b = absurd (p v)
  tries_held (spent i p q r) f v b = absurd (omega arith)
  tries_held (barred r n) f v b = absurd (n f)

  -- an answer that is no grant tells the bit: Busy says 1, and 10 says 0
  tries_tells : {a : Answer} {v : Authority} → Tries F w c a v → F → ValidCell (next_serial w) (cells w c) → answers_none a
      → ((why : Reason) × (a ≡ Busy why) × ((cells w c).bit ≡ 1)) ⊎ ((a ≡ Refused (SerialsSpent c)) × ((cells w c).bit ≡ 0))
  tries_tells (takes x k z) f v n = absurd (n _ refl)
  tries_tells (busy i p q r) f v n = inl (_, refl, p)
  tries_tells (damaged i p) f v n = absurd (p v)
  tries_tells (spent i p q r) f v n = inr (refl, p)
  tries_tells (barred r m) f v n = absurd (m f)

pub observed : (w v : Authority) → v ≡ w → step w v Observe
observed w v e = rw e (record { same = record { same_keys = refl; each = λ k i. refl }; stays = refl })

-- two checks that cannot both be
pub fine_fault : {k : Check} {r : Refusal} → k ≡ Ok tt → k ≡ Err r → ⊥
fine_fault p q = let z : ◌≡◌ {A = ℕ} 0 1 = cc in omega arith

-- ---- `try_acquire`

module _ (w : Authority) (c : Key) where
  abbrev result : Answer
  result = answers w (try_acquire c)

  abbrev final : Authority
  final = leaves w (try_acquire c)

  abbrev Checked : Type 0
  Checked = first (rules w (try_acquire c)) ≡ Ok tt

  pub tried : Tries Checked w c result final
  unfolding cell_rules
  tried =
      by_checks (λ m. Tries Checked w c m.seen.1.answer m.seen.0) w (try_acquire c) (λ r e. barred r (λ f. fine_fault f e))
      (λ e k. acquired Checked 1 w c (fits_sized w (not-false _ k.0)) (leb-false _ _ k.1.0))

  -- valid(old(authority)): 9, where the cell that is to be taken is damaged
  pub try_acquire_r1 : Checked → (ValidCell (next_serial w) (cells w c) → ⊥) → (result ≡ Refused (Damaged c)) × (final ≡ w)
  try_acquire_r1 = tries_damaged tried

  -- cells(old(authority)).contains_key(key): 8
  pub try_acquire_r2 : shape_fits w.head (length w.table) ≡ true → (contains_key w c → ⊥) → perform w (try_acquire c) ≡ unchanged w (try_acquire c) (InvalidBucket c)
  unfolding cell_rules
  try_acquire_r2 s n =
      refused_so w (try_acquire c) (InvalidBucket c)
      (first_after (bad_shape w.head w.table ∷ []) (bad_cell w.head c) [] (ap not s, tt) (le-leb (cells_of w.head) c (omega arith)))

  pub try_acquire_valid : valid w → valid final
  try_acquire_valid = tries_valid tried

  pub try_acquire_e1 : keeps_valid w final
  try_acquire_e1 = tries_valid_at tried

  pub try_acquire_e2 : framed w final c
  try_acquire_e2 = go tried
    where
      go : {a : Answer} {v : Authority} → Tries Checked w c a v → framed w v c
      go (takes {v = v} x k z) other = insert_framed w v c (cell 1 (next_serial w)) x.written other
      go (busy i p q r) other = ((λ i. i, λ i. i), λ _ _. refl)
      go (damaged i p) other = ((λ i. i, λ i. i), λ _ _. refl)
      go (spent i p q r) other = ((λ i. i, λ i. i), λ _ _. refl)
      go (barred r f) other = ((λ i. i, λ i. i), λ _ _. refl)

  pub try_acquire_e3 : (l : Lease) → result ≡ Granted l → lease_key (hold_in l) ≡ c
  try_acquire_e3 l e = ap (λ (k : Lease). k.cell) (tries_some tried l e).0

  pub try_acquire_e4 : (l : Lease) → result ≡ Granted l → authorized final (hold_in l)
  try_acquire_e4 l e = let x = tries_some tried l e in rw x.0 (step_grants w final c (next_serial w) x.1)

  pub try_acquire_e5 : answers_none result → CellsAre w final (cells w)
  try_acquire_e5 n = (observed w final (tries_none tried n)).same

  pub try_acquire_e6 : answers_none result → next_serial final ≡ next_serial w
  try_acquire_e6 n = (observed w final (tries_none tried n)).stays

  pub try_acquire_e7 : (cells w c).bit ≡ 1 → answers_none result
  try_acquire_e7 b l e = omega (arith, (tries_some tried l e).1.unlocked)

  pub try_acquire_e8 : (l : Lease) → result ≡ Granted l → (cells w c).bit ≡ 0
  try_acquire_e8 l e = (tries_some tried l e).1.unlocked

  pub try_acquire_e9 : (l : Lease) → result ≡ Granted l → lease_serial (hold_in l) ≡ next_serial w
  try_acquire_e9 l e = ap (λ (k : Lease). k.serial) (tries_some tried l e).0

  -- "gain 'and a serial remains', else SerialsSpent"
  pub try_acquire_e10 : Fits w → valid_at w c → contains_key w c → (cells w c).bit ≡ 0
      → (next_serial w < last_serial → result ≡ Granted (lease_of c (next_serial w) w.head.boot)) × (last_serial ≤ next_serial w → result ≡ Refused (SerialsSpent c))
  try_acquire_e10 s v i b = let f = cell_passes w c s i in (tries_free tried f v b, tries_spent tried f v b)

  pub try_acquire_e11 : next_serial w ≤ next_serial final
  try_acquire_e11 = go tried
    where
      go : {a : Answer} {v : Authority} → Tries Checked w c a v → next_serial w ≤ next_serial v
      go (takes x k z) = omega (arith, x.rises)
      go (busy i p q r) = omega arith
      go (damaged i p) = omega arith
      go (spent i p q r) = omega arith
      go (barred r f) = omega arith

  pub try_acquire_e12 : (l : Lease) → result ≡ Granted l → step w final (Acquire c (lease_serial (hold_in l)))
  try_acquire_e12 l e = let x = tries_some tried l e in rw (ap (λ (k : Lease). k.serial) x.0) x.1

  pub try_acquire_e13 : answers_none result → step w final Observe
  try_acquire_e13 n = observed w final (tries_none tried n)

  -- ---- `compare_exchange`: bit and owner are one write here

  -- result.is_ok() <==> bit == expected: and a serial remains; bit 0 and no serial is 10
  pub compare_exchange_e1 : Fits w → valid_at w c → contains_key w c
      → (((l : Lease) × (result ≡ Granted l)) ↔ (((cells w c).bit ≡ 0) × (next_serial w < last_serial)))
      × ((result ≡ Refused (SerialsSpent c)) ↔ (((cells w c).bit ≡ 0) × (last_serial ≤ next_serial w)))
  compare_exchange_e1 s v i =
      let f = cell_passes w c s i in
      ((λ e. let x = tries_some tried e.0 e.1 in (x.1.unlocked, x.2), λ p. (_, tries_free tried f v p.0 p.1)), (spent_tells tried, λ p. tries_spent tried f v p.0 p.1))
    where
      spent_tells : {a : Answer} {v : Authority} → Tries Checked w c a v → a ≡ Refused (SerialsSpent c) → ((cells w c).bit ≡ 0) × (last_serial ≤ next_serial w)
      spent_tells (takes x k z) e = absurd (omega (arith, ap kind_of e))
      spent_tells (busy j p q r) e = absurd (omega (arith, ap kind_of e))
      spent_tells (damaged j p) e = absurd (omega (arith, ap refusal_in e))
      spent_tells (spent j p q r) e = (p, r)
      spent_tells (barred r f) e = absurd (f (cell_passes w c s i))

  -- result.unwrap_err() == bit: an answer that is no grant is Busy for some reason, and the bit is 1, or 10, and the bit is 0
  pub compare_exchange_e3 : Fits w → valid_at w c → contains_key w c → answers_none result
      → ((why : Reason) × (result ≡ Busy why) × ((cells w c).bit ≡ 1)) ⊎ ((result ≡ Refused (SerialsSpent c)) × ((cells w c).bit ≡ 0))
  compare_exchange_e3 s v i n = tries_tells tried (cell_passes w c s i) v n

  -- the bit is 1 on a grant and as it was else; the owner is written with it
  pub compare_exchange_e4 : ((l : Lease) → result ≡ Granted l → CellsAre w final (insert (cells w) c (cell 1 (lease_serial (hold_in l))))) × (answers_none result → CellsAre w final (cells w))
  compare_exchange_e4 = (λ l e. (try_acquire_e12 l e).written, try_acquire_e5)

  -- so is the next serial
  pub compare_exchange_e5 : ((l : Lease) → result ≡ Granted l → next_serial final ≡ next_serial w + 1) × (answers_none result → next_serial final ≡ next_serial w)
  compare_exchange_e5 = (λ l e. (try_acquire_e12 l e).rises, try_acquire_e6)
