-- `release_all`: its checks, position by position, and the leases given back from the last on.
use Rattle.std.specs.Prelude.{ℕ, zero, suc, ◌+◌, ◌*◌, ◌-◌, ◌/◌, ◌≤◌, ◌<◌, ◌≡◌, refl, List, [], ◌∷◌, ◌++◌, false, not, ltb, length, get_or, take, drop, if◌then◌else◌, Ok, Err}
use Rattle.std.proofs.Common.{ap, ◌∙◌, arith, ltb-false}
use Rattle.std.proofs.lemmas.Bool.{not-false}
use Rattle.model.specs.Arena.{cells_of, is_stale, hold_of, hold_in, holds_of, leases_of, is_live, is_in, set_cell}
use Rattle.model.specs.Refusals.{Rule, first}
use Rattle.model.specs.Checks.{lease_count, is_uneven, bad_shape, bad_health, bad_script, too_many_leases, not_releasable, release_rules}
use Rattle.model.specs.Foreign.{Setting, protecting, boundary_of}
use Rattle.model.specs.Lock.{run_of, hold_at, give_back_of}
use Rattle.model.specs.Calls.{starting, given, script_reply}
use Rattle.types.specs.declared.Answer.TheVariants.{Done}
use Rattle.types.specs.declared.Head.{Head}
use Rattle.types.specs.declared.Hold.{Hold}
use Rattle.types.specs.declared.Lease.{Lease}
use Rattle.types.specs.declared.ScriptReply.{ScriptReply}
use Rattle.types.specs.declared.Refusal.TheVariants as refusal
use Rattle.types.specs.declared.Run.{Run}
use Rattle.choice.specs.Pick.{neither}
use Rattle.laws.specs.Checks.{fine_rest, fine_append, arena_fine, lease_in, leases_at, leases_end, hold_in_lem, live_inside}
use Rattle.foreign.specs.declared.Scope.{Scope}
use Rattle.foreign.specs.Model.{setting_of, in_scope}
use Rattle.foreign.specs.Laws.{boundary_goes}
use Rattle.foreign.specs.Fine.{ScriptFine, place_fine, guards_none}
use Rattle.bucket.specs.Bounds.{call_most}
use Rattle.bucket.specs.Laws.{RunBound}

-- ---- the first leases of a list

pub take_leases : (l : List ℕ) (i : ℕ) → holds_of (take (3 * i) l) ≡ take i (holds_of l)
unfolding holds_of
take_leases l zero = refl
take_leases [] (suc i) = let e : 3 * suc i ≡ suc (suc (suc (3 * i))) = omega arith in rw e
take_leases (c ∷ []) (suc i) = let e : 3 * suc i ≡ suc (suc (suc (3 * i))) = omega arith in rw e
take_leases (c ∷ s ∷ []) (suc i) = let e : 3 * suc i ≡ suc (suc (suc (3 * i))) = omega arith in rw e
take_leases (c ∷ s ∷ b ∷ l) (suc i) = let e : 3 * suc i ≡ suc (suc (suc (3 * i))) = omega arith in rw (e, take_leases l i)

pub more_leases : (l : List ℕ) (i : ℕ) → 3 * i + 2 < length l → holds_of (take (3 * (i + 1)) l) ≡ holds_of (take (3 * i) l) ++ (hold_in (lease_in l i) ∷ [])
unfolding holds_of
more_leases [] i h = absurd (omega arith)
more_leases (c ∷ []) i h = absurd (omega arith)
more_leases (c ∷ s ∷ []) i h = absurd (omega arith)
more_leases (c ∷ s ∷ b ∷ l) zero h = refl
more_leases (c ∷ s ∷ b ∷ l) (suc i) h =
    let e : 3 * suc i ≡ suc (suc (suc (3 * i))) = omega arith in
    let f : 3 * suc i + 1 ≡ suc (suc (suc (3 * i + 1))) = omega arith in
    let g : 3 * (suc i + 1) ≡ suc (suc (suc (3 * (i + 1)))) = omega arith in
    rw (g, f, e) (ap (λ (r : List Hold). hold_of c s ∷ r) (more_leases l i (omega arith)))

-- ---- 16, 12 and 14 at position i, where this lease stands, and from there on

module _ (h : Head) (t leases : List ℕ) (i : ℕ) where
  pub releasable_at : (l : Lease) → l ≡ lease_in leases i → 3 * i + 2 < length leases
      → first (not_releasable h t i (holds_of (take (3 * i) leases)) (leases_of (drop (3 * i) leases)))
      ≡ (if is_stale h l then Err (refusal.StaleBoot i)
      else if not (is_live h.next (cells_of h) t (hold_in l)) then Err (refusal.NotHeld i)
      else if is_in (hold_in l) (holds_of (take (3 * i) leases)) then Err (refusal.Repeated i)
      else first (not_releasable h t (i + 1) (holds_of (take (3 * (i + 1)) leases)) (leases_of (drop (3 * (i + 1)) leases))))
  unfolding first not_releasable
  releasable_at l e b = rw (e, leases_at leases i b, more_leases leases i b)

  pub releasable_end : length leases ≤ 3 * i + 2
      → first (not_releasable h t i (holds_of (take (3 * i) leases)) (leases_of (drop (3 * i) leases))) ≡ Ok tt
  unfolding first not_releasable
  releasable_end b = rw (leases_end leases i b)

-- ---- what the call knows once its checks are fine

-- every lease of a list has its cell in the arena
abbrev pub Inside : ℕ → List ℕ → Type 0
Inside cells leases = (i : ℕ) → 3 * i + 2 < length leases → get_or leases (3 * i) 0 < cells

releasable_inside : (h : Head) (t : List ℕ) (n : ℕ) (earlier : List Hold) (l : List ℕ) → first (not_releasable h t n earlier (leases_of l)) ≡ Ok tt → Inside (cells_of h) l
unfolding not_releasable leases_of
releasable_inside h t n earlier [] e i k = absurd (omega arith)
releasable_inside h t n earlier (c ∷ []) e i k = absurd (omega arith)
releasable_inside h t n earlier (c ∷ s ∷ []) e i k = absurd (omega arith)
releasable_inside h t n earlier (c ∷ s ∷ b ∷ l) e zero k = live_inside h.next (cells_of h) t (hold_of c s) (not-false _ (fine_rest _ _ (fine_rest _ _ e).1).0)
releasable_inside h t n earlier (c ∷ s ∷ b ∷ l) e (suc i) k =
    let z : 3 * suc i ≡ suc (suc (suc (3 * i))) = omega arith in
    rw z (releasable_inside h t (n + 1) (earlier ++ (hold_of c s ∷ [])) l (fine_rest _ _ (fine_rest _ _ (fine_rest _ _ e).1).1).1 i (omega arith))

few_leases : (leases : List ℕ) → (too_many_leases leases).applies ≡ false → lease_count leases ≤ 64
few_leases leases e = ltb-false _ _ (neither (is_uneven leases) (ltb 64 (lease_count leases)) e).1

pub record ReleaseFine (h : Head) (words bytes script place : ℕ) (leases : List ℕ) : Type 0 where
  pub script_ok : ScriptFine h words bytes script place
  pub few : length leases / 3 ≤ 64
  pub inside : Inside (cells_of h) leases

-- 4, 16, 12 and 14
unfoldable pub leases_rules : Head → List ℕ → List ℕ → List Rule
leases_rules h t leases = too_many_leases leases ∷ not_releasable h t 0 [] (leases_of leases)

pub release_fine : (h : Head) (t g script : List ℕ) (place : ℕ) (leases : List ℕ) → first (release_rules h t g script place leases) ≡ Ok tt
    → ReleaseFine h (length t) (length g) (length script) place leases
unfolding release_rules
release_fine h t g script place leases e =
    let a = fine_append (bad_shape h t ∷ bad_health h g ∷ []) _ e in
    let b = fine_append (bad_script script place ∷ []) _ a.1 in
    let d = fine_rest _ _ b.1 in
    let s = arena_fine h t g a.0 in
    let p = place_fine script place b.0 in
    record {
      script_ok = record { shape = s.0; bytes_are = s.1; in_script = p.0; few_steps = p.1 };
      few = few_leases leases d.0;
      inside = releasable_inside h t 0 [] leases d.1;
    }

-- ---- one release, and the boundary after it

unfoldable pub give_one_of : Setting → Run → List ℕ → List ℕ → ℕ → Run × (List ℕ × List ℕ)
give_one_of e r t g c =
    let o = (boundary_of e r.flow (set_cell t c 0 0) g).seen in
    (run_of o.0 r.attempts (r.boundaries + 1) r.yields, o.1)

pub give_one_goes : (s : Scope) (script : List ℕ) (ps : List Hold) → s.steps ≡ length script / 3
    → (o : Run × (List ℕ × List ℕ)) (most : ℕ) (r : Run) (t g : List ℕ) (c : ℕ)
    → o ≡ give_one_of (in_scope s script ps) r t g c → RunBound s.steps most r → RunBound s.steps (most + 1) o.0
unfolding give_one_of
give_one_goes s script ps n o most r t g c q b =
    rw q
    (record {
      flow_bound = boundary_goes _ s.headers s.cells s.steps script ps r.flow (set_cell t c 0 0) g n refl b.flow_bound;
      few_attempts = omega (arith, b.few_attempts);
      few_boundaries = omega (arith, b.few_boundaries);
      few_yields = omega (arith, b.few_yields);
    })

-- one turn from the end: lease m is released, the m before it stay protected
pub give_back_at : (k m : ℕ) (e : Setting) (ls : List Hold) (r : Run) (t g : List ℕ) (o : Run × (List ℕ × List ℕ)) → k ≡ m + 1
    → o ≡ give_one_of (protecting e (take m ls)) r t g (hold_at ls m).cell
    → (give_back_of k e ls r t g).seen ≡ (give_back_of m e ls o.0 o.1.0 o.1.1).seen
unfolding give_back_of give_one_of
give_back_at k m e ls r t g o l q = let s : k ≡ suc m = omega arith in rw (s, q)

pub give_back_end : (k : ℕ) (e : Setting) (ls : List Hold) (r : Run) (t g : List ℕ) → k ≤ 0 → (give_back_of k e ls r t g).seen ≡ (r, (t, g))
unfolding give_back_of
give_back_end k e ls r t g l = let s : k ≡ 0 = omega arith in rw s

-- where the loop stands, with k leases still to be released: what remains from here is what the whole comes to
pub record Giving (e : Setting) (steps : ℕ) (ls : List Hold) (n : ℕ) (r₀ : Run) (t₀ g₀ : List ℕ) (k : ℕ) (r : Run) (t g : List ℕ) : Type 0 where
  pub run_bound : RunBound steps (call_most + (n - k)) r
  pub few : k ≤ n
  pub words : length t ≡ length t₀
  pub bytes : length g ≡ length g₀
  pub rest : (give_back_of k e ls r t g).seen ≡ (give_back_of n e ls r₀ t₀ g₀).seen

-- the same turn as the code makes it: the leases are a lent list, and its first m are lent as the protected ones
pub give_list_at : (k m : ℕ) (s : Scope) (script leases : List ℕ) (taken : List (List ℕ)) (r : Run) (t g : List ℕ) (o : Run × (List ℕ × List ℕ))
    → k ≡ m + 1 → 3 * m + 2 < length leases
    → o ≡ give_one_of (setting_of s script (take (3 * m) leases) taken 0) r t g (get_or leases (3 * m) 0)
    → (give_back_of k (in_scope s script []) (holds_of leases) r t g).seen
    ≡ (give_back_of m (in_scope s script []) (holds_of leases) o.0 o.1.0 o.1.1).seen
give_list_at k m s script leases taken r t g o l b q =
    give_back_at k m (in_scope s script []) (holds_of leases) r t g o l
    (q ∙ rw (guards_none (take (3 * m) leases) taken, take_leases leases m, hold_in_lem leases m b))

-- the steps of the call, once its checks are fine
unfoldable pub release_once_of : Head → List ℕ → List ℕ → List ℕ → ℕ → List ℕ → ScriptReply × (List ℕ × List ℕ)
release_once_of h t g script place leases =
    let o = (give_back_of (lease_count leases) (given h script []) (holds_of leases) (starting h place) t g).seen in
    (script_reply h o.0 Done, o.1)
