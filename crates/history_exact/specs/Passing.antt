-- Checks go on passing: over lawful events that spare the held leases, and from one place of the script to another.
use Rattle.std.specs.Prelude.{zero, suc, ◌<◌, ℕ, ◌+◌, ◌≤◌, ◌%◌, ◌*◌, ◌/◌, ◌≡◌, refl, List, [], ◌∷◌, ◌++◌, true, false, not, ◌||◌, ltb, eqb}
use Rattle.std.proofs.Math.Path.{ap}
use Rattle.std.proofs.Common.{◌∙◌, subst, inl, inr, arith, length-set, length-append, le-ltb, ltb-false, eqb-true, eq-eqb}
use Rattle.std.proofs.Math.Decide.{ℕ_discrete}
use Rattle.std.proofs.Math.ListN.{length}
use Rattle.std.proofs.lemmas.Bool.{not-false}
use Rattle.model.specs.Log.{Event, attempt_begun, boundary_run, yielded, spun, step_dropped, took, released, waiters_set, health_set, held_all_lem, added}
use Rattle.model.specs.Arena.{cells_of, shape_fits, health_fits, is_live, leases_of, holds_of, words_of, hold_of}
use Rattle.model.specs.Foreign.{steps_in}
use Rattle.model.specs.Lock.{binding_at}
use Rattle.model.specs.Checks.{not_live, bad_script, bucket_rules, script_rules, bad_bindings, locks_rules, bad_binding, count_in, lease_count, bad_held_length, is_uneven}
use Rattle.types.specs.declared.Head.{Head}
use Rattle.types.specs.declared.Hold.{Hold}
use Rattle.choice.specs.Pick.{neither}
use Rattle.laws.specs.Shape.{shaped}
use Rattle.laws.specs.Lists.{length_words, words_back}
use Rattle.history.specs.World.{World, after_event, now}
use Rattle.history.specs.Items.{Clear}
use Rattle.history.specs.Tests.{In, in_either}
use Rattle.history.specs.Events.{Fit, fits}
use Rattle.history.specs.Logs.{Kept}
use Rattle.history.proofs.Logs.{kept_fit, kept_live, arena_now, boot_now}
use Rattle.history.specs.Judged.{clear_front, clear_back, clear_append}
use Rattle.history.specs.HeldLists.{AllOf, clear_own, live_clear, clear_live}

-- ---- the arena

one_health : (w : World) (e : Event) → length (after_event w e).health ≡ length w.health
one_health w attempt_begun = refl
one_health w boundary_run = refl
one_health w yielded = refl
one_health w spun = refl
one_health w step_dropped = refl
one_health w (took a c s) = refl
one_health w (released a c s) = refl
one_health w (waiters_set c n) = refl
one_health w (health_set i n) = length-set w.health i n
one_health w (held_all_lem m) = refl
one_health w (added m c v) = refl

health_now : (w : World) (es : List Event) → length (now w es).health ≡ length w.health
health_now w [] = refl
health_now w (e ∷ es) = health_now (after_event w e) es ∙ one_health w e

module _ {w v : World} {es : List Event} (held : List ℕ) (k : Kept w (In (holds_of held)) v es) where
  shape_fit : not (shape_fits w.head (length w.table)) ≡ false → Fit w
  shape_fit e = record { shape = shaped w.head (length w.table) (not-false _ e) }

  pub shape_on : not (shape_fits w.head (length w.table)) ≡ false → not (shape_fits v.head (length v.table)) ≡ false
  shape_on e = ap not (fits v.head (length v.table) (kept_fit (shape_fit e) k).shape)

  pub health_on_lem : not (health_fits w.head (length w.health)) ≡ false → not (health_fits v.head (length v.health)) ≡ false
  unfolding health_fits
  health_on_lem e =
      let bytes : length v.health ≡ length w.health = ap (λ (x : World). length x.health) k.leads ∙ health_now w es in
      let headers : v.head.headers ≡ w.head.headers = ap (λ (x : World). x.head.headers) k.leads ∙ ap (λ (h : Head). h.headers) (arena_now w es) in
      rw (bytes, headers) e

  pub same_boot : v.head.boot ≡ w.head.boot
  same_boot = ap (λ (x : World). x.head.boot) k.leads ∙ boot_now w es

  held_on : Fit w → Clear (not_live w.head w.table 0 (leases_of held)) → Clear (not_live v.head v.table 0 (leases_of held))
  held_on g c =
      live_clear v.head v.table held (rw same_boot (clear_own w.head w.table 0 (leases_of held) c))
      (λ l i. kept_live g k l i (clear_live w.head w.table held c l i))

  script_on : (script : List ℕ) (place p : ℕ) → p ≤ steps_in script → (bad_script script place).applies ≡ false → (bad_script script p).applies ≡ false
  script_on script place p inside e =
      let a = neither (not (eqb (length script % 3) 0) || ltb 32768 (steps_in script)) (ltb (steps_in script) place) e in
      rw a.0 (le-ltb (steps_in script) p inside)

  -- the checks of a call by key at another place of the script, and of a boundary there
  module _ (registry script : List ℕ) (place p binding : ℕ) (inside : p ≤ steps_in script) where
    pub bucket_on : Clear (bucket_rules w.head w.table w.health registry script place held binding)
        → Clear (bucket_rules v.head v.table v.health registry script p held binding)
    unfolding bucket_rules
    bucket_on c =
        let f = shape_fit c.0 in
        let live = held_on f (clear_front (not_live w.head w.table 0 (leases_of held)) _ c.1.1.1.1.1) in
        let last = clear_back (not_live w.head w.table 0 (leases_of held)) _ c.1.1.1.1.1 in
        (shape_on c.0, (health_on_lem c.1.0, (c.1.1.0, (script_on script place p inside c.1.1.1.0, (c.1.1.1.1.0, clear_append (not_live v.head v.table 0 (leases_of held)) (bad_binding registry 0 binding ∷ []) live last)))))

    pub boundary_on : Clear (bucket_rules w.head w.table w.health registry script place held binding)
        → Clear (script_rules v.head v.table v.health script p held)
    unfolding bucket_rules script_rules
    boundary_on c =
        let f = shape_fit c.0 in
        let live = held_on f (clear_front (not_live w.head w.table 0 (leases_of held)) _ c.1.1.1.1.1) in
        (shape_on c.0, (health_on_lem c.1.0, (script_on script place p inside c.1.1.1.0, (c.1.1.1.1.0, live))))

  -- and multi-lock's
  pub locks_on : (registry script : List ℕ) (place p : ℕ) (keys grants : List ℕ) → p ≤ steps_in script
      → Clear (locks_rules w.head w.table w.health registry script place held keys grants)
      → Clear (locks_rules v.head v.table v.health registry script p held keys grants)
  unfolding locks_rules
  locks_on registry script place p keys grants inside c =
      let live = held_on (shape_fit c.0) (clear_front (not_live w.head w.table 0 (leases_of held)) _ c.1.1.1.1.1) in
      let last = clear_back (not_live w.head w.table 0 (leases_of held)) _ c.1.1.1.1.1 in
      (shape_on c.0, (health_on_lem c.1.0, (c.1.1.0, (script_on script place p inside c.1.1.1.0, (c.1.1.1.1.0, clear_append (not_live v.head v.table 0 (leases_of held)) _ live last)))))

-- multi-lock's checks are those of a call by key, for each of its keys
pub bindings_clear : (left i : ℕ) (registry keys : List ℕ) → Clear (bad_bindings left i registry keys) → (p : ℕ) → i ≤ p → p < i + left → (bad_binding registry 0 (binding_at keys p)).applies ≡ false
unfolding bad_bindings
bindings_clear zero i registry keys c p l m = absurd (omega arith)
bindings_clear (suc left) i registry keys c p l m = go (ℕ_discrete i p) (bindings_clear left (i + 1) registry keys c.1 p)
  where
    go : Dec (i ≡ p) → (i + 1 ≤ p → p < i + 1 + left → (bad_binding registry 0 (binding_at keys p)).applies ≡ false) → (bad_binding registry 0 (binding_at keys p)).applies ≡ false
    go (yes e) r = subst (λ (x : ℕ). (bad_binding registry 0 (binding_at keys x)).applies ≡ false) e c.0
    go (no e) r = r (omega arith) (omega arith)

pub key_passes : (w : World) (registry script : List ℕ) (place : ℕ) (held keys grants : List ℕ) (p : ℕ) → p < count_in keys
    → Clear (locks_rules w.head w.table w.health registry script place held keys grants)
    → Clear (bucket_rules w.head w.table w.health registry script place held (binding_at keys p))
unfolding locks_rules bucket_rules
key_passes w registry script place held keys grants p l c =
    let ls = not_live w.head w.table 0 (leases_of held) in
    let live = clear_front ls _ c.1.1.1.1.1 in
    let rest = clear_back ls _ c.1.1.1.1.1 in
    (c.0, (c.1.0, (c.1.1.0, (c.1.1.1.0, (c.1.1.1.1.0, clear_append ls (bad_binding registry 0 (binding_at keys p) ∷ []) live (bindings_clear (count_in keys) 0 registry keys rest.1 p (omega arith) (omega arith), tt))))))

-- the place of a script that passed lies in it
pub in_script : (script : List ℕ) (place : ℕ) → (bad_script script place).applies ≡ false → place ≤ steps_in script
in_script script place e =
    ltb-false (steps_in script) place (neither (not (eqb (length script % 3) 0) || ltb 32768 (steps_in script)) (ltb (steps_in script) place) e).1

-- ---- leases taken in the call are held behind the caller's

-- a held list that passed has no word left over
pub divides : (held : List ℕ) → (bad_held_length held).applies ≡ false → length held % 3 ≡ 0
divides held e = eqb-true (length held % 3) 0 (not-false _ (neither (is_uneven held) (ltb 64 (lease_count held)) e).0)

pub leases_append : (boot : ℕ) (held : List ℕ) (ls : List Hold) → length held % 3 ≡ 0 → holds_of (held ++ words_of boot ls) ≡ holds_of held ++ ls
unfolding holds_of
leases_append boot [] ls e = words_back boot ls
leases_append boot (c ∷ []) ls e = absurd (omega arith)
leases_append boot (c ∷ s ∷ []) ls e = absurd (omega arith)
leases_append boot (c ∷ s ∷ b ∷ ws) ls e = ap {B = List Hold} (λ ks. hold_of c s ∷ ks) (leases_append boot ws ls (omega arith))

words_own : (boot : ℕ) (ls : List Hold) → AllOf boot (leases_of (words_of boot ls))
unfolding leases_of words_of
words_own boot [] = tt
words_own boot (l ∷ ls) = (refl, words_own boot ls)

own_append : (boot : ℕ) (held : List ℕ) (ls : List Hold) → length held % 3 ≡ 0 → AllOf boot (leases_of held) → AllOf boot (leases_of (held ++ words_of boot ls))
unfolding leases_of
own_append boot [] ls e o = words_own boot ls
own_append boot (c ∷ []) ls e o = absurd (omega arith)
own_append boot (c ∷ s ∷ []) ls e o = absurd (omega arith)
own_append boot (c ∷ s ∷ b ∷ ws) ls e o = (o.0, own_append boot ws ls (omega arith) o.1)

-- the checks of a call by key, holding leases besides that are live and not too many
pub holding_more : (w : World) (registry script : List ℕ) (place : ℕ) (held : List ℕ) (binding : ℕ) (ls : List Hold) → lease_count held + length ls ≤ 64
    → ((l : Hold) → In ls l → is_live w.head.next (cells_of w.head) w.table l ≡ true)
    → Clear (bucket_rules w.head w.table w.health registry script place held binding)
    → Clear (bucket_rules w.head w.table w.health registry script place (held ++ words_of w.head.boot ls) binding)
unfolding bucket_rules
holding_more w registry script place held binding ls few live c =
    let old = not_live w.head w.table 0 (leases_of held) in
    let passed = clear_front old _ c.1.1.1.1.1 in
    let front = clear_live w.head w.table held passed in
    let last = clear_back old _ c.1.1.1.1.1 in
    let whole = divides held c.1.1.1.1.0 in
    let more = held ++ words_of w.head.boot ls in
    let many : length more ≡ length held + 3 * length ls = omega (arith, length-append held (words_of w.head.boot ls), length_words w.head.boot ls) in
    let fits : (bad_held_length more).applies ≡ false
    = rw (many, eq-eqb ((length held + 3 * length ls) % 3) 0 (omega arith)) (le-ltb 64 ((length held + 3 * length ls) / 3) (omega arith)) in
    let all = live_clear w.head w.table more (own_append w.head.boot held ls whole (clear_own w.head w.table 0 (leases_of held) passed))
    (λ l i. elim (in_either l (holds_of held) ls (subst (λ (ks : List Hold). In ks l) (leases_append w.head.boot held ls whole) i)) [ inl j ↦ front l j | inr j ↦ live l j ]) in
    (c.0, (c.1.0, (c.1.1.0, (c.1.1.1.0, (fits, clear_append (not_live w.head w.table 0 (leases_of more)) (bad_binding registry 0 binding ∷ []) all last)))))
