-- Keys that are free past the script's end: each is granted at its first attempt.
use Rattle.std.specs.Prelude.{ℕ, ◌+◌, ◌*◌, ◌-◌, ◌≤◌, ◌<◌, ◌≡◌, refl, List, [], ◌∷◌, Bool, true, false, ◌&&◌, leb, eqb, get_or, length, set, if◌then◌else◌, Ok}
use Rattle.std.proofs.Common.{sym, ap, ◌∙◌, arith, length-set, leb-false, ltb-true}
use Rattle.choice.specs.Pick.{both}
use Rattle.model.specs.Arena.{cell_number, is_poisoned, bit_at, owner_at, waiters_at, set_cell, is_free, state_of, state_at, serial_remains, last_serial, hold_of}
use Rattle.model.specs.Foreign.{Setting, flow_of, steps_in, protecting}
use Rattle.model.specs.Lock.{take_of, run_of, tried_of, find_of, none_yet, retry_of, binding_at, bucket_at, locks_of}
use Rattle.types.specs.declared.Hold.{Hold}
use Rattle.types.specs.declared.Outcome.TheVariants as outcome
use Rattle.types.specs.declared.Run.{Run}
use Rattle.types.specs.declared.Tried.{Tried}
use Rattle.laws.specs.Keys.{place_inside}
use Rattle.laws.specs.Words.{length_set_cell}
use Rattle.foreign.specs.declared.Scope.{Scope}
use Rattle.foreign.specs.Model.{pairs_of, in_scope}
use Rattle.lock.specs.Model.{quiet_lock_of}
use Rattle.bucket.specs.Bounds.{key_most}
use Rattle.bucket.specs.Laws.{RunBound}
use Rattle.bucket.specs.Model.{Fit}
use Rattle.bucket.specs.Quiet.{quiet_attempt_of, quiet_retry_of, retry_quiet, wait_at}
use Rattle.multilock.specs.Locks.{Bound, locks_at, pairs_push, inside_push}

-- ---- what free means here

-- an attempt gets the cell: nobody waits, it is free, and a serial remains
unfoldable pub is_open_at : ℕ → List ℕ → ℕ → Bool
is_open_at next t c = eqb (waiters_at t c) 0 && (is_free (bit_at t c) (owner_at t c) && serial_remains next)

-- an attempt by key gets one: it leads to a cell, and gets that
unfoldable pub is_open : ℕ → ℕ → ℕ → List ℕ → List ℕ → ℕ → ℕ → Bool
is_open headers buckets next t g header bucket =
    if leb headers header then false
    else if is_poisoned g header then false
    else if leb buckets bucket then false
    else is_open_at next t (cell_number buckets header bucket)

passed : (b x : Bool) → (if b then false else x) ≡ true → (b ≡ false) × (x ≡ true)
passed true x e = (let z : false ≡ true = e in cc, cc)
passed false x e = (refl, e)

-- what that says, test by test
record Open (headers buckets next : ℕ) (t g : List ℕ) (header bucket : ℕ) : Type 0 where
  pub there : leb headers header ≡ false
  pub healthy : is_poisoned g header ≡ false
  pub in_range : leb buckets bucket ≡ false
  pub unwaited : eqb (waiters_at t (cell_number buckets header bucket)) 0 ≡ true
  pub free : is_free (bit_at t (cell_number buckets header bucket)) (owner_at t (cell_number buckets header bucket)) ≡ true
  pub remains : serial_remains next ≡ true

opened : (headers buckets next : ℕ) (t g : List ℕ) (header bucket : ℕ) → is_open headers buckets next t g header bucket ≡ true → Open headers buckets next t g header bucket
unfolding is_open is_open_at
opened headers buckets next t g header bucket e =
    let c = cell_number buckets header bucket in
    let x = passed (leb headers header) _ e in
    let y = passed (is_poisoned g header) _ x.1 in
    let z = passed (leb buckets bucket) _ y.1 in
    let w = both (eqb (waiters_at t c) 0) (is_free (bit_at t c) (owner_at t c) && serial_remains next) z.1 in
    let v = both (is_free (bit_at t c) (owner_at t c)) (serial_remains next) w.1 in
    record { there = x.0; healthy = y.0; in_range = z.0; unwaited = w.0; free = v.0; remains = v.1 }

-- ---- one key

-- what the attempt comes to
abbrev free_tried : Run → ℕ → Tried
free_tried r c = tried_of (run_of (flow_of (r.flow.next + 1) r.flow.place r.flow.dropped) (r.attempts + 1) (r.boundaries + 3) r.yields) (outcome.Granted (hold_of c r.flow.next))

-- past the script's end: one attempt on the cell, and all of them
module _ (c : ℕ) (r : Run) (t : List ℕ) (unwaited : eqb (waiters_at t c) 0 ≡ true) (free : is_free (bit_at t c) (owner_at t c) ≡ true) (remains : serial_remains r.flow.next ≡ true) where
  free_attempt : quiet_attempt_of r t c ≡ (free_tried r c, set_cell t c 1 r.flow.next)
  unfolding quiet_attempt_of quiet_lock_of take_of state_at state_of
  free_attempt = rw (unwaited, free, remains)

  free_retry : (n : ℕ) → 1 ≤ n → quiet_retry_of n 0 none_yet r t c ≡ (free_tried r c, set_cell t c 1 r.flow.next)
  free_retry n l =
      let z : n - 0 ≡ n = omega arith in
      ap (λ k. quiet_retry_of k 0 none_yet r t c) (sym z) ∙ wait_at n 0 none_yet r t c (free_tried r c, set_cell t c 1 r.flow.next) (sym free_attempt) l

-- the health is left alone
abbrev beside : List ℕ → Tried × List ℕ → Tried × (List ℕ × List ℕ)
beside g k = (k.0, (k.1, g))

module _ (e : Setting) (buckets : ℕ) (registry : List ℕ) (binding bucket : ℕ) (r : Run) (t g : List ℕ)
    (past : steps_in e.script ≤ r.flow.place) (o : Open e.headers buckets r.flow.next t g (get_or registry binding 0) bucket) where
  open_found : find_of e.headers buckets g registry binding bucket ≡ Ok (cell_number buckets (get_or registry binding 0) bucket)
  unfolding find_of
  open_found = rw (o.there, o.healthy, o.in_range)

  -- all its attempts are the first
  open_retry : (n : ℕ) → 1 ≤ n → (retry_of n 0 none_yet e buckets registry binding bucket r t g).seen
      ≡ (free_tried r (cell_number buckets (get_or registry binding 0) bucket), (set_cell t (cell_number buckets (get_or registry binding 0) bucket) 1 r.flow.next, g))
  open_retry n l =
      let c = cell_number buckets (get_or registry binding 0) bucket in
      retry_quiet e buckets g registry binding bucket n (Ok c) r t l (sym open_found) past
      ∙ ap (beside g) (free_retry c r t o.unwaited o.free o.remains n l)

-- ---- the first keys

-- the run after p of them
abbrev pub freed_run : Run → ℕ → Run
freed_run r p = run_of (flow_of (r.flow.next + p) r.flow.place r.flow.dropped) (r.attempts + p) (r.boundaries + 3 * p) r.yields

freed_none : (r : Run) → freed_run r 0 ≡ r
freed_none r =
    let x : r.flow.next + 0 ≡ r.flow.next = omega arith in
    let y : r.attempts + 0 ≡ r.attempts = omega arith in
    let z : r.boundaries + 3 * 0 ≡ r.boundaries = omega arith in
    rw (x, y, z)

freed_one : (r : Run) (p c : ℕ) → (free_tried (freed_run r p) c).run ≡ freed_run r (p + 1)
freed_one r p c =
    let x : r.flow.next + p + 1 ≡ r.flow.next + (p + 1) = omega arith in
    let y : r.attempts + p + 1 ≡ r.attempts + (p + 1) = omega arith in
    let z : r.boundaries + 3 * p + 3 ≡ r.boundaries + 3 * (p + 1) = omega arith in
    rw (x, y, z)

pub freed_bound : (steps : ℕ) (r : Run) (p : ℕ) → RunBound steps 0 r → RunBound steps (key_most * p) (freed_run r p)
freed_bound steps r p b =
    record {
      flow_bound = record { few = b.flow_bound.few; in_script = b.flow_bound.in_script };
      few_attempts = omega (arith, b.few_attempts);
      few_boundaries = omega (arith, b.few_boundaries);
      few_yields = omega (arith, b.few_yields);
    }

-- what they are given
pub record FreeFits (s : Scope) (words bytes : ℕ) : Type 0 where
  pub words_fit : 3 * s.cells ≤ words
  pub fit : Fit s.headers s.buckets bytes
  pub cells_are : s.cells ≡ s.headers * s.buckets

pub record KeysFit (n : ℕ) (registry keys : List ℕ) : Type 0 where
  pub few : n ≤ 64
  pub there : 2 * n ≤ length keys
  pub bound : (i : ℕ) → 2 * i + 1 < length keys → binding_at keys i < length registry

pub bound_free : (s : Scope) (words bytes script : ℕ) (registry keys : List ℕ) → Bound s words bytes script registry keys → FreeFits s words bytes
bound_free s words bytes script registry keys b = record { words_fit = b.key.room.words_fit; fit = b.key.fit; cells_are = b.key.cells_are }

-- lengths do not change
pub free_for : {s : Scope} {words words₀ bytes : ℕ} → words ≡ words₀ → FreeFits s words₀ bytes → FreeFits s words bytes
free_for q b = rw q b

-- an open key's cell is in range
pub open_inside : (s : Scope) (words bytes next : ℕ) (t g : List ℕ) (header bucket : ℕ) → FreeFits s words bytes
    → is_open s.headers s.buckets next t g header bucket ≡ true → cell_number s.buckets header bucket < s.cells
open_inside s words bytes next t g header bucket b e =
    let o = opened s.headers s.buckets next t g header bucket e in
    omega (arith, b.cells_are, place_inside s.headers s.buckets header bucket (leb-false _ _ o.there) (leb-false _ _ o.in_range))

-- and a serial is left for it
pub open_remains : (headers buckets next : ℕ) (t g : List ℕ) (header bucket : ℕ) → is_open headers buckets next t g header bucket ≡ true → next < last_serial
open_remains headers buckets next t g header bucket e = ltb-true next last_serial (opened headers buckets next t g header bucket e).remains

-- p of them are noted
pub record Noted (s : Scope) (next n : ℕ) (t₀ : List ℕ) (p : ℕ) (a : List (List ℕ)) (t : List ℕ) : Type 0 where
  pub few : p ≤ n
  pub serials : next + p ≤ last_serial
  pub words : length t ≡ length t₀
  pub size : length a ≡ 64
  pub inside : (i : ℕ) → i < p → get_or (get_or a i []) 0 0 < s.cells

-- what is left of multi-lock from there on is what the whole comes to
abbrev pub Rest : Scope → List ℕ → List Hold → List ℕ → Run → ℕ → List ℕ → List ℕ → List ℕ → List ℕ → ℕ → List (List ℕ) → List ℕ → Type 0
Rest s script ps grants r n registry keys t₀ g p a t =
    (locks_of (n - p) p (in_scope s script ps) s.buckets s.boot registry keys (pairs_of p 0 a) (freed_run r p) t g grants).seen
    ≡ (locks_of n 0 (in_scope s script ps) s.buckets s.boot registry keys [] r t₀ g grants).seen

-- with any script that ends at the place or before it
pub record Freed (s : Scope) (next n : ℕ) (registry keys t₀ g : List ℕ) (p : ℕ) (a : List (List ℕ)) (t : List ℕ) : Type 0 where
  pub noted : Noted s next n t₀ p a t
  pub rest : (script : List ℕ) (ps : List Hold) (grants : List ℕ) (r : Run) → r.flow.next ≡ next → steps_in script ≤ r.flow.place
      → Rest s script ps grants r n registry keys t₀ g p a t

-- with the call's own
pub record Begun (s : Scope) (r : Run) (n : ℕ) (registry keys t₀ g : List ℕ) (p : ℕ) (a : List (List ℕ)) (t : List ℕ) : Type 0 where
  pub noted : Noted s r.flow.next n t₀ p a t
  pub rest : (script : List ℕ) (ps : List Hold) (grants : List ℕ) → s.steps ≡ steps_in script → Rest s script ps grants r n registry keys t₀ g p a t

none_noted : (s : Scope) (next n : ℕ) (t : List ℕ) (a : List (List ℕ)) → next ≤ last_serial → length a ≡ 64 → Noted s next n t 0 a t
none_noted s next n t a l k = record { few = omega arith; serials = omega arith; words = refl; size = k; inside = λ i h. absurd (omega arith) }

rest_none : (s : Scope) (script : List ℕ) (ps : List Hold) (grants : List ℕ) (r : Run) (n : ℕ) (registry keys t g : List ℕ) (a : List (List ℕ)) → Rest s script ps grants r n registry keys t g 0 a t
unfolding pairs_of
rest_none s script ps grants r n registry keys t g a = let z : n - 0 ≡ n = omega arith in rw (z, freed_none r)

pub none_freed : (s : Scope) (next n : ℕ) (registry keys t g : List ℕ) (a : List (List ℕ)) → next ≤ last_serial → length a ≡ 64 → Freed s next n registry keys t g 0 a t
none_freed s next n registry keys t g a l k = record { noted = none_noted s next n t a l k; rest = λ script ps grants r e h. rest_none s script ps grants r n registry keys t g a }

pub none_begun : (s : Scope) (r : Run) (n : ℕ) (registry keys t g : List ℕ) (a : List (List ℕ)) → r.flow.next ≤ last_serial → length a ≡ 64 → Begun s r n registry keys t g 0 a t
none_begun s r n registry keys t g a l k = record { noted = none_noted s r.flow.next n t a l k; rest = λ script ps grants e. rest_none s script ps grants r n registry keys t g a }

-- one more
module _ (s : Scope) (words bytes : ℕ) (fits : FreeFits s words bytes) (next n : ℕ) (registry keys t₀ g : List ℕ) (p : ℕ) (a : List (List ℕ)) (t : List ℕ) where
  abbrev cell : ℕ
  cell = cell_number s.buckets (get_or registry (binding_at keys p) 0) (bucket_at keys p)

  rest_more : (script : List ℕ) (ps : List Hold) (grants : List ℕ) (r : Run) → steps_in script ≤ r.flow.place → p < n → p < length a
      → is_open s.headers s.buckets (r.flow.next + p) t g (get_or registry (binding_at keys p) 0) (bucket_at keys p) ≡ true
      → Rest s script ps grants r n registry keys t₀ g p a t
      → Rest s script ps grants r n registry keys t₀ g (p + 1) (set a p (cell ∷ (r.flow.next + p) ∷ [])) (set_cell t cell 1 (r.flow.next + p))
  rest_more script ps grants r past l k q f =
      let e = in_scope s script ps in
      let o = opened s.headers s.buckets (r.flow.next + p) t g (get_or registry (binding_at keys p) 0) (bucket_at keys p) q in
      rw (pairs_push p a cell (r.flow.next + p) k, ← freed_one r p cell)
      (sym (locks_at n p e s.buckets s.boot registry keys (pairs_of p 0 a) (freed_run r p) t g grants (free_tried (freed_run r p) cell, (set_cell t cell 1 (r.flow.next + p), g)) (outcome.Granted (hold_of cell (r.flow.next + p)))
      (sym (open_retry (protecting e (pairs_of p 0 a)) s.buckets registry (binding_at keys p) (bucket_at keys p) (freed_run r p) t g past o 4096 (omega arith))) refl l)
      ∙ f)

  pub freed_more : (serial : ℕ) → serial ≡ next + p → p < n → n ≤ 64
      → is_open s.headers s.buckets serial t g (get_or registry (binding_at keys p) 0) (bucket_at keys p) ≡ true
      → Freed s next n registry keys t₀ g p a t → Freed s next n registry keys t₀ g (p + 1) (set a p (cell ∷ serial ∷ [])) (set_cell t cell 1 serial)
  freed_more serial w l m q f =
      let k : p < length a = omega (arith, f.noted.size) in
      record {
        noted = record {
          few = omega arith;
          serials = omega (arith, open_remains _ _ _ _ _ _ _ q);
          words = length_set_cell t cell 1 serial ∙ f.noted.words;
          size = length-set a p (cell ∷ serial ∷ []) ∙ f.noted.size;
          inside = inside_push a p cell serial s.cells k (open_inside s words bytes serial t g (get_or registry (binding_at keys p) 0) (bucket_at keys p) fits q) f.noted.inside;
        };
        rest = λ script ps grants r e past. let v : serial ≡ r.flow.next + p = omega arith in rw v (rest_more script ps grants r past l k (rw v at q) (f.rest script ps grants r e past));
      }
