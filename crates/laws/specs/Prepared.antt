-- Theorems on preparing, about the definition that `prepare` is proved to equal.
use Rattle.std.specs.Prelude.{ℕ, ◌*◌, ◌≡◌, List, Bool, true, false, ◌&&◌, ◌↔◌, length, replicate, if◌then◌else◌}
use Rattle.std.proofs.Math.Path.{refl}
use Rattle.std.proofs.Common.{sym, ap, ◌∙◌}
use Rattle.model.specs.Arena.{head_of, head_fits, shape_fits, health_fits}
use Rattle.model.specs.Refusals.{first}
use Rattle.model.specs.Checks.{prepare_rules}
use Rattle.model.specs.Calls.{replied, refused, prepare_of}
use Rattle.types.specs.declared.Answer.{Answer}
use Rattle.types.specs.declared.Answer.TheVariants.{Done, Refused}
use Rattle.types.specs.declared.Head.{Head}
use Rattle.types.specs.declared.Refusal.{Refusal}
use Rattle.types.specs.declared.Refusal.TheVariants.{BadShape}
use Rattle.types.specs.declared.Reply.{Reply}
use Rattle.laws.specs.Shape.{shaped, healthy}

-- what comes of a preparation: its reply, the table, the health
abbrev pub Outcome : Type 0
Outcome = Reply × (List ℕ × List ℕ)

-- prepared: the head asked for, and nothing but zeros
abbrev pub cleared : ℕ → ℕ → ℕ → ℕ → Outcome
cleared headers buckets serial boot =
    (replied (head_of headers buckets serial boot) 0 Done, (replicate (3 * (headers * buckets)) 0, replicate headers 0))

-- refused: a head of four zeros, and the lent words as they were
abbrev pub unchanged : List ℕ → List ℕ → Outcome
unchanged t g = (refused (head_of 0 0 0 0) BadShape, (t, g))

module _ (headers buckets serial boot : ℕ) (t g : List ℕ) where
  abbrev pub fits : Bool
  fits = shape_fits (head_of headers buckets serial boot) (length t) && health_fits (head_of headers buckets serial boot) (length g)

  -- one of the two comes of it, and the arena's rules tell which
  pub prepare_is : (prepare_of headers buckets serial boot t g).seen ≡ (if fits then cleared headers buckets serial boot else unchanged t g)
  unfolding prepare_of prepare_rules first
  prepare_is = go (shape_fits h (length t)) (health_fits h (length g)) refl refl
    where
      h : Head
      h = head_of headers buckets serial boot

      go : (a b : Bool) → shape_fits h (length t) ≡ a → health_fits h (length g) ≡ b
          → (prepare_of headers buckets serial boot t g).seen ≡ (if a && b then cleared headers buckets serial boot else unchanged t g)
      go true true e f = rw (e, f, (shaped h (length t) e).words_are, healthy h (length g) f)
      go true false e f = rw (e, f)
      go false b e f = rw e

  -- the same as two cases
  pub data Came : Type 0 where
    was_done : fits ≡ true → (prepare_of headers buckets serial boot t g).seen ≡ cleared headers buckets serial boot → Came
    was_refused : fits ≡ false → (prepare_of headers buckets serial boot t g).seen ≡ unchanged t g → Came

  pub came : Came
  came = go fits refl
    where
      go : (b : Bool) → fits ≡ b → Came
      go true e = was_done e (rw e at prepare_is)
      go false e = was_refused e (rw e at prepare_is)

  abbrev pub answer : Answer
  answer = (prepare_of headers buckets serial boot t g).seen.0.answer

  -- it is done exactly if the head and both lengths keep the arena's rules
  pub prepare_exactly : (answer ≡ Done) ↔ (fits ≡ true)
  prepare_exactly = (there came, back came)
    where
      there : Came → answer ≡ Done → fits ≡ true
      there (was_done e p) d = e
      there (was_refused e p) d = let q : Refused BadShape ≡ Done = sym (ap (λ (o : Outcome). o.0.answer) p) ∙ d in cc

      back : Came → fits ≡ true → answer ≡ Done
      back (was_done e p) f = ap (λ (o : Outcome). o.0.answer) p
      back (was_refused e p) f = let z : false ≡ true = sym e ∙ f in cc

  -- "sets every table word and health byte to 0"
  pub prepare_done : answer ≡ Done → (prepare_of headers buckets serial boot t g).seen ≡ cleared headers buckets serial boot
  prepare_done d = go came
    where
      go : Came → (prepare_of headers buckets serial boot t g).seen ≡ cleared headers buckets serial boot
      go (was_done e p) = p
      go (was_refused e p) = let q : Refused BadShape ≡ Done = sym (ap (λ (o : Outcome). o.0.answer) p) ∙ d in cc

  -- "A refused preparation changes no lent word, hands back a head of three zeros" (document 02, L8: four); there is one refusal only
  pub prepare_refused : (r : Refusal) → answer ≡ Refused r → (r ≡ BadShape) × ((prepare_of headers buckets serial boot t g).seen ≡ unchanged t g)
  prepare_refused r d = go came
    where
      go : Came → (r ≡ BadShape) × ((prepare_of headers buckets serial boot t g).seen ≡ unchanged t g)
      go (was_done e p) =
          let q : Done ≡ Refused r = sym (ap (λ (o : Outcome). o.0.answer) p) ∙ d in
          let z : false ≡ true = cc in
          (cc, cc)
      go (was_refused e p) =
          let q : Refused BadShape ≡ Refused r = sym (ap (λ (o : Outcome). o.0.answer) p) ∙ d in
          (cc, p)

-- "Two arenas that differed before are equal after the same preparation."
pub prepare_forgets : (headers buckets serial boot : ℕ) (t g t' g' : List ℕ)
    → answer headers buckets serial boot t g ≡ Done → answer headers buckets serial boot t' g' ≡ Done
    → (prepare_of headers buckets serial boot t g).seen ≡ (prepare_of headers buckets serial boot t' g').seen
prepare_forgets headers buckets serial boot t g t' g' d d' = prepare_done headers buckets serial boot t g d ∙ sym (prepare_done headers buckets serial boot t' g' d')

-- and of two that have the same lengths both are prepared or none
pub prepare_alike : (headers buckets serial boot : ℕ) (t g t' g' : List ℕ) → length t ≡ length t' → length g ≡ length g'
    → answer headers buckets serial boot t g ≡ Done → answer headers buckets serial boot t' g' ≡ Done
prepare_alike headers buckets serial boot t g t' g' p q d =
    (prepare_exactly headers buckets serial boot t' g').1 (rw (← p, ← q) ((prepare_exactly headers buckets serial boot t g).0 d))

-- it can be met: the bench's arena, prepared over two tables of rubbish
pub prepare_example : (prepare_of 2 4 1 5 (replicate 24 7) (replicate 2 7)).seen ≡ (prepare_of 2 4 1 5 (replicate 24 4_294_967_295) (replicate 2 255)).seen
unfolding prepare_of prepare_rules first shape_fits head_fits health_fits
prepare_example = refl
