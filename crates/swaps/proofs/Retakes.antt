-- Lists of steps with takes exchanged too, any number of them: equal up to a renaming of the serials that the list issued.
use Rattle.std.specs.Prelude.{ℕ, ◌+◌, ◌≤◌, ◌<◌, ◌≡◌, Bool, true, false, ◌&&◌, ◌≢◌, ltb, leb, if◌then◌else◌}
use Rattle.std.proofs.Math.Path.{refl, sym, ap}
use Rattle.std.proofs.Common.{◌∙◌, subst, arith}
use mathlib.Core.List.{List, [], ◌∷◌}
use Rattle.std.proofs.Math.Decide.{ℕ_discrete, dec_lt}
use Rattle.std.proofs.Math.Dec.{eqb}
use borrow.Author.Tests.{eqb-true, eq-eqb, ltb-true}
use Rattle.choice.specs.Pick.{same_truth}
use Rattle.model.specs.Log.{Event, by_script, took, released}
use Rattle.model.specs.Arena.{hold_of, cells_of, bit_at, owner_at, is_free, is_live, is_in, same_hold, serial_remains}
use Rattle.types.specs.declared.Head.{Head}
use Rattle.types.specs.declared.Hold.{Hold}
use Rattle.history.specs.World.{World, cells, after_event}
use Rattle.history.specs.Tests.{alive, live}
use Rattle.swaps.specs.Steps.{Step, step_words, take_step, leaves, dropped, after_all, dropped_in}
use Rattle.swaps.specs.Renaming.{Serials, flip, renamed, renamed_step, renamed_steps, Retaken, same, neighbours, two_takes, idle_take, behind, onward, Older}
use Rattle.swaps.specs.Statements.{BothLegal, Swapped, StepsRetaken, LiveOlder}
use Rattle.swaps.specs.Fine.{Fine, fine}
use Rattle.swaps.specs.Acts.{Act, idle, never, takes, frees, waits, heals, legal, event, settle, missed, read}
use Rattle.swaps.proofs.Acts.{acted, is_legal, leaves_is, dropped_is, fine_leaves, swapped, takes_both_ways, idle_take_swap}
use Rattle.swaps.proofs.Lists.{fine_all}
use Rattle.swaps.specs.Owners.{Renamed}
use Rattle.swaps.proofs.Owners.{into, follow, weaker, grows, identity, composed, unrenamed, onto, one_table, flips, takes_renamed}
use Rattle.swaps.specs.Retakes.{renamed_act, RenamedSteps}

module _ {old next : ℕ} {to back : ℕ → ℕ} (z : Serials old next to back) where
  in_renamed : (c s : ℕ) (ps : List Hold) → Older old ps → is_in (hold_of c (to s)) ps ≡ is_in (hold_of c s) ps
  unfolding is_in same_hold
  in_renamed c s [] o = refl
  in_renamed c s (l ∷ ls) o = rw (same, in_renamed c s ls o.1)
    where
      same : eqb l.serial (to s) ≡ eqb l.serial s
      same =
          same_truth (eqb l.serial (to s)) (eqb l.serial s)
          (λ e. eq-eqb l.serial s (into z l.serial s (z.old_stay l.serial o.0 ∙ eqb-true l.serial (to s) e)))
          (λ e. eq-eqb l.serial (to s) (sym (z.old_stay l.serial o.0) ∙ ap to (eqb-true l.serial s e)))

-- a renamed lease is live in the renamed world exactly if the lease is live
live_renamed : {old : ℕ} {to back : ℕ → ℕ} (w v : World) (c s : ℕ) → Fine w → Serials old w.head.next to back → 1 ≤ old → Renamed to w v
    → is_live v.head.next (cells v) v.table (hold_of c (to s)) ≡ is_live w.head.next (cells w) w.table (hold_of c s)
live_renamed {old} {to} {back} w v c s f z o r =
    same_truth (is_live v.head.next (cells v) v.table (hold_of c (to s))) (is_live w.head.next (cells w) w.table (hold_of c s)) back_way
    (λ l. (follow w v (released by_script c s) f z o r l).0)
  where
    back_way : is_live v.head.next (cells v) v.table (hold_of c (to s)) ≡ true → is_live w.head.next (cells w) w.table (hold_of c s) ≡ true
    back_way l =
        let x = alive v.head.next (cells v) v.table (hold_of c (to s)) l in
        let i : c < cells w = subst (λ (h : Head). c < cells_of h) r.head x.in_range in
        let zero_stays : to 0 ≡ 0 = z.old_stay 0 (omega arith) in
        live w.head.next (cells w) w.table (hold_of c s)
        (record {
          in_range = i;
          bit_is = sym (r.bits c i) ∙ x.bit_is;
          owner_is = into z (owner_at w.table c) s (sym (r.owners c i) ∙ x.owner_is);
          low = positive_back x.low;
          high = below x.high;
        })
      where
        positive_back : 1 ≤ to s → 1 ≤ s
        positive_back p = go (ℕ_discrete s 0)
          where
            go : Dec (s ≡ 0) → 1 ≤ s
            go (yes e) = absurd (omega (arith, ap to e, z.old_stay 0 (omega arith)))
            go (no e) = omega arith

        below : to s < v.head.next → s < w.head.next
        below p = go (dec_lt s w.head.next)
          where
            go : Dec (s < w.head.next) → s < w.head.next
            go (yes k) = k
            go (no k) = absurd (omega (arith, z.new_stay s (omega arith), ap (λ (h : Head). h.next) r.head))

module _ {old : ℕ} {to back : ℕ → ℕ} (ps : List Hold) (w v : World) (f : Fine w) (z : Serials old w.head.next to back) (o : 1 ≤ old) (r : Renamed to w v) (y : Older old ps) where
  free_renamed : (c : ℕ) → (ltb c (cells w) && is_free (bit_at v.table c) (owner_at v.table c)) ≡ (ltb c (cells w) && is_free (bit_at w.table c) (owner_at w.table c))
  unfolding is_free
  free_renamed c = go (ltb c (cells w)) refl
    where
      owner : (i : c < cells w) → eqb (owner_at v.table c) 0 ≡ eqb (owner_at w.table c) 0
      owner i =
          same_truth (eqb (owner_at v.table c) 0) (eqb (owner_at w.table c) 0)
          (λ e. eq-eqb (owner_at w.table c) 0 (into z (owner_at w.table c) 0 (sym (r.owners c i) ∙ eqb-true (owner_at v.table c) 0 e ∙ sym (z.old_stay 0 (omega arith)))))
          (λ e. eq-eqb (owner_at v.table c) 0 (r.owners c i ∙ ap to (eqb-true (owner_at w.table c) 0 e) ∙ z.old_stay 0 (omega arith)))

      go : (b : Bool) → ltb c (cells w) ≡ b
          → (b && (eqb (bit_at v.table c) 0 && eqb (owner_at v.table c) 0)) ≡ (b && (eqb (bit_at w.table c) 0 && eqb (owner_at w.table c) 0))
      go true e = let i = ltb-true c (cells w) e in rw (r.bits c i, owner i)
      go false e = refl

  -- the renamed step is dropped exactly if the step is
  legal_renamed : (a : Act) → legal ps v (renamed_act to a) ≡ legal ps w a
  legal_renamed idle = refl
  legal_renamed never = refl
  legal_renamed (takes c) =
      ap (λ (h : Head). ltb c (cells_of h) && is_free (bit_at v.table c) (owner_at v.table c) && serial_remains h.next) r.head
      ∙ ap (λ (b : Bool). b && serial_remains w.head.next) (free_renamed c)
  legal_renamed (frees c s) = rw (live_renamed w v c s f z o r, in_renamed z c s ps y)
  legal_renamed (waits c n) = ap (λ (h : Head). ltb c (cells_of h)) r.head
  legal_renamed (heals i n) = ap (λ (h : Head). ltb i h.headers && leb n 1) r.head

  event_renamed : (a : Act) → event v (renamed_act to a) ≡ renamed to (event w a)
  event_renamed idle = refl
  event_renamed never = refl
  event_renamed (takes c) = ap (λ (h : Head). took by_script c h.next) r.head
  event_renamed (frees c s) = refl
  event_renamed (waits c n) = refl
  event_renamed (heals i n) = refl

  -- and the worlds left differ by the same renaming
  acted_renamed : (a : Act) → Renamed to (acted ps w a) (acted ps v (renamed_act to a))
  acted_renamed a =
      subst (λ (b : Bool). Renamed to (acted ps w a) (settle b v (event v (renamed_act to a)))) (sym (legal_renamed a))
      (subst (λ (e : Event). Renamed to (acted ps w a) (settle (legal ps w a) v e)) (sym (event_renamed a)) (go (legal ps w a) refl))
    where
      go : (b : Bool) → legal ps w a ≡ b → Renamed to (settle b w (event w a)) (settle b v (renamed to (event w a)))
      go true l = (follow w v (event w a) f z o r (is_legal ps w a l)).1
      go false l = r

-- ---- lists of steps

read_renamed : (to : ℕ → ℕ) (s : Step) → read (renamed_step to s) ≡ renamed_act to (read s)
unfolding read renamed_step
read_renamed to s = go (eqb s.kind 2) refl
  where
    kinds : (b₀ b₁ b₃ b₄ b₅ : Bool)
        → (if b₀ then idle else if b₁ then takes s.place else if b₃ then waits s.place s.number else if b₄ then heals s.place s.number else if b₅ then idle else never)
        ≡ renamed_act to (if b₀ then idle else if b₁ then takes s.place else if b₃ then waits s.place s.number else if b₄ then heals s.place s.number else if b₅ then idle else never)
    kinds true b₁ b₃ b₄ b₅ = refl
    kinds false true b₃ b₄ b₅ = refl
    kinds false false true b₄ b₅ = refl
    kinds false false false true b₅ = refl
    kinds false false false false true = refl
    kinds false false false false false = refl

    go : (b : Bool) → eqb s.kind 2 ≡ b → read (if b then step_words 2 s.place (to s.number) else s) ≡ renamed_act to (read s)
    go true e = rw (eqb-true s.kind 2 e)
    go false e = rw e (kinds (eqb s.kind 0) (eqb s.kind 1) (eqb s.kind 3) (eqb s.kind 4) (eqb s.kind 5))

grows_leaves : (ps : List Hold) (w : World) (s : Step) → w.head.next ≤ (leaves ps w s).head.next
grows_leaves ps w s = subst (λ (v : World). w.head.next ≤ v.head.next) (sym (leaves_is ps w s)) (go (legal ps w (read s)))
  where
    go : (b : Bool) → w.head.next ≤ (settle b w (event w (read s))).head.next
    go true = grows w (event w (read s))
    go false = omega arith

-- the same list in two worlds that differ by a renaming: they go on differing by it, and as many steps are dropped
follow_steps : {old : ℕ} {to back : ℕ → ℕ} (ps : List Hold) (w v : World) (ss : List Step) → Fine w → Serials old w.head.next to back → 1 ≤ old
    → Renamed to w v → Older old ps
    → Renamed to (after_all ps w ss) (after_all ps v (renamed_steps to ss)) × (dropped_in ps v (renamed_steps to ss) ≡ dropped_in ps w ss)
unfolding after_all dropped_in renamed_steps
follow_steps ps w v [] f z o r y = (r, refl)
follow_steps {to = to} ps w v (s ∷ ss) f z o r y =
    let a : acted ps v (renamed_act to (read s)) ≡ leaves ps v (renamed_step to s) =
    ap (acted ps v) (sym (read_renamed to s)) ∙ sym (leaves_is ps v (renamed_step to s)) in
    let b : Renamed to (leaves ps w s) (acted ps v (renamed_act to (read s))) =
    subst (λ (u : World). Renamed to u (acted ps v (renamed_act to (read s)))) (sym (leaves_is ps w s)) (acted_renamed ps w v f z o r y (read s)) in
    let c : Renamed to (leaves ps w s) (leaves ps v (renamed_step to s)) = subst (λ (u : World). Renamed to (leaves ps w s) u) a b in
    let d : dropped ps v (renamed_step to s) ≡ dropped ps w s =
    dropped_is ps v (renamed_step to s) ∙ ap (λ (x : Act). missed (legal ps v x)) (read_renamed to s) ∙ ap missed (legal_renamed ps w v f z o r y (read s)) ∙ sym (dropped_is ps w s) in
    let i = follow_steps ps (leaves ps w s) (leaves ps v (renamed_step to s)) ss (fine_leaves ps w s f) (weaker (omega arith) (grows_leaves ps w s) z) o c y in
    (i.0, omega (arith, i.1))

-- the same world and as many dropped: nothing is renamed
unmoved : (ps : List Hold) (w : World) (ss ts : List Step) → after_all ps w ts ≡ after_all ps w ss → dropped_in ps w ts ≡ dropped_in ps w ss
    → RenamedSteps ps w ss ts
unmoved ps w ss ts e d =
    record { to = λ s. s; back = λ s. s; serials = identity _ _; world = unrenamed (after_all ps w ss) (after_all ps w ts) e; drops = d }

-- two neighbours exchanged that leave the same world
beside : (ps : List Hold) (w : World) (s t : Step) (ss : List Step) → Swapped ps w s t → RenamedSteps ps w (s ∷ t ∷ ss) (t ∷ s ∷ ss)
unfolding after_all dropped_in
beside ps w s t ss x =
    unmoved ps w (s ∷ t ∷ ss) (t ∷ s ∷ ss) (ap (λ (v : World). after_all ps v ss) x.state)
    (omega (arith, x.first_drop, x.second_drop, ap (λ (v : World). dropped_in ps v ss) x.state))

grows_all : (ps : List Hold) (w : World) (ss : List Step) → w.head.next ≤ (after_all ps w ss).head.next
unfolding after_all
grows_all ps w [] = omega arith
grows_all ps w (s ∷ ss) = omega (arith, grows_leaves ps w s, grows_all ps (leaves ps w s) ss)

-- two takes exchanged, and the steps behind them renamed
exchange : (ps : List Hold) (w : World) (c n d m : ℕ) (ss : List Step) → Fine w → c ≢ d → Older w.head.next ps
    → BothLegal ps w (take_step c n) (take_step d m)
    → RenamedSteps ps w (take_step c n ∷ take_step d m ∷ ss) (take_step d m ∷ take_step c n ∷ renamed_steps (flip w.head.next) ss)
unfolding after_all dropped_in
exchange ps w c n d m ss f x y l =
    let k = w.head.next in
    let s = take_step c n in
    let t = take_step d m in
    let b = takes_both_ways ps w c n d m f x l in
    let r : Renamed (flip k) (leaves ps (leaves ps w s) t) (leaves ps (leaves ps w t) s) =
    subst (λ (u : World). Renamed (flip k) u (leaves ps (leaves ps w t) s)) (sym b.one_way)
    (subst (λ (u : World). Renamed (flip k) (after_event (after_event w (took by_script c k)) (took by_script d (k + 1))) u) (sym b.other_way)
    (takes_renamed w by_script by_script c d k f x b.events)) in
    let z : Serials k (leaves ps (leaves ps w s) t).head.next (flip k) (flip k) =
    subst (λ (u : World). Serials k u.head.next (flip k) (flip k)) (sym b.one_way) (flips k) in
    let i = follow_steps ps (leaves ps (leaves ps w s) t) (leaves ps (leaves ps w t) s) ss (fine_leaves ps (leaves ps w s) t (fine_leaves ps w s f)) z f.low r y in
    record {
      to = flip k;
      back = flip k;
      serials = weaker (omega arith) (grows_all ps (leaves ps (leaves ps w s) t) ss) z;
      world = i.0;
      drops = omega (arith, i.1, l.first_legal, l.second_legal, b.exchange.legal.first_legal, b.exchange.legal.second_legal);
    }

-- ---- any number of exchanges

older_still : (m n : ℕ) (ps : List Hold) → m ≤ n → Older m ps → Older n ps
older_still m n [] l y = tt
older_still m n (p ∷ ps) l y = (omega (arith, y.0), older_still m n ps l y.1)

retake : (ps : List Hold) (w : World) {ss ts : List Step} → Fine w → Older w.head.next ps → Retaken ps w ss ts → RenamedSteps ps w ss ts
unfolding after_all dropped_in
retake ps w {ss = ss} f y same = unmoved ps w ss ss refl refl
retake ps w f y (neighbours {s = s} {t = t} {ss = ss} p) = beside ps w s t ss (swapped ps w s t f p)
retake ps w f y (two_takes {c = c} {d = d} {n = n} {m = m} {ss = ss} x p q) = exchange ps w c n d m ss f x y (record { first_legal = p; second_legal = q })
retake ps w f y (idle_take {c = c} {d = d} {n = n} {m = m} {ss = ss} x p) = beside ps w (take_step c n) (take_step d m) ss (idle_take_swap ps w c n d m x p)
retake ps w f y (behind {s = s} r) =
    let g = grows_leaves ps w s in
    let i = retake ps (leaves ps w s) (fine_leaves ps w s f) (older_still w.head.next (leaves ps w s).head.next ps g y) r in
    record { to = i.to; back = i.back; serials = weaker g (omega arith) i.serials; world = i.world; drops = omega (arith, i.drops) }
retake ps w f y (onward {ss = ss} {ts = ts} {us = us} r q) =
    let i = retake ps w f y r in
    let j = retake ps w f y q in
    record {
      to = λ s. j.to (i.to s);
      back = λ s. i.back (j.back s);
      serials = composed i.serials (weaker (omega arith) (omega (arith, ap (λ (h : Head). h.next) i.world.head)) j.serials);
      world = onto (after_all ps w ss) (after_all ps w ts) (after_all ps w us) i.world j.world;
      drops = j.drops ∙ i.drops;
    }

pub live_before : LiveOlder
live_before w [] x = tt
live_before w (l ∷ ls) x = ((alive w.head.next (cells w) w.table l x.0).high, live_before w ls x.1)

pub steps_retake : StepsRetaken
steps_retake ps w ss ts g y r =
    let f = fine w g in
    let x = retake ps w f y r in
    record {
      to = x.to;
      back = x.back;
      serials = x.serials;
      state = one_table x.to (after_all ps w ss) (after_all ps w ts) (fine_all ps w ss f) x.world;
      drops = x.drops;
    }
