-- `release_all`, multi-lock and its rollback: the leases they release are live and different, so releasing one leaves the others live.
use Prim.Native.Nat.{ℕ, zero, suc, ◌+◌, ◌≤◌, ◌<◌}
use Rattle.std.specs.Prelude.{◌≡◌}
use Rattle.std.proofs.Common.{sym, ◌∙◌, arith, length-append}
use Rattle.std.proofs.Math.Path.{ap, subst}
use mathlib.Core.List.{List, [], ◌∷◌, ◌++◌}
use Rattle.std.proofs.Math.Decide.{ℕ_discrete}
use Rattle.std.proofs.Math.ListN.{length, take, get_or-append}
use Rattle.std.proofs.Math.Seq.{take-length, get_or-append_seam}
use Rattle.model.specs.Log.{by_caller, released}
use Rattle.model.specs.Arena.{set_cell}
use Rattle.model.specs.Foreign.{boundary_of}
use Rattle.model.specs.Lock.{run_of, no_hold, hold_at, give_back_of, Locks, rollback_of, after_key, attempt_limit, none_yet, binding_at, bucket_at, retry_of, locks_of}
use Rattle.model.specs.Calls.{given}
use Rattle.types.specs.declared.Head.{Head}
use Rattle.types.specs.declared.Hold.{Hold}
use Rattle.types.specs.declared.Outcome.{Outcome}
use Rattle.types.specs.declared.Refusal.{Refusal}
use Rattle.types.specs.declared.Run.{Run}
use Rattle.laws.specs.Lists.{words_back}
use Rattle.history.specs.World.{World, Live}
use Rattle.history.specs.Statements.{HandsOver}
use Rattle.history.specs.Tests.{In, in_left, in_right, in_take, in_index}
use Rattle.history.specs.Events.{Fit, lives}
use Rattle.history.specs.Logs.{Kept}
use Rattle.history.proofs.Logs.{nothing, event, kept_fit, kept_live, kept_next, weaken, chain, ended}
use Rattle.history.specs.Steps.{world_at, of_run, of_tried, Won, won, none_yet_lem, no_more}
use Rattle.history.proofs.Steps.{Leads, Gains, followed, boundary_kept, retry_kept}
use Rattle.history.specs.Many.{Held, Outside, of_locks, AllLive, Taken, Place, earlier, last}

place : (ls : List Hold) (l : Hold) (i : ℕ) → i < length (ls ++ (l ∷ [])) → Place ls l i
place ls l i k = go (ℕ_discrete i (length ls))
  where
    go : Dec (i ≡ length ls) → Place ls l i
    go (yes e) = last e (rw e (get_or-append_seam ls l [] no_hold))
    go (no e) =
        let b : i < length ls = omega (arith, length-append ls (l ∷ [])) in
        earlier b (get_or-append ls (l ∷ []) no_hold i b)

-- one lease more, with a serial that was not issued when the others were live
pub one_more : {w v : World} {first : ℕ} {ls : List Hold} (l : Hold) → Taken w first ls → ((i : ℕ) → i < length ls → Live v (hold_at ls i))
    → first ≤ w.head.next → Live v l → w.head.next ≤ l.serial → Taken v first (ls ++ (l ∷ []))
one_more {w} {v} {first} {ls} l t still f x n =
    record {
      are_held = record {
        enough = omega arith;
        all_live = λ i k. alive i (place ls l i k);
        distinct = λ i j a b. apart i j (place ls l i a) (place ls l j b);
      };
      young = λ i k. later i (place ls l i k);
    }
  where
    alive : (i : ℕ) → Place ls l i → Live v (hold_at (ls ++ (l ∷ [])) i)
    alive i (earlier a e) = subst (Live v) (sym e) (still i a)
    alive i (last a e) = subst (Live v) (sym e) x

    old : (i : ℕ) → i < length ls → (hold_at ls i).serial < w.head.next
    old i a = (lives w (hold_at ls i) (t.are_held.all_live i a)).high

    serials : (i j : ℕ) → hold_at (ls ++ (l ∷ [])) i ≡ hold_at (ls ++ (l ∷ [])) j → (hold_at (ls ++ (l ∷ [])) i).serial ≡ (hold_at (ls ++ (l ∷ [])) j).serial
    serials i j s = ap (λ (k : Hold). k.serial) s

    apart : (i j : ℕ) → Place ls l i → Place ls l j → hold_at (ls ++ (l ∷ [])) i ≡ hold_at (ls ++ (l ∷ [])) j → i ≡ j
    apart i j (earlier a e) (earlier b f) s = t.are_held.distinct i j a b (sym e ∙ s ∙ f)
    apart i j (earlier a e) (last b f) s = absurd (omega (arith, old i a, ap (λ (k : Hold). k.serial) (sym e ∙ s ∙ f)))
    apart i j (last a e) (earlier b f) s = absurd (omega (arith, old j b, ap (λ (k : Hold). k.serial) (sym e ∙ s ∙ f)))
    apart i j (last a e) (last b f) s = omega arith

    later : (i : ℕ) → Place ls l i → first ≤ (hold_at (ls ++ (l ∷ [])) i).serial
    later i (earlier a e) = omega (arith, t.young i a, ap (λ (k : Hold). k.serial) e)
    later i (last a e) = omega (arith, ap (λ (k : Hold). k.serial) e)

module _ (h : Head) (script : List ℕ) where
  abbrev starts : Run → List ℕ → List ℕ → World
  starts r t g = world_at h r.flow.next t g

  pub give_back_kept : (n : ℕ) (ps ls : List Hold) (r : Run) (t g : List ℕ) → Fit (starts r t g) → Held (starts r t g) n ls
      → Leads (of_run h) (starts r t g) (λ l. In ps l × Outside ls n l) (give_back_of n (given h script ps) ls r t g)
  unfolding give_back_of
  give_back_kept zero ps ls r t g good held = record { kept = nothing }
  give_back_kept (suc n) ps ls r t g good held =
      let w = starts r t g in
      let l = hold_at ls n in
      let u = set_cell t l.cell 0 0 in
      let a : Kept w (λ k. k ≡ l → ⊥) (world_at h r.flow.next u g) (released by_caller l.cell l.serial ∷ []) =
      event (released by_caller l.cell l.serial) (held.all_live n (omega arith)) (λ k p v x. p x) in
      let good' = kept_fit good a in
      let b = (boundary_kept h script (ps ++ take n ls) r.flow u g good').kept in
      let m = (boundary_of (given h script (ps ++ take n ls)) r.flow u g).seen in
      let rest = give_back_kept n ps ls (run_of m.0 r.attempts (r.boundaries + 1) r.yields) m.1.0 m.1.1 (kept_fit good' b)
      (record {
        enough = omega (arith, held.enough);
        all_live = λ i k.
            kept_live good' b (hold_at ls i) (in_right (hold_at ls i) ps (take n ls) (in_take ls n i no_hold k (omega (arith, held.enough))))
            (kept_live good a (hold_at ls i) (λ e. omega (arith, held.distinct i n (omega arith) (omega arith) e)) (held.all_live i (omega arith)));
        distinct = λ i j x y. held.distinct i j (omega arith) (omega arith);
      }) in
      record {
        kept = chain good (weaken (λ k p v e. p.1 n (omega arith) e) a)
            (chain good' (weaken (λ k p v. in_left k ps (take n ls) p.0) b) (weaken (λ k p v. (p.0, λ i x. p.1 i (omega arith))) rest.kept));
      }

  rollback_kept : (ps ls : List Hold) (x : Refusal) (p : ℕ) (r : Run) (t g grants : List ℕ) (first : ℕ) → Fit (starts r t g) → Taken (starts r t g) first ls
      → Gains (of_locks h) (AllLive h) (starts r t g) (λ l. In ps l × (l.serial < first)) (rollback_of (given h script ps) ls x p r t g grants)
  unfolding rollback_of
  rollback_kept ps ls x p r t g grants first good taken =
      let k = give_back_kept (length ls) ps ls r t g good taken.are_held in
      record {
        kept = ended (weaken (λ l q v. (q.0, λ i j e. omega (arith, q.1, taken.young i j, ap (λ (k : Hold). k.serial) e))) k.kept);
        gain = λ l x. absurd x;
      }

  pub locks_kept : (left p : ℕ) (ps taken : List Hold) (registry keys : List ℕ) (r : Run) (t g grants : List ℕ) (first : ℕ)
      → Fit (starts r t g) → first ≤ r.flow.next → Taken (starts r t g) first taken
      → Gains (of_locks h) (AllLive h) (starts r t g) (λ l. In ps l × (l.serial < first)) (locks_of left p (given h script ps) h.buckets h.boot registry keys taken r t g grants)
  unfolding locks_of
  locks_kept zero p ps taken registry keys r t g grants first good f held =
      record {
        kept = nothing;
        gain = λ l i.
            let x = in_index taken l no_hold (subst (λ z. In z l) (words_back h.boot taken) i) in
            subst (Live (starts r t g)) (sym x.2) (held.are_held.all_live x.0 x.1);
      }
  locks_kept (suc left) p ps taken registry keys r t g grants first good f held =
      let k = retry_kept h script attempt_limit 0 none_yet (ps ++ taken) registry (binding_at keys p) (bucket_at keys p) r t g good in
      let m = (retry_of attempt_limit 0 none_yet (given h script (ps ++ taken)) h.buckets registry (binding_at keys p) (bucket_at keys p) r t g).seen in
      let still : (i : ℕ) → i < length taken → Live (of_tried h m) (hold_at taken i) = λ i j.
      kept_live good k.kept (hold_at taken i)
      (in_right (hold_at taken i) ps taken (subst (λ x. In x (hold_at taken i)) (take-length taken) (in_take taken (length taken) i no_hold j j)))
      (held.are_held.all_live i j) in
      let good' = kept_fit good k.kept in
      let later = kept_next k.kept in
      followed good (weaken (λ l q v. in_left l ps taken q.0) k.kept)
      (go m.0.outcome m.0.run m.1.0 m.1.1 good'
      (record { are_held = record { enough = omega arith; all_live = still; distinct = held.are_held.distinct }; young = held.young }) k.gain
      (λ l x i. locks_kept left (p + 1) ps (taken ++ (l ∷ [])) registry keys m.0.run m.1.0 m.1.1 grants first good' (omega arith) (one_more l held still f x i)))
    where
      go : (o : Outcome) (s : Run) (u x : List ℕ) → Fit (starts s u x) → Taken (starts s u x) first taken → Won r.flow.next (starts s u x) o
          → ((l : Hold) → Live (starts s u x) l → r.flow.next ≤ l.serial
          → Gains (of_locks h) (AllLive h) (starts s u x) (λ l. In ps l × (l.serial < first))
          (locks_of left (p + 1) (given h script ps) h.buckets h.boot registry keys (taken ++ (l ∷ [])) s u x grants))
          → Gains (of_locks h) (AllLive h) (starts s u x) (λ l. In ps l × (l.serial < first))
          (after_key o (given h script ps) taken p s u x grants (λ l. locks_of left (p + 1) (given h script ps) h.buckets h.boot registry keys (taken ++ (l ∷ [])) s u x grants))
      go o s u x good' t (won l y i) more = more l y i
      go o s u x good' t none_yet_lem more = rollback_kept ps taken _ p s u x grants first good' t
      go o s u x good' t (no_more r) more = rollback_kept ps taken r p s u x grants first good' t
