-- Logs with takes exchanged too: equal up to a renaming of the serials that the log issued.
use Rattle.std.specs.Prelude.{ℕ, ◌+◌, ◌≡◌, refl, List, [], ◌∷◌}
use Rattle.std.proofs.Common.{sym, ap, ◌∙◌, subst, arith}
use Rattle.model.specs.Log.{Event, attempt_begun, boundary_run, yielded, spun, step_dropped, took, released, waiters_set, health_set, held_all_lem, added}
use Rattle.types.specs.declared.Head.{Head}
use Rattle.history.specs.World.{World, after_event, now, Lawful, Kind, number_of_lem}
use Rattle.swaps.specs.Logs.{Both}
use Rattle.swaps.specs.Renaming.{Serials, flip, renamed, renamed_all, Recast, same, neighbours, two_takes, behind, onward}
use Rattle.swaps.specs.Statements.{LogsRecast}
use Rattle.swaps.specs.Fine.{Fine, fine, fine_on}
use Rattle.swaps.proofs.Pairs.{apart_sym, commute, before, after, takes_swap}
use Rattle.swaps.specs.Owners.{Renamed}
use Rattle.swaps.proofs.Owners.{unrenamed, onto, one_table, weaker, identity, composed, flips, follow_all, grows, grows_now, fine_now, takes_renamed}
use Rattle.swaps.specs.Recasts.{RenamedLogs}

renamed_numbers : (to : ℕ → ℕ) (k : Kind) (es : List Event) → number_of_lem k (renamed_all to es) ≡ number_of_lem k es
unfolding number_of_lem
renamed_numbers to k [] = refl
renamed_numbers to k (e ∷ es) = go e (renamed_numbers to k es)
  where
    go : (e : Event) → number_of_lem k (renamed_all to es) ≡ number_of_lem k es → number_of_lem k (renamed to e ∷ renamed_all to es) ≡ number_of_lem k (e ∷ es)
    go attempt_begun i = rw i
    go boundary_run i = rw i
    go yielded i = rw i
    go spun i = rw i
    go step_dropped i = rw i
    go (took a c s) i = rw i
    go (released a c s) i = rw i
    go (waiters_set c n) i = rw i
    go (health_set j n) i = rw i
    go (held_all_lem m) i = rw i
    go (added m c v) i = rw i

alike : (w : World) {es fs : List Event} → Fine w → Recast es fs → Lawful w es → RenamedLogs w es fs
unfolding number_of_lem
alike w {es = es} g same l =
    record { lawful = l; to = λ s. s; back = λ s. s; serials = identity _ _; world = unrenamed (now w es) (now w es) refl; numbers = λ k. refl }
alike w g (neighbours {e = e} {f = f} {es = es} a) l =
    let c : after_event (after_event w e) f ≡ after_event (after_event w f) e = commute w a in
    record {
      lawful = (before w g a l.1.0, (after w g (apart_sym a) l.0, subst (λ (v : World). Lawful v es) c l.1.1));
      to = λ s. s;
      back = λ s. s;
      serials = identity _ _;
      world = unrenamed (now (after_event (after_event w e) f) es) (now (after_event (after_event w f) e) es) (ap (λ (v : World). now v es) (sym c));
      numbers = λ k. omega arith;
    }
alike w g (two_takes {a = a} {b = b} {c = c} {d = d} {n = n} {es = es} x) l =
    let l₂ : Both w (took a c n) (took b d (n + 1)) = (l.0, l.1.0) in
    let legal = (takes_swap w a b c d n g x l₂).0 in
    let one : World = after_event (after_event w (took a c n)) (took b d (n + 1)) in
    let z : Serials w.head.next one.head.next (flip n) (flip n) = weaker (omega (arith, l.0.1.0)) (omega (arith, l.0.1.0)) (flips n) in
    let rest = follow_all one (after_event (after_event w (took b d n)) (took a c (n + 1))) es
    (fine_on (after_event w (took a c n)) (took b d (n + 1)) (fine_on w (took a c n) g l.0) l.1.0) z g.low (takes_renamed w a b c d n g x l₂) l.1.1 in
    record {
      lawful = (legal.0, (legal.1, rest.0));
      to = flip n;
      back = flip n;
      serials = weaker (omega arith) (grows_now one es) z;
      world = rest.1;
      numbers = λ k. omega (arith, renamed_numbers (flip n) k es);
    }
alike w g (behind {e = e} r) l =
    let i = alike (after_event w e) (fine_on w e g l.0) r l.1 in
    record {
      lawful = (l.0, i.lawful);
      to = i.to;
      back = i.back;
      serials = weaker (grows w e) (omega arith) i.serials;
      world = i.world;
      numbers = λ k. omega (arith, i.numbers k);
    }
alike w g (onward {es = es} {fs = fs} {gs = gs} r s) l =
    let i = alike w g r l in
    let j = alike w g s i.lawful in
    record {
      lawful = j.lawful;
      to = λ s. j.to (i.to s);
      back = λ s. i.back (j.back s);
      serials = composed i.serials (weaker (omega arith) (omega (arith, ap (λ (h : Head). h.next) i.world.head)) j.serials);
      world = onto (now w es) (now w fs) (now w gs) i.world j.world;
      numbers = λ k. j.numbers k ∙ i.numbers k;
    }

pub recast_logs : LogsRecast
recast_logs w es fs g r l =
    let f = fine w g in
    let x = alike w f r l in
    record {
      lawful = x.lawful;
      to = x.to;
      back = x.back;
      serials = x.serials;
      state = one_table x.to (now w es) (now w fs) (fine_now w es f l) x.world;
      numbers = x.numbers;
    }
