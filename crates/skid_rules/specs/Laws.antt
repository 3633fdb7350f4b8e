-- Laws for the code: an answer's words one by one, the crew's counts stored in a loop, and that what the book's calls answer has a body.
use Rattle.std.specs.Prelude.{ℕ, suc, ◌+◌, ◌-◌, ◌<◌, ◌≤◌, ◌≡◌, refl, true, List, [], ◌∷◌, ◌++◌, get_or, set, replicate, Ok, Err}
use Rattle.std.proofs.Common.{ap, ◌∙◌, arith}
use Rattle.std.proofs.lemmas.List.Edits.{sets}
use Rattle.types.specs.Checks.{SalvageAnswer}
use Rattle.types.specs.declared.SalvageRefusal.TheVariants as salvaged
use Rattle.types.specs.declared.Answer.{Answer}
use Rattle.types.specs.declared.Answer.TheVariants.{Done, Cell, Granted, AllGranted, Busy, Refused, RefusedAt}
use Rattle.types.specs.declared.Counts.{Counts}
use Rattle.types.specs.declared.CrewReply.{CrewReply}
use Rattle.types.specs.declared.Head.{Head}
use Rattle.types.specs.declared.Lease.{Lease}
use Rattle.types.specs.declared.SalvageReply.{SalvageReply}
use Rattle.setpoint.specs.declared.Setpoint.{Setpoint}
use Rattle.book_rules.specs.Layout.{newest_at}
use Rattle.book_rules.specs.Calls.{prepare_book_of, write_setpoint_of, read_setpoint_of}
use Rattle.book_rules.specs.Outcomes.{body_read}
use Rattle.book_rules.specs.Outcomes.{Prepared, was_prepared, not_prepared}
use Rattle.book_rules.proofs.Outcomes.{preparing_is, Outcome, done, full, refused, writing_is, body_read_lem}
use Rattle.skid_rules.specs.Words.{busy_words, answer_words, result_words, each_of, crew_words, salvaged_words, salvage_words}
use Rattle.book_rules.specs.Rules.{BookAnswer}

pub six : (a : Answer)
    → get_or (answer_words a) 0 0 ∷ get_or (answer_words a) 1 0 ∷ get_or (answer_words a) 2 0 ∷ get_or (answer_words a) 3 0 ∷ get_or (answer_words a) 4 0 ∷ get_or (answer_words a) 5 0 ∷ []
    ≡ answer_words a
unfolding busy_words
six Done = refl
six (Cell c) = refl
six (Granted l) = refl
six AllGranted = refl
six (Busy why) = refl
six (Refused r) = refl
six (RefusedAt r p) = refl

-- fifteen words, the last six of them read from the answer's
pub laid : (h : Head) (place : ℕ) (k : Counts) (a : Answer) (ws : List ℕ) → ws ≡ answer_words a
    → h.headers ∷ h.buckets ∷ h.next ∷ h.boot ∷ place ∷ k.attempts ∷ k.boundaries ∷ k.yields ∷ k.dropped ∷ get_or ws 0 0 ∷ get_or ws 1 0 ∷ get_or ws 2 0 ∷ get_or ws 3 0 ∷ get_or ws 4 0 ∷ get_or ws 5 0 ∷ []
    ≡ result_words h place k a
laid h place k a ws e = rw e (ap (λ (r : List ℕ). h.headers ∷ h.buckets ∷ h.next ∷ h.boot ∷ place ∷ k.attempts ∷ k.boundaries ∷ k.yields ∷ k.dropped ∷ r) (six a))

-- a salvage's answer has three
pub three : (a : SalvageAnswer) → get_or (salvaged_words a) 0 0 ∷ get_or (salvaged_words a) 1 0 ∷ get_or (salvaged_words a) 2 0 ∷ [] ≡ salvaged_words a
three (Ok (changed, held)) = refl
three (Err salvaged.BadShape) = refl
three (Err salvaged.ReportFull) = refl

pub salvage_laid : (r : SalvageReply) (ws : List ℕ) → ws ≡ salvaged_words r.answer
    → r.head.headers ∷ r.head.buckets ∷ r.head.next ∷ r.head.boot ∷ get_or ws 0 0 ∷ get_or ws 1 0 ∷ get_or ws 2 0 ∷ [] ≡ salvage_words r
unfolding salvage_words
salvage_laid r ws e = rw e (ap (λ (s : List ℕ). r.head.headers ∷ r.head.buckets ∷ r.head.next ∷ r.head.boot ∷ s) (three r.answer))

-- one turn and the end of the loop that stores the counts of the members
pub put_at : (at i : ℕ) (ns ws : List ℕ) → i < 16
    → sets ws (at + i) (each_of (16 - i) i ns) ≡ sets (set ws (at + i) (get_or ns i 0)) (at + (i + 1)) (each_of (16 - (i + 1)) (i + 1) ns)
unfolding each_of
put_at at i ns ws l =
    let e : 16 - i ≡ suc (16 - (i + 1)) = omega arith in
    let k : suc (at + i) ≡ at + (i + 1) = omega arith in
    rw e (ap (λ (n : ℕ). sets (set ws (at + i) (get_or ns i 0)) n (each_of (16 - (i + 1)) (i + 1) ns)) k)

pub put_end : (at i : ℕ) (ns ws : List ℕ) → 16 ≤ i → sets ws (at + i) (each_of (16 - i) i ns) ≡ ws
unfolding each_of
put_end at i ns ws l = let e : 16 - i ≡ 0 = omega arith in rw e

-- the crew's words, stored one by one in a run of zeros
pub crew_laid : (r : CrewReply) (ws : List ℕ) → ws ≡ answer_words r.answer
    → sets
    (sets
    (set (set (set (set (set (set (set (set (set (set (set (set (replicate 49 0) 0 r.head.headers) 1 r.head.buckets) 2 r.head.next) 3 r.head.boot) 9 (get_or ws 0 0)) 10 (get_or ws 1 0)) 11 (get_or ws 2 0)) 12 (get_or ws 3 0)) 13 (get_or ws 4 0)) 14 (get_or ws 5 0)) 15 r.moving) 16 r.idle)
    17
    (each_of 16 0 r.taken))
    33
    (each_of 16 0 r.released)
    ≡ crew_words r
unfolding each_of crew_words
crew_laid r ws e =
    rw e
    (ap (λ (a : List ℕ). r.head.headers ∷ r.head.buckets ∷ r.head.next ∷ r.head.boot ∷ 0 ∷ 0 ∷ 0 ∷ 0 ∷ 0 ∷ (a ++ (r.moving ∷ r.idle ∷ (each_of 16 0 r.taken ++ each_of 16 0 r.released))))
    (six r.answer))

-- what a preparation and a write answer is no setting, so its words ask for nothing; of a read of a version it is `body_read_lem`, and so of the newest
pub prepared_whole : (a : BookAnswer) (book b : List ℕ) (h : Head) → (a, book) ≡ prepare_book_of h b → body_read a ≡ true
prepared_whole a book b h e = ap (λ (o : BookAnswer × List ℕ). body_read o.0) e ∙ go (prepare_book_of h b) (preparing_is h b)
  where
    go : (o : BookAnswer × List ℕ) → Prepared h b o → body_read o.0 ≡ true
    go _ (was_prepared fits fine) = refl
    go _ (not_prepared r) = refl

pub written_whole : (a : BookAnswer) (book t b : List ℕ) (h : Head) (slot : ℕ) (l : Lease) (s : Setpoint) → (a, book) ≡ write_setpoint_of h t b slot l s → body_read a ≡ true
written_whole a book t b h slot l s e = ap (λ (o : BookAnswer × List ℕ). body_read o.0) e ∙ go (write_setpoint_of h t b slot l s) (writing_is h t b slot l s)
  where
    go : (o : BookAnswer × List ℕ) → Outcome h t b slot l s o → body_read o.0 ≡ true
    go _ (done claim room) = refl
    go _ (full claim none) = refl
    go _ (refused r other damaged claim) = refl

pub newest_whole : (a : BookAnswer) (h : Head) (b : List ℕ) (slot : ℕ) → a ≡ read_setpoint_of h b slot → body_read a ≡ true
unfolding read_setpoint_of
newest_whole a h b slot e = body_read_lem a h b slot (newest_at b slot) e
