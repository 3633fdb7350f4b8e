-- The words lose nothing: equal words are equal replies.
-- ---- the way back
use Rattle.std.specs.Prelude.{ℕ, zero, suc, ◌+◌, ◌<◌, ◌*◌, ◌-◌, ◌≡◌, refl, List, [], ◌∷◌, ◌++◌, true, eqb, length, get_or, take, drop, if◌then◌else◌, Ok, Err, Result, Option, Some, None}
use Rattle.std.proofs.Common.{sym, ap, ◌∙◌, arith, add-one, drop_of_length-le, drop-cons}
use Rattle.types.specs.Checks.{Check, SalvageAnswer}
use Rattle.types.specs.declared.SalvageRefusal.TheVariants as salvaged
use Rattle.model.specs.Arena.{head_of, lease_of}
use Rattle.model.specs.Calls.{counts_of}
use Rattle.model.specs.Crew.{Work, rests, adds, taken_of, released_of, crew_rules, crew_at_work_rules, shift_of, crew_of, crew_at_work_of}
use Rattle.model.specs.Log.{Made}
use Rattle.model.proofs.Order.{reason_is, refusal_is}
use Rattle.model.specs.Refusals.{reason_of, refusal_with, first, judge}
use Rattle.types.specs.declared.Answer.{Answer}
use Rattle.types.specs.declared.Answer.TheVariants.{Done, Cell, Granted, AllGranted, Busy, Refused, RefusedAt}
use Rattle.types.specs.declared.CrewReply.{CrewReply}
use Rattle.types.specs.declared.Head.{Head}
use Rattle.types.specs.declared.ScriptReply.{ScriptReply}
use Rattle.types.specs.declared.Refusal.{Refusal}
use Rattle.types.specs.declared.Reply.{Reply}
use Rattle.types.specs.declared.SalvageReply.{SalvageReply}
use Rattle.setpoint.specs.declared.Setpoint.{Setpoint}
use Rattle.setpoint.specs.Codec.{has_body, setting_of, decode_of}
use Rattle.setpoint.specs.RoundTrip.{Held}
use Rattle.setpoint.proofs.RoundTrip.{setting_back, setting_means, join_small}
use Rattle.book_rules.specs.Calls.{read_as, line_read, read_version_of, read_setpoint_of}
use Rattle.book_rules.specs.Layout.{five_at, place_at, newest_at, setting_at}
use Rattle.book_rules.specs.Rules.{BookAnswer, BookCheck, first_fault, judge_book, read_rules}
use Rattle.book_rules.specs.declared.BookDone.TheVariants as book
use Rattle.book_rules.specs.declared.BookRefusal.{BookRefusal}
use Rattle.book_rules.specs.declared.BookRefusal.TheVariants as fault
use Rattle.wave_rules.specs.declared.WriteRefusal.{WriteRefusal}
use Rattle.wave_rules.specs.declared.WriteRefusal.TheVariants as write_refusal
use Rattle.wave_rules.specs.declared.ReadRefusal.{ReadRefusal}
use Rattle.wave_rules.specs.declared.ReadRefusal.TheVariants as read_refusal
use Rattle.skid_rules.specs.Laws.{six}
use Rattle.skid_rules.specs.Words.{busy_words, answer_words, reply_words, script_reply_words, each_of, crew_words, salvaged_words, salvage_words, book_number, book_words, dumped_words, undumped_words, told}
use Rattle.skid_rules.specs.Tells.{answer_in, script_reply_in, reply_in, crew_in, Sixteen, salvaged_in, salvage_in, book_fault, setting_in, book_in, Whole, dumped_in, undumped_in}

pub answer_back : (a : Answer) → answer_in (answer_words a) ≡ a
unfolding busy_words
answer_back Done = refl
answer_back (Cell c) = refl
answer_back (Granted l) = refl
answer_back AllGranted = refl
answer_back (Busy why) = ap Busy (reason_is why)
answer_back (Refused r) = ap Refused (refusal_is r)
answer_back (RefusedAt r p) = ap (λ (x : Refusal). RefusedAt x p) (refusal_is r)

script_reply_back : (r : ScriptReply) → script_reply_in (script_reply_words r) ≡ r
unfolding script_reply_words
script_reply_back r = ap (λ (a : Answer). record { head = r.head; place = r.place; counts = r.counts; answer = a }) (answer_back r.answer)

reply_back : (r : Reply) → reply_in (reply_words r) ≡ r
unfolding reply_words
reply_back r = ap (λ (a : Answer). record { head = r.head; counts = r.counts; answer = a }) (answer_back r.answer)

-- ---- the laws

pub reply_tells : (r s : Reply) → reply_words r ≡ reply_words s → r ≡ s
reply_tells r s e = sym (reply_back r) ∙ ap reply_in e ∙ reply_back s

pub script_reply_tells : (r s : ScriptReply) → script_reply_words r ≡ script_reply_words s → r ≡ s
script_reply_tells r s e = sym (script_reply_back r) ∙ ap script_reply_in e ∙ script_reply_back s

either : {A : Type 0} (P : A → Type 0) (k : Check) (f : Refusal → A) (a : A) → ((r : Refusal) → P (f r)) → P a → P (judge k f a)
either P (Ok tt) f a p q = q
either P (Err r) f a p q = p r

-- of a run of turns, in either work
shift_sixteen : (work : Work) (h : Head) (t g counts cells turns counters : List ℕ) → Sixteen (shift_of work h t g counts cells turns counters).seen.0
unfolding shift_of taken_of released_of
shift_sixteen work h t g counts cells turns counters = record { taken = refl; released = refl }

pub crew_sixteen : (h : Head) (t g counts cells turns : List ℕ) → Sixteen (crew_of h t g counts cells turns).seen.0
unfolding crew_of
crew_sixteen h t g counts cells turns =
    either (λ (m : Made (CrewReply × List ℕ)). Sixteen m.seen.0) (first (crew_rules h t g counts cells turns)) _ _
    (λ r. record { taken = refl; released = refl }) (shift_sixteen rests h t g counts cells turns [])

pub crew_at_work_sixteen : (h : Head) (t g counts cells turns counters : List ℕ) → Sixteen (crew_at_work_of h t g counts cells turns counters).seen.0
unfolding crew_at_work_of
crew_at_work_sixteen h t g counts cells turns counters =
    either (λ (m : Made (CrewReply × (List ℕ × List ℕ))). Sixteen m.seen.0) (first (crew_at_work_rules h t g counts cells turns counters)) _ _
    (λ r. record { taken = refl; released = refl }) (shift_sixteen adds h t g counts cells turns counters)

each_rest : (n i : ℕ) (l : List ℕ) → length l ≡ i + n → each_of n i l ≡ drop i l
unfolding each_of
each_rest zero i l e = sym (drop_of_length-le l {i = i} (omega arith))
each_rest (suc n) i l e = ap (λ (r : List ℕ). get_or l i 0 ∷ r) (each_rest n (i + 1) l (omega arith)) ∙ rw (add-one i) (sym (drop-cons l i 0 (omega arith)))

crew_back : (r : CrewReply) → Sixteen r → crew_in (crew_words r) ≡ r
unfolding crew_words each_of
crew_back r x =
    ap (λ (ws : List ℕ). crew_in (r.head.headers ∷ r.head.buckets ∷ r.head.next ∷ r.head.boot ∷ 0 ∷ 0 ∷ 0 ∷ 0 ∷ 0 ∷ (ws ++ (r.moving ∷ r.idle ∷ (each_of 16 0 r.taken ++ each_of 16 0 r.released))))) (sym (six r.answer))
    ∙ ap (λ (a : Answer). record { head = r.head; moving = r.moving; idle = r.idle; taken = each_of 16 0 r.taken; released = each_of 16 0 r.released; answer = a }) (answer_back r.answer)
    ∙ ap (λ (l : List ℕ). record { head = r.head; moving = r.moving; idle = r.idle; taken = l; released = each_of 16 0 r.released; answer = r.answer }) (each_rest 16 0 r.taken x.taken)
    ∙ ap (λ (l : List ℕ). record { head = r.head; moving = r.moving; idle = r.idle; taken = r.taken; released = l; answer = r.answer }) (each_rest 16 0 r.released x.released)

pub crew_tells : (r s : CrewReply) → Sixteen r → Sixteen s → crew_words r ≡ crew_words s → r ≡ s
crew_tells r s x y e = sym (crew_back r x) ∙ ap crew_in e ∙ crew_back s y

salvaged_back : (a : SalvageAnswer) → salvaged_in (salvaged_words a) ≡ a
salvaged_back (Ok (changed, held)) = refl
salvaged_back (Err salvaged.BadShape) = refl
salvaged_back (Err salvaged.ReportFull) = refl

salvage_back : (r : SalvageReply) → salvage_in (salvage_words r) ≡ r
unfolding salvage_words
salvage_back r = ap (λ (a : SalvageAnswer). record { head = r.head; answer = a }) (salvaged_back r.answer)

pub salvage_tells : (r s : SalvageReply) → salvage_words r ≡ salvage_words s → r ≡ s
salvage_tells r s e = sym (salvage_back r) ∙ ap salvage_in e ∙ salvage_back s

fault_back : (r : BookRefusal) → book_fault (book_number r) ≡ r
fault_back fault.BadShape = refl
fault_back fault.BadSlot = refl
fault_back fault.StaleBoot = refl
fault_back fault.NotHeld = refl
fault_back fault.NotFinite = refl
fault_back fault.DamagedBook = refl
fault_back fault.VersionsSpent = refl
fault_back fault.BookFull = refl
fault_back fault.NeverWritten = refl

book_back : (a : BookAnswer) → Whole a → book_in (book_words a) ≡ a
unfolding book_words
book_back (Ok book.Done) w = refl
book_back (Ok (book.Written v moved)) w = refl
book_back (Ok (book.Setting s v)) w = ap (λ (d : Option Setpoint). setting_in d v) (setting_back s w.0 w.1)
book_back (Err r) w = ap Err (fault_back r)

-- what a read tells is so, since a book's bytes are below 256
line_whole : (b : List ℕ) (k v : ℕ) → ((j : ℕ) → get_or b j 0 < 256) → Whole (line_read b k v)
unfolding line_read setting_at decode_of five_at
line_whole b k v bytes = go (setting_at b (place_at b k)) refl
  where
    go : (d : Option Setpoint) → setting_at b (place_at b k) ≡ d → Whole (read_as d v)
    go (Some s) e =
        let p = place_at b k in
        let m = setting_means _ _ s (join_small _ _ _ _ (bytes (p + 1)) (bytes (p + 2)) (bytes (p + 3)) (bytes (p + 4))) e in
        (m.held, m.whole)
    go None e = tt

judged_whole : (c : BookCheck) (a : BookAnswer) → Whole a → Whole (judge_book c Err a)
judged_whole (Err x) a w = tt
judged_whole (Ok tt) a w = w

pub version_whole : (h : Head) (b : List ℕ) (slot w : ℕ) → ((j : ℕ) → get_or b j 0 < 256) → Whole (read_version_of h b slot w)
unfolding read_version_of
version_whole h b slot w bytes =
    judged_whole (first_fault (read_rules h b slot w)) (line_read b (4 * slot + (newest_at b slot - w)) w) (line_whole b (4 * slot + (newest_at b slot - w)) w bytes)

pub read_whole : (h : Head) (b : List ℕ) (slot : ℕ) → ((j : ℕ) → get_or b j 0 < 256) → Whole (read_setpoint_of h b slot)
unfolding read_setpoint_of
read_whole h b slot bytes = version_whole h b slot (newest_at b slot) bytes

pub book_tells : (a b : BookAnswer) → Whole a → Whole b → book_words a ≡ book_words b → a ≡ b
book_tells a b x y e = sym (book_back a x) ∙ ap book_in e ∙ book_back b y

dumped_back : (a : Result ℕ WriteRefusal) → dumped_in (dumped_words a) ≡ a
unfolding dumped_words
dumped_back (Ok size) = refl
dumped_back (Err write_refusal.BadScript) = refl
dumped_back (Err write_refusal.TooWide) = refl
dumped_back (Err write_refusal.NoRoom) = refl

undumped_back : (a : Result (ℕ × ℕ) ReadRefusal) → undumped_in (undumped_words a) ≡ a
unfolding undumped_words
undumped_back (Ok (n, steps)) = refl
undumped_back (Err (read_refusal.BadLine k)) = refl
undumped_back (Err read_refusal.NoRoom) = refl

pub dumped_tells : (a b : Result ℕ WriteRefusal) → dumped_words a ≡ dumped_words b → a ≡ b
dumped_tells a b e = sym (dumped_back a) ∙ ap dumped_in e ∙ dumped_back b

pub undumped_tells : (a b : Result (ℕ × ℕ) ReadRefusal) → undumped_words a ≡ undumped_words b → a ≡ b
undumped_tells a b e = sym (undumped_back a) ∙ ap undumped_in e ∙ undumped_back b

-- and what a caller sees of a call, reply and lent runs, fixes the result itself
pub told_tells : {R A : Type 0} (words : R → List ℕ) → ((r s : R) → words r ≡ words s → r ≡ s) → (o p : R × A) → told words o ≡ told words p → o ≡ p
told_tells {R} {A} words tells o p e =
    ap (λ (r : R). (r, o.1)) (tells o.0 p.0 (ap (λ (x : List ℕ × A). x.0) e))
    ∙ ap (λ (a : A). (p.0, a)) (ap (λ (x : List ℕ × A). x.1) e)
