-- The words lose nothing: equal words are equal replies.
-- ---- the way back
use Rattle.std.specs.Prelude.{ℕ, zero, suc, ◌+◌, ◌<◌, ◌*◌, ◌-◌, ◌≡◌, refl, List, [], ◌∷◌, ◌++◌, true, eqb, length, get_or, take, drop, if◌then◌else◌, Ok, Err, Result, Option, Some, None}
use Rattle.std.proofs.Common.{sym, ap, ◌∙◌, arith, add-one, drop_of_length-le, drop-cons}
use Rattle.types.specs.Checks.{Check, SalvageAnswer}
use Rattle.types.specs.declared.SalvageRefusal.TheVariants as salvaged
use Rattle.model.specs.Arena.{head_of, lease_of}
use Rattle.model.specs.Calls.{counts_of}
use Rattle.model.specs.Crew.{Work, rests, adds, taken_of, released_of, crew_rules, crew_at_work_rules, shift_of, crew_of, crew_at_work_of}
use Rattle.model.specs.Log.{Made}
use Rattle.model.proofs.Order.{reason_is, refusal_is}
use Rattle.model.specs.Refusals.{reason_of, refusal_with, first, judge}
use Rattle.types.specs.declared.Answer.{Answer}
use Rattle.types.specs.declared.Answer.TheVariants.{Done, Cell, Granted, AllGranted, Busy, Refused, RefusedAt}
use Rattle.types.specs.declared.CrewReply.{CrewReply}
use Rattle.types.specs.declared.Head.{Head}
use Rattle.types.specs.declared.ScriptReply.{ScriptReply}
use Rattle.types.specs.declared.Refusal.{Refusal}
use Rattle.types.specs.declared.Reply.{Reply}
use Rattle.types.specs.declared.SalvageReply.{SalvageReply}
use Rattle.setpoint.specs.declared.Setpoint.{Setpoint}
use Rattle.setpoint.specs.Codec.{has_body, setting_of, decode_of}
use Rattle.setpoint.specs.RoundTrip.{Held}
use Rattle.setpoint.proofs.RoundTrip.{setting_back, setting_means, join_small}
use Rattle.book_rules.specs.Calls.{read_as, line_read, read_version_of, read_setpoint_of}
use Rattle.book_rules.specs.Layout.{five_at, place_at, newest_at, setting_at}
use Rattle.book_rules.specs.Rules.{BookAnswer, BookCheck, first_fault, judge_book, read_rules}
use Rattle.book_rules.specs.declared.BookDone.TheVariants as book
use Rattle.book_rules.specs.declared.BookRefusal.{BookRefusal}
use Rattle.book_rules.specs.declared.BookRefusal.TheVariants as fault
use Rattle.wave_rules.specs.declared.WriteRefusal.{WriteRefusal}
use Rattle.wave_rules.specs.declared.WriteRefusal.TheVariants as write_refusal
use Rattle.wave_rules.specs.declared.ReadRefusal.{ReadRefusal}
use Rattle.wave_rules.specs.declared.ReadRefusal.TheVariants as read_refusal
use Rattle.skid_rules.specs.Laws.{six}
use Rattle.skid_rules.specs.Words.{busy_words, answer_words, reply_words, script_reply_words, each_of, crew_words, salvaged_words, salvage_words, book_number, book_words, dumped_words, undumped_words, told}

-- the answer that six words tell
abbrev pub answer_in : List ℕ → Answer
answer_in ws =
    let kind = get_or ws 0 0 in
    let why = reason_of (get_or ws 4 0) (get_or ws 5 0) in
    if eqb kind 0 then Done
    else if eqb kind 1 then Cell (get_or ws 1 0)
    else if eqb kind 2 then Granted (lease_of (get_or ws 1 0) (get_or ws 2 0) (get_or ws 3 0))
    else if eqb kind 3 then AllGranted
    else if eqb kind 4 then Busy why
    else if eqb kind 5 then Refused (refusal_with why (get_or ws 1 0) (get_or ws 2 0))
    else RefusedAt (refusal_with why (get_or ws 1 0) (get_or ws 2 0)) (get_or ws 3 0)

-- the reply that fifteen words tell
abbrev pub script_reply_in : List ℕ → ScriptReply
script_reply_in ws =
    record {
      head = head_of (get_or ws 0 0) (get_or ws 1 0) (get_or ws 2 0) (get_or ws 3 0);
      place = get_or ws 4 0;
      counts = counts_of (get_or ws 5 0) (get_or ws 6 0) (get_or ws 7 0) (get_or ws 8 0);
      answer = answer_in (drop 9 ws);
    }

abbrev pub reply_in : List ℕ → Reply
reply_in ws = record { head = (script_reply_in ws).head; counts = (script_reply_in ws).counts; answer = (script_reply_in ws).answer }

-- the crew's reply that forty-nine words tell
abbrev pub crew_in : List ℕ → CrewReply
crew_in ws =
    record {
      head = (script_reply_in ws).head;
      moving = get_or ws 15 0;
      idle = get_or ws 16 0;
      taken = take 16 (drop 17 ws);
      released = drop 33 ws;
      answer = answer_in (take 6 (drop 9 ws));
    }

-- the crew's, where each reply has its two sixteens, as every reply of the call has
pub record Sixteen (r : CrewReply) : Type 0 where
  pub taken : length r.taken ≡ 16
  pub released : length r.released ≡ 16

-- the salvage's answer that three words tell, and its reply that seven do
abbrev pub salvaged_in : List ℕ → SalvageAnswer
salvaged_in ws = if eqb (get_or ws 0 0) 0 then Ok ((get_or ws 1 0), (get_or ws 2 0)) else if eqb (get_or ws 1 0) 1 then (Err salvaged.BadShape) else (Err salvaged.ReportFull)

abbrev pub salvage_in : List ℕ → SalvageReply
salvage_in ws = record { head = head_of (get_or ws 0 0) (get_or ws 1 0) (get_or ws 2 0) (get_or ws 3 0); answer = salvaged_in (drop 4 ws) }

-- the book's refusal that a number tells
abbrev pub book_fault : ℕ → BookRefusal
book_fault n =
    if eqb n 1 then fault.BadShape
    else if eqb n 16 then fault.StaleBoot
    else if eqb n 12 then fault.NotHeld
    else if eqb n 101 then fault.BadSlot
    else if eqb n 102 then fault.NotFinite
    else if eqb n 103 then fault.DamagedBook
    else if eqb n 104 then fault.VersionsSpent
    else if eqb n 107 then fault.BookFull
    else fault.NeverWritten

-- the setting that a kind, a word and a version tell; words that tell none are not a setting's
abbrev pub setting_in : Option Setpoint → ℕ → BookAnswer
setting_in (Some s) v = Ok (book.Setting s v)
setting_in None v = Ok book.Done

-- the book's answer that four words tell
abbrev pub book_in : List ℕ → BookAnswer
book_in ws =
    let kind = get_or ws 0 0 in
    if eqb kind 0 then Ok book.Done
    else if eqb kind 1 then Ok (book.Written (get_or ws 1 0) (get_or ws 2 0))
    else if eqb kind 2 then setting_in (setting_of (get_or ws 2 0) (get_or ws 3 0)) (get_or ws 1 0)
    else Err (book_fault (get_or ws 1 0))

-- a setting whose setpoint is a value of its type and has a body; every other answer
abbrev pub Whole : BookAnswer → Type 0
Whole (Ok book.Done) = Unit
Whole (Ok (book.Written v moved)) = Unit
Whole (Ok (book.Setting s v)) = Held s × (has_body s ≡ true)
Whole (Err r) = Unit

-- the waveform's answers that three words tell
abbrev pub dumped_in : List ℕ → Result ℕ WriteRefusal
dumped_in ws =
    let kind = get_or ws 0 0 in
    if eqb kind 0 then Ok (get_or ws 1 0) else if eqb kind 1 then Err write_refusal.BadScript else if eqb kind 2 then Err write_refusal.TooWide else Err write_refusal.NoRoom

abbrev pub undumped_in : List ℕ → Result (ℕ × ℕ) ReadRefusal
undumped_in ws =
    let kind = get_or ws 0 0 in
    if eqb kind 0 then Ok (get_or ws 1 0, get_or ws 2 0) else if eqb kind 3 then Err read_refusal.NoRoom else Err (read_refusal.BadLine (get_or ws 1 0))
