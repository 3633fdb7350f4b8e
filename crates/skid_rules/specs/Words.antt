-- The layout of a reply as words: what each of them means, once and for all. include/skid.h repeats it for readers.
use Rattle.std.specs.Prelude.{ℕ, zero, suc, ◌+◌, List, [], ◌∷◌, ◌++◌, get_or, Ok, Err, Result}
use Rattle.types.specs.Checks.{SalvageAnswer}
use Rattle.types.specs.declared.SalvageRefusal.TheVariants as salvaged
use Rattle.model.specs.Calls.{counts_of}
use Rattle.model.specs.Refusals.{reason_number, reason_serial, number_of, carried_of, refusal_reason}
use Rattle.types.specs.declared.Answer.{Answer}
use Rattle.types.specs.declared.Answer.TheVariants.{Done, Cell, Granted, AllGranted, Busy, Refused, RefusedAt}
use Rattle.types.specs.declared.Counts.{Counts}
use Rattle.types.specs.declared.CrewReply.{CrewReply}
use Rattle.types.specs.declared.Head.{Head}
use Rattle.types.specs.declared.ScriptReply.{ScriptReply}
use Rattle.types.specs.declared.Refusal.{Refusal}
use Rattle.types.specs.declared.Reply.{Reply}
use Rattle.types.specs.declared.SalvageReply.{SalvageReply}
use Rattle.setpoint.specs.Codec.{kind_of, word_of}
use Rattle.book_rules.specs.declared.BookDone.TheVariants as book
use Rattle.book_rules.specs.declared.BookRefusal.{BookRefusal}
use Rattle.book_rules.specs.declared.BookRefusal.TheVariants as fault
use Rattle.wave_rules.specs.Answers.{dumped_number}
use Rattle.wave_rules.specs.declared.WriteRefusal.{WriteRefusal}
use Rattle.wave_rules.specs.declared.WriteRefusal.TheVariants as write_refusal
use Rattle.wave_rules.specs.declared.ReadRefusal.{ReadRefusal}
use Rattle.wave_rules.specs.declared.ReadRefusal.TheVariants as read_refusal
use Rattle.book_rules.specs.Rules.{BookAnswer}

-- Busy, by the number of its reason and the serial that goes with it: "held, with the owner's serial"; "waiters seen before the
-- compare-and-set"; "waiters seen after it. The last one also gives the serial that was spent."
unfoldable pub busy_words : ℕ → ℕ → List ℕ
busy_words number s = 4 ∷ 0 ∷ 0 ∷ 0 ∷ number ∷ s ∷ []

-- a refusal; "refusal 11 carries that reason besides 4,096"
abbrev pub refusal_words : ℕ → Refusal → ℕ → List ℕ
refusal_words kind r position = kind ∷ number_of r ∷ carried_of r ∷ position ∷ get_or (refusal_reason r) 0 0 ∷ get_or (refusal_reason r) 1 0 ∷ []

-- words 9 to 14: the kind of the answer; the cell, or the refusal's number; the serial, or what the refusal carries; the boot number of a
-- lease that was granted (document 02, L8), or the key's position; the number of the reason why it was Busy, 0 for none; the reason's
-- serial, 0 for none
abbrev pub answer_words : Answer → List ℕ
answer_words Done = 0 ∷ 0 ∷ 0 ∷ 0 ∷ 0 ∷ 0 ∷ []
answer_words (Cell c) = 1 ∷ c ∷ 0 ∷ 0 ∷ 0 ∷ 0 ∷ []
answer_words (Granted l) = 2 ∷ l.cell ∷ l.serial ∷ l.boot ∷ 0 ∷ 0 ∷ []
answer_words AllGranted = 3 ∷ 0 ∷ 0 ∷ 0 ∷ 0 ∷ 0 ∷ []
answer_words (Busy why) = busy_words (reason_number why) (reason_serial why)
answer_words (Refused r) = refusal_words 5 r 0
answer_words (RefusedAt r p) = refusal_words 6 r p

-- words 0 to 3 the head, 4 the place, 5 to 8 the counts, and then the answer
abbrev pub result_words : Head → ℕ → Counts → Answer → List ℕ
result_words h place k a = h.headers ∷ h.buckets ∷ h.next ∷ h.boot ∷ place ∷ k.attempts ∷ k.boundaries ∷ k.yields ∷ k.dropped ∷ answer_words a

-- of a call without a script: place 0
unfoldable pub reply_words : Reply → List ℕ
reply_words r = result_words r.head 0 r.counts r.answer

-- of a call with a script
unfoldable pub script_reply_words : ScriptReply → List ℕ
script_reply_words r = result_words r.head r.place r.counts r.answer

-- `left` numbers of a list, from place m on
unfoldable pub each_of : ℕ → ℕ → List ℕ → List ℕ
each_of zero m l = []
each_of (suc left) m l = get_or l m 0 ∷ each_of left (m + 1) l

-- of the crew: no place, no counts and no reason; words 15 and 16 the moving and the idle turns, 17 to 32 what members 0 to 15 took, 33 to
-- 48 what they released
unfoldable pub crew_words : CrewReply → List ℕ
crew_words r = result_words r.head 0 (counts_of 0 0 0 0) r.answer ++ (r.moving ∷ r.idle ∷ (each_of 16 0 r.taken ++ each_of 16 0 r.released))

-- of a salvage: the kind of the answer, as in `answer_words`; done, the entries of the report and the cells left held; refused, the number, and
-- ReportFull, which has none, counts on behind the setpoint book's
abbrev pub salvaged_words : SalvageAnswer → List ℕ
salvaged_words (Ok (changed, held)) = 0 ∷ changed ∷ held ∷ []
salvaged_words (Err salvaged.BadShape) = 5 ∷ 1 ∷ 0 ∷ []
salvaged_words (Err salvaged.ReportFull) = 5 ∷ 106 ∷ 0 ∷ []

-- words 0 to 3 the head, as it was given
unfoldable pub salvage_words : SalvageReply → List ℕ
salvage_words r = r.head.headers ∷ r.head.buckets ∷ r.head.next ∷ r.head.boot ∷ salvaged_words r.answer

-- a refusal of the setpoint book: "1" and "12" are document 01's numbers, 16 is L8's; those without a number count from 101, in the order of their names
-- in document 02, "BadSlot", "NotFinite", "DamagedBook", "VersionsSpent", and then "NeverWritten"; "BookFull" came later and stands behind the salvage's
abbrev pub book_number : BookRefusal → ℕ
book_number fault.BadShape = 1
book_number fault.BadSlot = 101
book_number fault.StaleBoot = 16
book_number fault.NotHeld = 12
book_number fault.NotFinite = 102
book_number fault.DamagedBook = 103
book_number fault.VersionsSpent = 104
book_number fault.BookFull = 107
book_number fault.NeverWritten = 105

-- of the setpoint book: the kind of the answer (0 done, 1 written, 2 a setting, 3 refused); the version, or the refusal's number; of a
-- setting the setpoint's kind, "1, 2, 3 in that order", and the word of its four bytes; of a write the "bytes moved"
unfoldable pub book_words : BookAnswer → List ℕ
book_words (Ok book.Done) = 0 ∷ 0 ∷ 0 ∷ 0 ∷ []
book_words (Ok (book.Written v moved)) = 1 ∷ v ∷ moved ∷ 0 ∷ []
book_words (Ok (book.Setting s v)) = 2 ∷ v ∷ kind_of s ∷ word_of s ∷ []
book_words (Err r) = 3 ∷ book_number r ∷ 0 ∷ 0 ∷ []

-- of the waveform's writer and reader: the kind of the answer (0 done, 1 refused by number, 2 TooWide, 3 NoRoom, 4 BadLine); the bytes
-- written, the cells read, the refusal's number or the wrong line; the steps read
unfoldable pub dumped_words : Result ℕ WriteRefusal → List ℕ
dumped_words (Ok size) = 0 ∷ size ∷ 0 ∷ []
dumped_words (Err write_refusal.BadScript) = 1 ∷ dumped_number (Err write_refusal.BadScript) ∷ 0 ∷ []
dumped_words (Err write_refusal.TooWide) = 2 ∷ 0 ∷ 0 ∷ []
dumped_words (Err write_refusal.NoRoom) = 3 ∷ 0 ∷ 0 ∷ []

unfoldable pub undumped_words : Result (ℕ × ℕ) ReadRefusal → List ℕ
undumped_words (Ok (n, steps)) = 0 ∷ n ∷ steps ∷ []
undumped_words (Err read_refusal.NoRoom) = 3 ∷ 0 ∷ 0 ∷ []
undumped_words (Err (read_refusal.BadLine k)) = 4 ∷ k ∷ 0 ∷ []

-- a result with its lent runs behind it, told in words
abbrev pub told : {R A : Type 0} → (R → List ℕ) → R × A → List ℕ × A
told words o = (words o.0, o.1)
