-- Document 02, L11, the two calls: the answer, and the lent buffer afterwards.
use Rattle.std.specs.Prelude.{ℕ, ◌/◌, List, Bool, ◌||◌, eqb, ltb, length, if◌then◌else◌, Result, Ok, Err}
use Rattle.std.proofs.lemmas.List.Edits.{sets}
use Rattle.model.specs.Checks.{bad_script}
use Rattle.wave_rules.specs.declared.WriteRefusal.{WriteRefusal}
use Rattle.wave_rules.specs.declared.WriteRefusal.TheVariants as write_refusal
use Rattle.wave_rules.specs.declared.ReadRefusal.{ReadRefusal}
use Rattle.wave_rules.specs.declared.ReadRefusal.TheVariants as read_refusal
use Rattle.wave_rules.specs.Dump.{dump_of}
use Rattle.wave_rules.specs.Reader.{Reading, read, refused, read_of}

-- "a script of at most 32,768 steps (else 2, first)": document 01's 2, and there is no place
unfoldable pub bad_history : List ℕ → Bool
bad_history script = (bad_script script 0).applies

-- "No cells or more than 94: refused TooWide."
unfoldable pub too_wide : ℕ → Bool
too_wide n = eqb n 0 || ltb 94 n

-- "A lent buffer too short for the whole dump ..: NoRoom, nothing written." Bytes behind the dump are left alone.
unfoldable pub fitted_of : ℕ → List ℕ → List ℕ → Result ℕ WriteRefusal × List ℕ
fitted_of n script out =
    if ltb (length out) (length (dump_of n script)) then (Err write_refusal.NoRoom, out) else
    (Ok (length (dump_of n script)), sets out 0 (dump_of n script))

-- the writer: 2, TooWide, NoRoom, in this order
unfoldable pub write_of : ℕ → List ℕ → List ℕ → Result ℕ WriteRefusal × List ℕ
write_of n script out =
    if bad_history script then (Err write_refusal.BadScript, out) else
    if too_wide n then (Err write_refusal.TooWide, out) else
    fitted_of n script out

-- the reader: "anything else is refused, before NoRoom, with its first wrong line"; "A lent buffer too short for the
-- whole .. reading: NoRoom, nothing written." Words behind the script are left alone.
abbrev pub answered : Reading → List ℕ → Result (ℕ × ℕ) ReadRefusal × List ℕ
answered (refused k) out = (Err (read_refusal.BadLine k), out)
answered (read n script) out =
    if ltb (length out) (length script) then (Err read_refusal.NoRoom, out) else
    (Ok (n, length script / 3), sets out 0 script)

unfoldable pub read_into_of : List ℕ → List ℕ → Result (ℕ × ℕ) ReadRefusal × List ℕ
read_into_of text out = answered (read_of text) out
