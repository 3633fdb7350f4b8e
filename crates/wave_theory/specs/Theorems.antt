-- Document 02, L11, in four statements.
use Rattle.std.specs.Prelude.{ℕ, ◌≡◌, ◌↔◌, List}
use Rattle.std.proofs.Common.{sym, ap, ◌∙◌}
use Rattle.wave_rules.specs.Dump.{no_bits, dump_of, Dumpable}
use Rattle.wave_theory.specs.Bits.{bits_after}
use Rattle.wave_rules.specs.Reader.{read, refused, read_of}
use Rattle.wave_theory.specs.Round.{trim_of, round_trip, same_bits}
use Rattle.wave_theory.specs.Image.{image}
use Rattle.wave_theory.specs.Wrong.{FirstWrong, first_wrong}

-- "what was written reads back as the same bits at the same step numbers"
pub reads_back : (n : ℕ) (script : List ℕ) → Dumpable n script
    → (back : List ℕ) × (read_of (dump_of n script) ≡ read n back) × ((j : ℕ) → bits_after n no_bits j back ≡ bits_after n no_bits j script)
reads_back n script d = (trim_of n 0 no_bits script, round_trip n script d, λ j. same_bits n j script)

-- "the reader takes only what the writer could have written": what is accepted is, byte for byte, the dump of what was
-- read
pub writes_again : (text : List ℕ) (n : ℕ) (script : List ℕ) → read_of text ≡ read n script
    → (Dumpable n script) × (dump_of n script ≡ text)
writes_again = image

-- so the reader accepts exactly the writer's image
pub accepts_dumps : (text : List ℕ)
    → ((n : ℕ) × (script : List ℕ) × (read_of text ≡ read n script)) ↔ ((n : ℕ) × (script : List ℕ) × Dumpable n script × (dump_of n script ≡ text))
accepts_dumps text = (
  (λ a. let i = image text a.0 a.1 a.2 in (a.0, a.1, i.0, i.1)),
  (λ a. (a.0, trim_of a.0 0 no_bits a.1, sym (ap read_of a.3) ∙ round_trip a.0 a.1 a.2)),
)

-- "refused .. with its first wrong line, from 1"
pub refuses_first : (text : List ℕ) (k : ℕ) → read_of text ≡ refused k → FirstWrong text k
refuses_first = first_wrong
