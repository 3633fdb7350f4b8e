-- Document 02, L6, "Salvage after a warm restart": the arena gone over with the head that its owner holds on paper. Nothing here is a
-- boundary or a take, so there is no log.
use Rattle.std.specs.Prelude.{ℕ, zero, suc, ◌+◌, ◌*◌, ◌/◌, ◌≡◌, refl, List, [], ◌∷◌, ◌++◌, Bool, ◌||◌, ltb, leb, eqb, length, drop, replicate, if◌then◌else◌, Ok, Err}
use Rattle.types.specs.Checks.{SalvageAnswer}
use Rattle.types.specs.declared.SalvageRefusal.TheVariants.{BadShape, ReportFull}
use Rattle.model.specs.Arena.{cells_of, head_of, bit_at, owner_at, is_free, is_held, state_of, head_fits, shape_fits, health_fits}
use Rattle.model.specs.Refusals.{first, judge}
use Rattle.model.specs.Checks.{prepare_rules}
use Rattle.types.specs.declared.Head.{Head}
use Rattle.types.specs.declared.SalvageReply.{SalvageReply}
use Rattle.types.specs.declared.State.{State}
use Rattle.types.specs.declared.State.TheVariants.{Free, Held, Damaged}

-- ---- what is mended

-- "damaged cells become free", "sound cells keep their bit and owner": what becomes of a bit or an owner, by the state of its cell
abbrev pub kept_in : State → ℕ → ℕ
kept_in Free word = word
kept_in (Held owner) word = word
kept_in Damaged word = 0

unfoldable pub kept_of : ℕ → ℕ → ℕ → ℕ → ℕ
kept_of next bit owner word = kept_in (state_of next bit owner) word

-- a cell's three words: "damaged cells become free, all waiters become 0, .. and sound cells keep their bit and owner"
unfoldable pub mended_cell : ℕ → ℕ → ℕ → ℕ → List ℕ
mended_cell next bit owner waiters = kept_of next bit owner bit ∷ kept_of next bit owner owner ∷ 0 ∷ []

-- "go over the arena": cell by cell; a word left over is no cell's
unfoldable pub mended_table : ℕ → List ℕ → List ℕ
mended_table next [] = []
mended_table next (bit ∷ []) = bit ∷ []
mended_table next (bit ∷ owner ∷ []) = bit ∷ owner ∷ []
mended_table next (bit ∷ owner ∷ waiters ∷ t) = mended_cell next bit owner waiters ++ mended_table next t

-- "health bytes other than 0 and 1 become 1"
unfoldable pub mended_byte : ℕ → ℕ
mended_byte b = if leb b 1 then b else 1

unfoldable pub mended_health : List ℕ → List ℕ
mended_health [] = []
mended_health (b ∷ g) = mended_byte b ∷ mended_health g

-- ---- what is reported

-- "each word or byte changed: place, old, new"
unfoldable pub change_of : ℕ → ℕ → ℕ → List ℕ
change_of place old new = if eqb old new then [] else (place ∷ old ∷ new ∷ [])

-- "in rising order": of two runs, the places where they differ, from `place` on
unfoldable pub changes_from : ℕ → List ℕ → List ℕ → List ℕ
changes_from place [] new = []
changes_from place (a ∷ old) [] = []
changes_from place (a ∷ old) (b ∷ new) = change_of place a b ++ changes_from (place + 1) old new

-- "A lent report lists each word or byte changed: .. health places counting on from the table's."
unfoldable pub changes_of : Head → List ℕ → List ℕ → List ℕ
changes_of h t g = changes_from 0 t (mended_table h.next t) ++ changes_from (3 * cells_of h) g (mended_health g)

-- an entry is three words
abbrev pub entries_of : Head → List ℕ → List ℕ → ℕ
entries_of h t g = length (changes_of h t g) / 3

-- the cells that are held, `left` of them from cell c on
unfoldable pub held_from : ℕ → ℕ → ℕ → List ℕ → List ℕ
held_from next zero c t = []
held_from next (suc left) c t =
    if is_held next (bit_at t c) (owner_at t c) then c ∷ held_from next left (c + 1) t else held_from next left (c + 1) t

-- "Cells left held are listed apart as unconfirmed."
unfoldable pub left_held : ℕ → ℕ → List ℕ → List ℕ
left_held next cells t = held_from next cells 0 (mended_table next t)

-- ---- the call

-- words at the front of a lent run; those behind them are as they were
unfoldable pub over_of : List ℕ → List ℕ → List ℕ
over_of words run = words ++ drop (length words) run

-- what comes of a salvage: its reply, and table, health, report and list of unconfirmed cells
abbrev pub Salvage : Type 0
Salvage = SalvageReply × (List ℕ × (List ℕ × (List ℕ × List ℕ)))

-- the head as it was given. Document 02, L8: "Salvage keeps the boot number of the head it was given."
abbrev pub concluded : Head → SalvageAnswer → SalvageReply
concluded h a = record { head = h; answer = a }

-- "refuse ReportFull .. if the report or that list cannot hold all its entries, and only then"
unfoldable pub is_report_full : Head → List ℕ → List ℕ → List ℕ → List ℕ → Bool
is_report_full h t g report list =
    ltb (length report / 3) (entries_of h t g) || ltb (length list) (length (left_held h.next (cells_of h) t))

-- the four lent runs: all is mended, and what was changed or left held is listed
unfoldable pub mend_of : Head → List ℕ → List ℕ → List ℕ → List ℕ → List ℕ × (List ℕ × (List ℕ × List ℕ))
mend_of h t g report list =
    (mended_table h.next t, (mended_health g, (over_of (changes_of h t g) report, over_of (left_held h.next (cells_of h) t) list)))

-- both numbers of entries, with the head as it was given
abbrev pub salvaged_of : Head → List ℕ → List ℕ → List ℕ → List ℕ → Salvage
salvaged_of h t g report list =
    (concluded h (Ok ((entries_of h t g), (length (left_held h.next (cells_of h) t)))), mend_of h t g report list)

-- a refusal changes nothing
abbrev pub unsalvaged : Head → List ℕ → List ℕ → List ℕ → List ℕ → SalvageAnswer → Salvage
unsalvaged h t g report list a = (concluded h a, (t, (g, (report, list))))

-- "refuse ReportFull before the first change if the report or that list cannot hold all its entries"
unfoldable pub go_over_of : Head → List ℕ → List ℕ → List ℕ → List ℕ → Salvage
go_over_of h t g report list =
    if is_report_full h t g report list then unsalvaged h t g report list (Err ReportFull) else salvaged_of h t g report list

-- "Given that head, go over the arena": "After BadShape"
unfoldable pub salvage_of : Head → List ℕ → List ℕ → List ℕ → List ℕ → Salvage
salvage_of h t g report list =
    judge (first (prepare_rules h t g)) (λ r. unsalvaged h t g report list (Err BadShape)) (go_over_of h t g report list)

-- ---- cases: two headers of three cells, the next serial 9

abbrev paper : Head
paper = head_of 2 3 9 5

-- held; bit 2; free and waited for; held by a serial not yet issued; held and waited for; free with an owner
abbrev found : List ℕ
found = 1 ∷ 5 ∷ 0 ∷ 2 ∷ 0 ∷ 0 ∷ 0 ∷ 0 ∷ 7 ∷ 1 ∷ 9 ∷ 4 ∷ 1 ∷ 8 ∷ 2 ∷ 0 ∷ 3 ∷ 0 ∷ []

abbrev sick : List ℕ
sick = 0 ∷ 2 ∷ []

abbrev mended : List ℕ
mended = 1 ∷ 5 ∷ 0 ∷ 0 ∷ 0 ∷ 0 ∷ 0 ∷ 0 ∷ 0 ∷ 0 ∷ 0 ∷ 0 ∷ 1 ∷ 8 ∷ 0 ∷ 0 ∷ 0 ∷ 0 ∷ []

-- place, old, new of each word changed: cell 1 has one entry, cell 3 has three; header 1's byte is place 18 + 1
abbrev entries : List ℕ
entries = 3 ∷ 2 ∷ 0 ∷ 8 ∷ 7 ∷ 0 ∷ 9 ∷ 1 ∷ 0 ∷ 10 ∷ 9 ∷ 0 ∷ 11 ∷ 4 ∷ 0 ∷ 14 ∷ 2 ∷ 0 ∷ 16 ∷ 3 ∷ 0 ∷ 19 ∷ 2 ∷ 1 ∷ []

abbrev blank : ℕ → List ℕ
blank n = replicate n 77

-- what each sentence of the request says of them
pub record Cases : Type 0 where
  -- "damaged cells become free, all waiters become 0", "and sound cells keep their bit and owner"
  pub table_mended : mended_table 9 found ≡ mended
  -- "health bytes other than 0 and 1 become 1"
  pub bytes_mended : mended_health (0 ∷ 1 ∷ 2 ∷ 255 ∷ []) ≡ 0 ∷ 1 ∷ 1 ∷ 1 ∷ []
  -- "place, old, new, in rising order, health places counting on from the table's"
  pub reported : changes_of paper found sick ≡ entries
  -- a word that does not change has no entry: a damaged cell of bit 2, owner 0 and no waiters has one
  pub one_entry : changes_of (head_of 1 1 9 5) (2 ∷ 0 ∷ 0 ∷ []) (0 ∷ []) ≡ 0 ∷ 2 ∷ 0 ∷ []
  -- "Cells left held are listed apart as unconfirmed."
  pub held_listed : left_held 9 6 found ≡ 0 ∷ 4 ∷ []
  -- two cells held by one owner are sound, each by itself
  pub doubled_kept : left_held 9 2 (1 ∷ 5 ∷ 0 ∷ 1 ∷ 5 ∷ 0 ∷ []) ≡ 0 ∷ 1 ∷ []
  -- the whole call; a report whose length is no multiple of 3 has room for 8 entries, and the words behind them stay
  pub called : salvage_of paper found sick (blank 26) (blank 3)
      ≡ (concluded paper (Ok (8, 2)), (mended, (0 ∷ 1 ∷ [], (entries ++ blank 2, 0 ∷ 4 ∷ 77 ∷ []))))
  -- report and list exactly full
  pub just_fits : salvage_of paper found sick (blank 24) (blank 2)
      ≡ (concluded paper (Ok (8, 2)), (mended, (0 ∷ 1 ∷ [], (entries, 0 ∷ 4 ∷ []))))
  -- one word short: ReportFull, and nothing has changed; the list one short: the same
  pub report_short : salvage_of paper found sick (blank 23) (blank 2) ≡ unsalvaged paper found sick (blank 23) (blank 2) (Err ReportFull)
  pub list_short : salvage_of paper found sick (blank 24) (blank 1) ≡ unsalvaged paper found sick (blank 24) (blank 1) (Err ReportFull)
  -- "After BadShape": a table or a health too short is that, whatever room there is
  pub table_short : salvage_of paper (drop 1 found) sick [] [] ≡ unsalvaged paper (drop 1 found) sick [] [] (Err BadShape)
  pub health_short : salvage_of paper found (0 ∷ []) [] [] ≡ unsalvaged paper found (0 ∷ []) [] [] (Err BadShape)
  -- "A second salvage reports no change.", and needs no report
  pub again : salvage_of paper mended (0 ∷ 1 ∷ []) [] (blank 2)
      ≡ (concluded paper (Ok (0, 2)), (mended, (0 ∷ 1 ∷ [], ([], 0 ∷ 4 ∷ []))))

pub cases_hold : Cases
unfolding bit_at owner_at is_free is_held state_of head_fits shape_fits health_fits first prepare_rules kept_of mended_cell mended_table mended_byte mended_health change_of changes_from changes_of held_from left_held over_of is_report_full mend_of go_over_of salvage_of
cases_hold =
    record {
      table_mended = refl;
      bytes_mended = refl;
      reported = refl;
      one_entry = refl;
      held_listed = refl;
      doubled_kept = refl;
      called = refl;
      just_fits = refl;
      report_short = refl;
      list_short = refl;
      table_short = refl;
      health_short = refl;
      again = refl;
    }
