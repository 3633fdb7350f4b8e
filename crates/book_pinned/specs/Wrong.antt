-- Wrong builds of the book, each with one slip in its write, and that none meets `Statement`. Each is ours but for that slip; a row names a book, and a number in
-- which the two differ there, computed: one slot, its cell held by serial 1, a write of speed 16. What field `writes` says of that write allows ours alone.
use Rattle.std.specs.Prelude.{ℕ, ◌+◌, ◌*◌, ◌-◌, ◌≡◌, refl, List, [], ◌∷◌, ◌++◌, eqb, length, get_or, replicate, if◌then◌else◌, Ok, Err}
use Rattle.std.proofs.Common.{sym, ap, ◌∙◌, arith}
use Rattle.std.proofs.lemmas.List.Edits.{sets}
use Rattle.model.specs.Arena.{head_of, lease_of, head_fits, shape_fits, bit_at, owner_at, is_free, is_held, state_of, state_at, is_live}
use Rattle.types.specs.declared.Head.{Head}
use Rattle.types.specs.declared.Lease.{Lease}
use Rattle.setpoint.specs.Codec.{is_finite, bytes_of, body_of, join_of, setting_of, decode_of}
use Rattle.setpoint.specs.declared.Setpoint.{Setpoint}
use Rattle.setpoint.specs.declared.Setpoint.TheVariants.{Speed}
use Rattle.book_rules.specs.Layout.{slots_of, line_at, five_at, line_of, lines_of, front_of, all, place_at, length_at, version_at, newest_at, is_kept, setting_at, is_falling, is_fitting, is_apart, is_sound}
use Rattle.book_rules.specs.Rules.{BookAnswer, is_holder, first_fault, judge_book, is_bad_book, is_bad_slot, claim_rules, over_rules, write_rules}
use Rattle.book_rules.specs.Writing.{count, most, put_many, drop_oldest_of, kept_of, end_of, is_crowded, is_full, rank_of, slid_of, moved_of, erased_of, laid_of, if_kept, place_bytes, compact_of, append_of, put_over_of, put_of}
use Rattle.book_rules.specs.Calls.{prepare_book_of, written_of, write_setpoint_of, read_version_of, read_setpoint_of}
use Rattle.book_rules.specs.declared.BookDone.TheVariants.{Done, Written, Setting}
use Rattle.book_rules.specs.declared.BookRefusal.TheVariants.{BookFull}
use Rattle.book_pinned.specs.Statement.{BookBuild, MeetsBook}
use Rattle.book_pinned.specs.Met.{ours}
use Rattle.book_pinned.specs.Theorems.{no_other_book}

-- ---- the builds

abbrev writing : (Head → (table book : List ℕ) (slot : ℕ) → Lease → Setpoint → BookAnswer × List ℕ) → BookBuild
writing w = record { prepare = prepare_book_of; write = w; read = read_setpoint_of; read_version = read_version_of }

-- ours, where no refusal applies otherwise
abbrev putting : (ℕ → List ℕ → ℕ → Setpoint → ℕ → ℕ × List ℕ) → BookBuild
putting put =
    writing (λ h t b slot l s. judge_book (first_fault (write_rules h t b slot l s)) (λ r. (Err r, b))
    (written_of (newest_at b slot + 1) (put (slots_of h) b slot s (newest_at b slot + 1))))

-- it puts the new body right behind the contents, where these five bytes are free
abbrev pub fills_gaps : BookBuild
fills_gaps =
    putting (λ n b slot s v. let d = drop_oldest_of b slot in
    if eqb (rank_of n d (front_of n + 5)) 0 then (0, append_of d slot s v (front_of n)) else put_of n b slot s v)

-- it counts the new body among the moved
abbrev pub counts_the_new : BookBuild
counts_the_new =
    putting (λ n b slot s v. let d = drop_oldest_of b slot in
    if is_crowded n d then (moved_of n d + 5, append_of (compact_of n d) slot s v (front_of n + 5 * kept_of n d))
    else (0, append_of d slot s v (end_of n d)))

-- it slides bodies and leaves vacated bytes as they were
abbrev laid_over : ℕ → List ℕ → List ℕ
laid_over n d =
    put_many (lines_of n) (λ k. 8 * k) (λ k. if_kept d k (place_bytes (slid_of n d (place_at d k))))
    (put_many (lines_of n) (λ k. slid_of n d (place_at d k)) (λ k. if_kept d k (five_at d (place_at d k))) d)

abbrev pub leaves_vacated : BookBuild
leaves_vacated =
    putting (λ n b slot s v. let d = drop_oldest_of b slot in
    if is_crowded n d then (moved_of n d, append_of (laid_over n d) slot s v (front_of n + 5 * kept_of n d))
    else (0, append_of d slot s v (end_of n d)))

-- it clears all bytes behind the bodies when it slides, also those that were no body's
abbrev pub clears_the_rest : BookBuild
clears_the_rest =
    putting (λ n b slot s v. let d = drop_oldest_of b slot in
    let end = front_of n + 5 * kept_of n d in
    if is_crowded n d then (moved_of n d, sets (append_of (compact_of n d) slot s v end) (end + 5) (replicate (length d - (end + 5)) 0))
    else (0, append_of d slot s v (end_of n d)))

-- it looks for room before it drops the oldest of four
abbrev pub drops_too_late : BookBuild
drops_too_late =
    writing (λ h t b slot l s.
    if is_full (slots_of h) b then (Err BookFull, b) else write_setpoint_of h t b slot l s)

-- ---- the books

abbrev head : Head
head = head_of 1 1 2 5

abbrev table : List ℕ
table = 1 ∷ 1 ∷ 0 ∷ []

abbrev line : (place version : ℕ) → List ℕ
line p v = p ∷ 0 ∷ 5 ∷ 0 ∷ v ∷ 0 ∷ 0 ∷ 0 ∷ []

abbrev unused : List ℕ
unused = 0 ∷ 0 ∷ 0 ∷ 0 ∷ 0 ∷ 0 ∷ 0 ∷ 0 ∷ []

abbrev speed : ℕ → List ℕ
speed x = 2 ∷ x ∷ 0 ∷ 0 ∷ 0 ∷ []

abbrev gap : List ℕ
gap = 0 ∷ 0 ∷ 0 ∷ 0 ∷ 0 ∷ []

-- one version, with room before it and behind it
abbrev roomy : List ℕ
roomy = line 37 1 ++ (unused ++ (unused ++ (unused ++ (gap ++ (speed 11 ++ gap)))))

-- four versions, with room before them alone
abbrev crowded : List ℕ
crowded = line 52 5 ++ (line 47 4 ++ (line 42 3 ++ (line 37 2 ++ (gap ++ (speed 12 ++ (speed 13 ++ (speed 14 ++ speed 15)))))))

-- the same, and four bytes behind them that are no body's
abbrev littered : List ℕ
littered = crowded ++ (9 ∷ 9 ∷ 9 ∷ 9 ∷ [])

-- four versions, and no room but that of the oldest
abbrev packed : List ℕ
packed = line 47 4 ++ (line 42 3 ++ (line 37 2 ++ (line 32 1 ++ (speed 11 ++ (speed 12 ++ (speed 13 ++ speed 14))))))

abbrev on : BookBuild → List ℕ → BookAnswer × List ℕ
on f b = f.write head table b 0 (lease_of 0 1 5) (Speed 16)

-- the bytes moved; whether it is refused
abbrev moved_by : BookAnswer → ℕ
moved_by (Ok (Written v m)) = m
moved_by (Ok Done) = 0
moved_by (Ok (Setting s v)) = 0
moved_by (Err r) = 0

abbrev refused : BookAnswer → ℕ
refused (Ok (Written v m)) = 0
refused (Ok Done) = 0
refused (Ok (Setting s v)) = 0
refused (Err r) = 1

-- ---- they fall

falls : (f : BookBuild) (b : List ℕ) (look : BookAnswer × List ℕ → ℕ) (wrong right : ℕ) → look (on f b) ≡ wrong → look (on ours b) ≡ right → (wrong ≡ right → ⊥)
    → MeetsBook f → ⊥
falls f b look wrong right p q n m = n (sym p ∙ (ap look ((no_other_book f m).write head table b 0 (lease_of 0 1 5) (Speed 16)) ∙ q))

-- the line's place: right behind the contents, behind the last body. The bytes moved: three bodies slide. Byte 52, the newest body's kind before, no body's
-- afterwards. Byte 60, no body's before and afterwards. Refused or not: after the drop three bodies are kept, and five bytes are left
numbers : (get_or (on fills_gaps roomy).1 0 0 ≡ 32) × (get_or (on ours roomy).1 0 0 ≡ 42)
    × (moved_by (on counts_the_new crowded).0 ≡ 20) × (moved_by (on ours crowded).0 ≡ 15)
    × (get_or (on leaves_vacated crowded).1 52 0 ≡ 2) × (get_or (on ours crowded).1 52 0 ≡ 0)
    × (get_or (on clears_the_rest littered).1 60 0 ≡ 0) × (get_or (on ours littered).1 60 0 ≡ 9)
    × (refused (on drops_too_late packed).0 ≡ 1) × (refused (on ours packed).0 ≡ 0)
unfolding write_setpoint_of claim_rules over_rules first_fault is_bad_slot is_bad_book is_holder is_live state_at state_of is_free is_held bit_at owner_at head_fits shape_fits is_finite is_sound is_falling is_fitting is_apart all place_at length_at version_at is_kept setting_at count most put_many drop_oldest_of kept_of end_of is_crowded is_full rank_of slid_of moved_of erased_of laid_of compact_of append_of put_over_of put_of join_of setting_of decode_of line_at five_at line_of body_of bytes_of
numbers = (refl, refl, refl, refl, refl, refl, refl, refl, refl, refl)

pub fills_gaps_falls : MeetsBook fills_gaps → ⊥
fills_gaps_falls = falls fills_gaps roomy (λ x. get_or x.1 0 0) 32 42 numbers.0 numbers.1 (λ e. omega arith)

pub counts_the_new_falls : MeetsBook counts_the_new → ⊥
counts_the_new_falls = falls counts_the_new crowded (λ x. moved_by x.0) 20 15 numbers.2 numbers.3 (λ e. omega arith)

pub leaves_vacated_falls : MeetsBook leaves_vacated → ⊥
leaves_vacated_falls = falls leaves_vacated crowded (λ x. get_or x.1 52 0) 2 0 numbers.4 numbers.5 (λ e. omega arith)

pub clears_the_rest_falls : MeetsBook clears_the_rest → ⊥
clears_the_rest_falls = falls clears_the_rest littered (λ x. get_or x.1 60 0) 0 9 numbers.6 numbers.7 (λ e. omega arith)

pub drops_too_late_falls : MeetsBook drops_too_late → ⊥
drops_too_late_falls = falls drops_too_late packed (λ x. refused x.0) 1 0 numbers.8 numbers.9 (λ e. omega arith)
