-- Document 02, L2 and L10: the calls of the book. Each gives its answer and the book afterwards; a read leaves the book alone.
-- "refusals change nothing"
use Rattle.std.specs.Prelude.{ℕ, ◌*◌, ◌+◌, ◌-◌, List, length, replicate, Option, Some, None, Ok, Err}
use Rattle.types.specs.declared.Head.{Head}
use Rattle.types.specs.declared.Lease.{Lease}
use Rattle.setpoint.specs.declared.Setpoint.{Setpoint}
use Rattle.book_rules.specs.Layout.{slots_of, place_at, newest_at, setting_at}
use Rattle.book_rules.specs.Writing.{put_of}
use Rattle.book_rules.specs.Rules.{BookAnswer, first_fault, judge_book, book_rules, write_rules, read_rules}
use Rattle.book_rules.specs.declared.BookDone.TheVariants.{Done, Written, Setting}
use Rattle.book_rules.specs.declared.BookRefusal.TheVariants.{DamagedBook}

-- "Preparing the book writes all of it, so what is read never depends on older bytes."
unfoldable pub prepare_book_of : Head → List ℕ → BookAnswer × List ℕ
prepare_book_of h b = judge_book (first_fault (book_rules h (length b))) (λ r. (Err r, b)) (Ok Done, replicate (length b) 0)

-- "Writing needs a live lease on the slot's cell and raises the version by one." L10: "the result reports bytes moved"
abbrev pub written_of : ℕ → ℕ × List ℕ → BookAnswer × List ℕ
written_of v o = (Ok (Written v o.0), o.1)

unfoldable pub write_setpoint_of : Head → List ℕ → List ℕ → ℕ → Lease → Setpoint → BookAnswer × List ℕ
write_setpoint_of h t b slot l s =
    judge_book (first_fault (write_rules h t b slot l s)) (λ r. (Err r, b))
    (written_of (newest_at b slot + 1) (put_of (slots_of h) b slot s (newest_at b slot + 1)))

-- the second is refused by the rules already
abbrev pub read_as : Option Setpoint → ℕ → BookAnswer
read_as (Some s) v = Ok (Setting s v)
read_as None v = Err DamagedBook

-- what line k holds, with version v
unfoldable pub line_read : List ℕ → ℕ → ℕ → BookAnswer
line_read b k v = read_as (setting_at b (place_at b k)) v

-- version w of a slot stands newest - w lines behind the newest
unfoldable pub read_version_of : Head → List ℕ → ℕ → ℕ → BookAnswer
read_version_of h b slot w =
    judge_book (first_fault (read_rules h b slot w)) Err (line_read b (4 * slot + (newest_at b slot - w)) w)

-- a slot is read as its newest version is
unfoldable pub read_setpoint_of : Head → List ℕ → ℕ → BookAnswer
read_setpoint_of h b slot = read_version_of h b slot (newest_at b slot)
