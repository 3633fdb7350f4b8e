-- The statements of `Statements`, each proved; the proofs are in the files behind.
use Rattle.book_rules.specs.Calls.{write_setpoint_of, read_version_of}
use Rattle.book_theory.specs.Statements.{OthersReadAsBefore, NewReadsAsWritten, OldestIsDropped, RaisesByOne, MovedIsSummed, StillMovesNothing, SlidesMove, OrderIsKept, FullExactly, DoneExactly, RoomForAll, RefusedChangesNothing, ReadsExactly, PreparedReadsNothing, ForgetsOlderBytes, ReadsLastWrite, ReadsNewestFour, NeverExactly, NeverDamaged, NeverOverlap, FreeAreZeros, NewerLieBehind, WrittenByHolder, UnownedWritesNothing, StaleWritesNothing, OneWriter, WritersParted, UntouchedOtherwise, DamageStays}
use Rattle.book_theory.specs.After as after
use Rattle.book_theory.proofs.Runs as runs
use Rattle.book_theory.specs.Exact as exact
use Rattle.book_theory.specs.Parted as parted

-- ---- after a done write, compacting or not

pub others_read_as_before : OthersReadAsBefore write_setpoint_of read_version_of
others_read_as_before = after.others_read_as_before

pub new_reads_as_written : NewReadsAsWritten write_setpoint_of read_version_of
new_reads_as_written = after.new_reads_as_written

pub oldest_is_dropped : OldestIsDropped write_setpoint_of read_version_of
oldest_is_dropped = after.oldest_is_dropped

pub raises_by_one : RaisesByOne write_setpoint_of
raises_by_one = after.raises_by_one

pub moved_is_summed : MovedIsSummed write_setpoint_of
moved_is_summed = after.moved_is_summed

pub still_moves_nothing : StillMovesNothing write_setpoint_of
still_moves_nothing = after.still_moves_nothing

pub slides_move : SlidesMove write_setpoint_of
slides_move = after.slides_move

pub order_is_kept : OrderIsKept write_setpoint_of
order_is_kept = after.order_is_kept

-- ---- when a write is done, and when it is BookFull

pub full_exactly : FullExactly write_setpoint_of
full_exactly = after.full_exactly

pub done_exactly : DoneExactly write_setpoint_of
done_exactly = after.done_exactly

pub room_for_all : RoomForAll write_setpoint_of
room_for_all = after.room_for_all

pub refused_changes_nothing : RefusedChangesNothing write_setpoint_of
refused_changes_nothing = after.refused_changes_nothing

-- ---- what a read answers, by the book's bytes

pub reads_exactly : ReadsExactly read_version_of
reads_exactly = exact.reads_exactly

-- ---- a history from a done preparation of the book

pub prepared_reads_nothing : PreparedReadsNothing
prepared_reads_nothing = runs.prepared_reads_nothing

pub reads_last_write : ReadsLastWrite
reads_last_write = runs.reads_last_write

pub reads_newest_four : ReadsNewestFour
reads_newest_four = runs.reads_newest_four

pub never_exactly : NeverExactly
never_exactly = runs.never_exactly

pub forgets_older_bytes : ForgetsOlderBytes
forgets_older_bytes = runs.forgets_older_bytes

pub never_damaged : NeverDamaged
never_damaged = runs.never_damaged

pub never_overlap : NeverOverlap
never_overlap = runs.never_overlap

pub free_are_zeros : FreeAreZeros
free_are_zeros = runs.free_are_zeros

pub newer_lie_behind : NewerLieBehind
newer_lie_behind = runs.newer_lie_behind

-- ---- who writes

pub written_by_holder : WrittenByHolder write_setpoint_of
written_by_holder = parted.written_by_holder

pub unowned_writes_nothing : UnownedWritesNothing write_setpoint_of
unowned_writes_nothing = parted.unowned_writes_nothing

pub stale_writes_nothing : StaleWritesNothing write_setpoint_of
stale_writes_nothing = parted.stale_writes_nothing

pub one_writer : OneWriter write_setpoint_of
one_writer = parted.one_writer

pub writers_parted : WritersParted
writers_parted = parted.writers_parted

pub untouched_otherwise : UntouchedOtherwise
untouched_otherwise = runs.untouched_otherwise

pub damage_stays : DamageStays
damage_stays = runs.damage_stays
