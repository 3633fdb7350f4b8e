-- `crew::take_turns` meets its contract.
use Rattle.std.proofs.Common.{rules, arith}
use Rattle.crew.specs.Loop.{turning, passed, add_tried, add_took, add_moved, walked, noting_none}
use Rattle.crew.proofs.take_turns.Goals as goal

pub loop-i-init : goal.loop-i-init
loop-i-init g c = noting_none _ c.args.head _ _ _ _ _ _ _ c.other_moves-left.ensures

pub loop-i-preserved-then-more-eq0 : goal.loop-i-preserved-then-more-eq0
loop-i-preserved-then-more-eq0 g c = passed _ c.args.head c.args.table.now _ _ _ _ _ c.args.starts.now _ _ _ _ _ _ _ _ c.requires.0 c.loop-i.invariant c.loop-i-test.true c.if-more-eq0.true c.pass_idle-i.ensures

pub cell_of-cell-requires : goal.cell_of-cell-requires
cell_of-cell-requires g c =
    let w = turning _ c.args.head c.args.table.now _ _ _ _ _ _ _ _ _ _ _ _ _ c.requires.0 c.requires.1 c.loop-i.invariant c.loop-i-test.true (search rules) _ c.adds_of.ensures in
    (w.fits, (w.few_cells, w.early))

pub work_move-requires : goal.work_move-requires
work_move-requires g c =
    let w = turning _ c.args.head c.args.table.now _ _ _ _ _ _ _ _ _ _ _ _ _ c.requires.0 c.requires.1 c.loop-i.invariant c.loop-i-test.true (search rules) _ c.adds_of.ensures in
    let e = c.cell_of-cell.ensures in
    (omega (arith, w.at_cell.cell_fits, w.before.run.words, e), (c.requires.0.shape.some_buckets, (rw e w.at_cell.header_fits, w.wants_few)))

pub loop-i-preserved-in-Idle : goal.loop-i-preserved-in-Idle
loop-i-preserved-in-Idle g c =
    let w = turning _ c.args.head c.args.table.now _ _ _ _ _ _ _ _ _ _ _ _ _ c.requires.0 c.requires.1 c.loop-i.invariant c.loop-i-test.true (search rules) _ c.adds_of.ensures in
    add_tried _ _ _ _ _ _ _ _ _ _ _ _ _ _ _ w.before w.here _ _ _ w.unfinished _ c.cell_of-cell.ensures _ _ _ c.work_move.ensures (search rules) (search rules) c.in-Idle.is

pub offset_bounds-cells-start : goal.offset_bounds-cells-start
offset_bounds-cells-start g c =
    let w = turning _ c.args.head c.args.table.now _ _ _ _ _ _ _ _ _ _ _ _ _ c.requires.0 c.requires.1 c.loop-i.invariant c.loop-i-test.true (search rules) _ c.adds_of.ensures in
    omega (arith, w.low.in_run, w.few_cells)

pub bounds-cells-start : goal.bounds-cells-start
bounds-cells-start g c =
    let w = turning _ c.args.head c.args.table.now _ _ _ _ _ _ _ _ _ _ _ _ _ c.requires.0 c.requires.1 c.loop-i.invariant c.loop-i-test.true (search rules) _ c.adds_of.ensures in
    w.low.in_run

pub loop-i-preserved-in-Took : goal.loop-i-preserved-in-Took
loop-i-preserved-in-Took g c =
    let w = turning _ c.args.head c.args.table.now _ _ _ _ _ _ _ _ _ _ _ _ _ c.requires.0 c.requires.1 c.loop-i.invariant c.loop-i-test.true (search rules) _ c.adds_of.ensures in
    add_took _ _ _ _ _ _ _ _ _ _ _ _ _ _ _ w.before w.here _ _ _ w.unfinished _ c.cell_of-cell.ensures _ _ _ c.work_move.ensures (search rules) (search rules) _ _ _ c.in-Took.is c.note.ensures

pub loop-i-preserved : goal.loop-i-preserved
loop-i-preserved g c =
    let w = turning _ c.args.head c.args.table.now _ _ _ _ _ _ _ _ _ _ _ _ _ c.requires.0 c.requires.1 c.loop-i.invariant c.loop-i-test.true (search rules) _ c.adds_of.ensures in
    add_moved _ _ _ _ _ _ _ _ _ _ _ _ _ _ _ w.before w.here _ _ _ w.unfinished _ c.cell_of-cell.ensures _ _ _ c.work_move.ensures (search rules) (search rules) c.in-Moved.is

pub returns : goal.returns
returns g c = walked _ c.args.head c.args.table.now _ _ _ _ _ c.args.starts.now _ _ _ _ _ _ _ c.loop-i.invariant c.loop-i-test.false _ c.other_moves.ensures
