-- `book_compact::put_places` meets its contract.
use Rattle.std.proofs.Common.{◌≡◌, ◌*◌, sym, arith}
use Rattle.book_compact.specs.Lines.{put_places_of, placed_start, counted_start, counted_small, placed_lies, turned, done_small}
use Rattle.book_compact.proofs.put_places.Goals as goal

pub loop-k-init : goal.loop-k-init
loop-k-init c =
    let a = c.args in
    record { counted = sym (counted_start a.n a.ranks.now a.book.now); placed = sym (placed_start a.n a.ranks.now a.book.now) }

pub put_place-moved-requires-clause-line_lies : goal.put_place-moved-requires-clause-line_lies
put_place-moved-requires-clause-line_lies c =
    let l = c.loop-k in
    let a = c.args in
    placed_lies a.n a.ranks.now a.book.now l.book l.k l.invariant.placed c.requires.lying c.loop-k-test.true

pub overflow_add-moved : goal.overflow_add-moved
overflow_add-moved c =
    let l = c.loop-k in
    let a = c.args in
    omega (arith, l.invariant.counted, counted_small a.n a.ranks.now a.book.now l.k, done_small _ _ _ _ _ c.put_place-moved.ensures, c.loop-k-test.true, c.requires.n_bound)

pub loop-k-preserved : goal.loop-k-preserved
loop-k-preserved c =
    let l = c.loop-k in
    let a = c.args in
    let t = turned a.n a.ranks.now a.book.now _ l.book l.k l.moved c.put_place-moved.ensures l.invariant.placed l.invariant.counted in
    record { counted = t.0; placed = t.1 }

pub returns : goal.returns
unfolding put_places_of
returns c = let e : c.loop-k.k ≡ 4 * c.args.n = omega (arith, c.loop-k.auto.k-end, c.loop-k-test.false) in rw (c.loop-k.invariant.counted, c.loop-k.invariant.placed, e)
