-- `sorted::sorted_once` meets its contract.
use Prim.Native.Nat.{ℕ, ◌*◌, ◌/◌, ◌≤◌}
use mathlib.Core.List.{List}
use mathlib.Core.Path.{◌≡◌, sym, ap, subst, ◌∙◌}
use native.Mathlib.Omega.{arith}
use lib.Seq.{length-take-le, take_at}
use lib.ListN.{length, take, drop}
use Rattle.bucket.specs.Fine.{start_run_bound}
use Rattle.sorted.specs.Steps.{asked_length, sorted_length, chosen_length, cells_few, sorted_bound, placed_in, front_room, front_length, sorted_ends}
use Rattle.sorted.specs.Back.{Placed, back_of}
use Rattle.sorted.proofs.sorted_once.Goals as goal
use Rattle.sorted.proofs.sorted_once.Goals.{After-order-m, After-lock_keys-ended}

-- there are as many cells as keys, and no more than there is room for
few : (c : After-order-m) → c.order-m.result ≤ 64
few c = omega (arith, cells_few c.args.head _ _ _ _ _ _ c.order-m.ensures, c.requires.1.few)

-- the front of the leases, before and after
front : (c : After-order-m) → length (take (3 * c.order-m.result) c.room-leases.result) ≡ 3 * c.order-m.result
front c = length-take-le (3 * c.order-m.result) c.room-leases.result (omega (arith, few c, c.room-leases.ensures))

own : (c : After-lock_keys-ended) → length (take (3 * c.order-m.result) c.room-leases.result) ≡ 3 * c.order-m.result → length c.lock_keys-ended.new.grants ≡ 3 * c.order-m.result
own c f = omega (arith, c.lock_keys-ended.auto, f)

pub slice_bounds-chosen-end : goal.slice_bounds-chosen-end
slice_bounds-chosen-end c = omega (arith, few (goal.at.slice_bounds-chosen-end c).After-order-m, c.order-m.auto, c.room-chosen.ensures)

pub slice_bounds-lock_keys-end : goal.slice_bounds-lock_keys-end
slice_bounds-lock_keys-end c = sym (chosen_length c.args.head _ _ _ _ _ _ c.order-m.ensures)

pub slice_bounds-leases-end : goal.slice_bounds-leases-end
slice_bounds-leases-end c = omega (arith, few (goal.at.slice_bounds-leases-end c).After-order-m, c.room-leases.ensures)

pub slice_bounds-lock_keys-end-2 : goal.slice_bounds-lock_keys-end-2
slice_bounds-lock_keys-end-2 c = sym (front (goal.at.slice_bounds-lock_keys-end-2 c).After-order-m)

pub lock_keys-ended-requires : goal.lock_keys-ended-requires
lock_keys-ended-requires c =
    let a = c.args in
    let f = c.requires in
    let e = c.scope_of-scope.ensures in
    let s = (goal.at.lock_keys-ended-requires c).After-order-m in (
      sorted_bound a.head _ _ _ _ _ _ c.order-m.ensures _ _ _ _ a.place _ e f.0 f.1,
      (
        rw c.starting-start.ensures (start_run_bound _ a.head _ _ _ a.place e f.0.script_ok),
        (few s, (omega (arith, chosen_length c.args.head _ _ _ _ _ _ c.order-m.ensures), front s)),
      ),
    )

pub slice_bounds-leases-end-2 : goal.slice_bounds-leases-end-2
slice_bounds-leases-end-2 c = front_room _ _ (3 * c.order-m.result) (own (goal.at.slice_bounds-leases-end-2 c).After-lock_keys-ended (front (goal.at.slice_bounds-leases-end-2 c).After-order-m))

pub slice_bounds-finish-end-3 : goal.slice_bounds-finish-end-3
slice_bounds-finish-end-3 c = front_length _ _ (3 * c.order-m.result) (own (goal.at.slice_bounds-finish-end-3 c).After-lock_keys-ended (front (goal.at.slice_bounds-finish-end-3 c).After-order-m))

pub finish-requires : goal.finish-requires
finish-requires c =
    let s = sorted_length c.args.head _ _ _ _ _ _ c.order-m.ensures in (
      omega (arith, c.requires.0.grants_are, asked_length c.args.head _ _ _ _ _ _ c.order-m.ensures),
      subst (λ (k : ℕ). Placed k c.lock_keys-ended.result.answer) (sym s) (placed_in _ c.order-m.result _ _ _ _ _ _ _ _ _ c.lock_keys-ended.ensures),
    )

pub returns : goal.returns
returns c =
    let a = c.args in
    let e = take_at c.lock_keys-ended.new.grants (drop (3 * c.order-m.result) c.room-leases.result) (3 * c.order-m.result) (own (goal.at.returns c).After-lock_keys-ended (front (goal.at.returns c).After-order-m)) in
    sorted_ends a.head a.table.now a.health.now a.registry.now a.script.now a.place a.held.now a.keys.now a.grants.now c.scope_of-scope.result c.starting-start.result c.order-m.result _ _ _ _ _ _ _ c.lock_keys-ended.new.grants _ _ c.scope_of-scope.ensures c.starting-start.ensures c.order-m.ensures c.lock_keys-ended.ensures (c.finish.ensures ∙ ap (λ (z : List ℕ). back_of a.head c.lock_keys-ended.result (take (length a.keys.now / 2) c.order-m.new.asked) (take c.order-m.result c.order-m.new.sorted) z a.grants.now) e)
