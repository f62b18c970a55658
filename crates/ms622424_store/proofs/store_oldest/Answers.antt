-- The oldest lie in one row (`row_low`, `row_stored`), or round the places' end in two (`rows_low`, `rows_stored`).
use Rattle.std.proofs.Common.{arith}
use Rattle.ms622424_store.proofs.Stores.{row_low, row_stored, rows_low, rows_stored}
use Rattle.ms622424_store.proofs.store_oldest.Goals as goal

pub store_row-requires : goal.store_row-requires
store_row-requires c =
    row_low c.args.queue.now c.args.first c.args.waiting _ c.told-queue c.requires.sizes.0 (omega arith)
    c.requires.sizes.1 c.if-end-le64.true c.requires.in_map

pub returns-then-end-le64-clause-map_after : goal.returns-then-end-le64-clause-map_after
returns-then-end-le64-clause-map_after c =
    row_stored c.args.queue.now c.args.first c.args.waiting _ c.told-queue c.requires.sizes.0 (omega arith)
    c.requires.sizes.1 c.if-end-le64.true _ c.store_row.ensures

pub store_row-requires-2 : goal.store_row-requires-2
store_row-requires-2 c =
    (rows_low c.args.queue.now c.args.first c.args.waiting c.min-moved.result c.told-queue c.requires.sizes.0
    (omega arith) c.requires.sizes.1 (omega arith) c.requires.in_map).0

pub store_row-requires-3 : goal.store_row-requires-3
store_row-requires-3 c =
    (rows_low c.args.queue.now c.args.first c.args.waiting c.min-moved.result c.told-queue c.requires.sizes.0
    (omega arith) c.requires.sizes.1 (omega arith) c.requires.in_map).1

pub returns-clause-map_after : goal.returns-clause-map_after
returns-clause-map_after c =
    rows_stored c.args.queue.now c.args.first c.args.waiting c.min-moved.result c.told-queue c.requires.sizes.0
    (omega arith) c.requires.sizes.1 (omega arith) _ c.store_row-2.ensures c.store_row-3.ensures
