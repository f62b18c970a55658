-- The overlays' calls take the first n bytes, and the table's calls go into the rest, which is lent on. The laws of a
-- word in two parts (`Lent`): the first fits, n lies in the buffer, the second fits the rest, both make the whole.
use Rattle.std.proofs.Common.{rules}
use Rattle.calls.proofs.Lent.{overlays_fit, tables_inside, tables_room, tables_behind}
use Rattle.calls_write.proofs.tables_calls.Goals as goal

pub table_calls-n-requires : goal.table_calls-n-requires
table_calls-n-requires c = (search rules, overlays_fit c.args.lines.now c.args.out.now c.requires.1)

pub slice_bounds-table_calls-count-3 : goal.slice_bounds-table_calls-count-3
slice_bounds-table_calls-count-3 c =
    tables_inside c.args.lines.now c.args.out.now c.requires.1 c.table_calls-n.ensures

pub slice_bounds-table_calls-start-3 : goal.slice_bounds-table_calls-start-3
slice_bounds-table_calls-start-3 c =
    let h = tables_inside c.args.lines.now c.args.out.now c.requires.1 c.table_calls-n.ensures in search rules

pub table_calls-requires : goal.table_calls-requires
table_calls-requires c =
    (search rules, tables_room c.args.lines.now c.args.out.now c.requires.1 c.table_calls-n.ensures)

pub returns : goal.returns
returns c =
    tables_behind c.args.lines.now c.args.out.now c.requires.1 c.table_calls-n.ensures c.table_calls.ensures.1
