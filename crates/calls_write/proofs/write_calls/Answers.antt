-- The registers' calls take the first n bytes, and the tables' calls go into the rest, which is lent on: a word in
-- two parts, as in `tables_calls`. A good sheet has all four registers (`Kept`), whose eight bytes then fit.
use Rattle.std.proofs.Common.{rules}
use Rattle.calls.proofs.Lent.{registers_fit, calls_inside, calls_room, calls_behind}
use Rattle.calls_write.proofs.write_calls.Goals as goal

pub register_calls-n-requires : goal.register_calls-n-requires
register_calls-n-requires c =
    (c.requires.0, registers_fit c.args.lines.now c.args.out.now c.requires.1 c.requires.0)

pub slice_bounds-tables_calls-count : goal.slice_bounds-tables_calls-count
slice_bounds-tables_calls-count c =
    calls_inside c.args.lines.now c.args.out.now c.requires.1 c.register_calls-n.ensures

pub slice_bounds-tables_calls-start : goal.slice_bounds-tables_calls-start
slice_bounds-tables_calls-start c =
    let h = calls_inside c.args.lines.now c.args.out.now c.requires.1 c.register_calls-n.ensures in search rules

pub tables_calls-requires : goal.tables_calls-requires
tables_calls-requires c =
    (c.requires.0, calls_room c.args.lines.now c.args.out.now c.requires.1 c.register_calls-n.ensures)

pub returns : goal.returns
returns c =
    calls_behind c.args.lines.now c.args.out.now c.requires.1 c.register_calls-n.ensures c.tables_calls.ensures
