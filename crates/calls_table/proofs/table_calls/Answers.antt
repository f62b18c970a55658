-- A turn writes the calls of one entry into the rest of the buffer, which is lent on and has the room (`entry_fits`,
-- `entry_ends`, `next_entry`); at the end none is left (`last_entry`).
use Rattle.std.proofs.Common.{rules}
use Rattle.calls.proofs.Turn.{last_entry, entry_ends, entry_fits, next_entry}
use Rattle.calls_table.proofs.table_calls.Goals as goal

pub put_entry-at-requires : goal.put_entry-at-requires
put_entry-at-requires c =
    entry_fits c.args.select c.args.lines.now c.args.out.now _ _ c.loop-entry.entry c.loop-entry.follows
    c.loop-entry.invariant c.loop-entry-test.true

pub overflow_add-at : goal.overflow_add-at
overflow_add-at c =
    let h =
    entry_ends c.args.select c.args.lines.now c.args.out.now _ _ c.loop-entry.entry c.loop-entry.follows
    c.loop-entry.invariant c.loop-entry-test.true in
    let e = c.put_entry-at.ensures.0 in
    search rules

pub loop-entry-preserved : goal.loop-entry-preserved
loop-entry-preserved c =
    rw c.is_some-follows.ensures
    (next_entry c.args.select c.args.lines.now c.args.out.now _ _ c.loop-entry.entry c.loop-entry.follows
    c.loop-entry.invariant c.loop-entry-test.true c.put_entry-at.ensures)

pub returns : goal.returns
returns c =
    last_entry c.args.select c.args.lines.now c.args.out.now _ _ c.loop-entry.entry c.loop-entry.follows
    c.loop-entry.invariant c.loop-entry-test.false
