-- The calls from the entry on are left to write, they fit, and with them the buffer is as promised (`Going`).
use Rattle.std.proofs.Common.{false}
use Rattle.sheet.proofs.Going.{Going}
use Rattle.calls.proofs.Turn.{left}
use Rattle.calls_table.proofs.table_calls.Given as goal

abbrev pub invariant-loop-entry : goal.invariant-loop-entry
invariant-loop-entry l =
    Going (left l.select l.lines 0 false) l.initial.out l.out l.at (left l.select l.lines l.entry l.follows)
