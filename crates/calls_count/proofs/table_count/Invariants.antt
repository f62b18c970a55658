-- The count so far and that of the entries left make the whole; at most four an entry.
use Rattle.std.proofs.Common.{◌≡◌, false, ◌≤◌, ◌+◌, ◌*◌, drop}
use Rattle.calls.specs.Kept.{table_count}
use Rattle.calls_count.proofs.table_count.Given as goal

abbrev pub invariant-loop-line : goal.invariant-loop-line
invariant-loop-line l = record {
  few : l.count ≤ 4 * l.line-index;
  all : l.count + table_count l.joined (drop l.line-index l.lines) ≡ table_count false l.lines;
}
