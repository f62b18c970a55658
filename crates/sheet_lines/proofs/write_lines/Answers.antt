-- The first line is next (`first_line`). A turn writes one line, which fits (`line_fits`, `next_line`).
use Rattle.std.proofs.Common.{rules}
use Rattle.sheet_lines.proofs.Turn.{first_line, line_fits, next_line}
use Rattle.sheet_lines.proofs.write_lines.Goals as goal

pub loop-k-init : goal.loop-k-init
loop-k-init c = search (first_line, rules)

pub put_line-at-requires : goal.put_line-at-requires
put_line-at-requires c = search (line_fits, rules)

pub loop-k-preserved : goal.loop-k-preserved
loop-k-preserved c = search (next_line, rules)
