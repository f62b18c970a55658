use Rattle.calls.proofs.Count.{count_all}
use Rattle.calls_count.proofs.count_of.Goals as goal

pub returns : goal.returns
returns c = count_all c.args.lines.now c.requires c.table_count.ensures.0 c.table_count-2.ensures.0
