use Rattle.vocabulary.proofs.Table.{table_rule}
use Rattle.std.proofs.Common.{rules}
use Rattle.expand.specs.Expand.{filled, ten}
use Rattle.expand_widths.proofs.eight_listed.Goals as goal

pub returns : goal.returns
unfolding ten filled
returns c = table_rule (ten 8) 256 c.args.v (search rules)
