use Rattle.std.proofs.Common.{rules}
use Rattle.port_log.proofs.Patterns.{said_next}
use Rattle.log_parse.proofs.parse.Goals as goal

pub returns : goal.returns
returns c = search (said_next, rules)
