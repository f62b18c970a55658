use Rattle.std.proofs.Common.{rules}
use Rattle.vocabulary.specs.Choice.{pick}
use Rattle.ms622424.specs.Ms622424.{status_of, mark}
use Rattle.ms622424_status.proofs.status.Goals as goal

pub returns : goal.returns
unfolding status_of mark pick
returns c = search rules
