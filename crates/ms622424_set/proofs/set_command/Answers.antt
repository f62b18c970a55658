use Rattle.std.proofs.Common.{rules}
use Rattle.ms622424.specs.Ms622424.{register_at, writable, written}
use Rattle.ms622424_set.proofs.Arms.{register_set}
use Rattle.ms622424_set.proofs.set_command.Goals as goal

pub returns : goal.returns
unfolding register_at writable written
returns c q m h = search (register_set, rules)
