use Rattle.std.proofs.Common.{rules}
use Rattle.ms622424_room.proofs.Arms.{forced, has}
use Rattle.ms622424_room.proofs.make_room.Goals as goal

pub returns-then-s-eq64 : goal.returns-then-s-eq64
returns-then-s-eq64 c = search (forced, rules)

pub returns : goal.returns
returns c = search (has, rules)
