use Rattle.std.proofs.Common.{arith}
use Rattle.hd153108.specs.Hd153108.{stepped, latched, stored}
use Rattle.hd153108.proofs.Access.{places}
use Rattle.hd153108_data_write.proofs.data_write.Goals as goal

pub returns-in-0 : goal.returns-in-0
unfolding stepped latched stored
returns-in-0 c = grind (arith, places)

pub returns-in-1 : goal.returns-in-1
unfolding stepped latched stored
returns-in-1 c = grind (arith, places)

pub returns-in_default : goal.returns-in_default
unfolding stepped latched stored
returns-in_default c = grind (arith, places)
