-- By the counter: 0 is red, 1 is green, where only the port changes; any other is blue, where `put` promises the
-- entry at the queue's end (`takes_red`, `takes_green`, `takes_blue`). For any map m, since none is lent.
use Rattle.std.proofs.Common.{arith}
use Rattle.ms622424.specs.Ms622424.{taken, stepped}
use Rattle.ms622424_take.proofs.Takes.{takes_red, takes_green, takes_blue}
use Rattle.ms622424_take.proofs.take_byte.Goals as goal

pub returns-in-0 : goal.returns-in-0
unfolding taken stepped
returns-in-0 c m = takes_red _ _ (omega arith)

pub returns-in-1 : goal.returns-in-1
unfolding taken stepped
returns-in-1 c m = takes_green _ _ (omega arith)

pub returns-in_default : goal.returns-in_default
unfolding taken stepped
returns-in_default c m = takes_blue _ _ (λ e. omega arith) (λ e. omega arith) (c.put-n.ensures m)
