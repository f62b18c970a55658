-- For any queue q with which the chip is in range (h): refusal 5 outside read mode, 6 while colours wait, else the
-- byte (`Arms`). The code asks the state's count, and h makes that the queue's.
use Rattle.std.proofs.Common.{rules, arith}
use Rattle.ms622424.specs.Ms622424.{answers}
use Rattle.ms622424_map_read.proofs.Arms.{outside_refused, waiting_refused, palette_served}
use Rattle.ms622424_map_read.proofs.read_palette.Goals as goal

pub returns-then-s-eq0 : goal.returns-then-s-eq0
returns-then-s-eq0 c q h = search (outside_refused, rules)

pub returns-then-s-ne0 : goal.returns-then-s-ne0
returns-then-s-ne0 c q h = waiting_refused _ q _ _ h (search rules) (λ z. omega arith) (search rules)

pub returns : goal.returns
unfolding answers
returns c q h = search (palette_served, rules)
