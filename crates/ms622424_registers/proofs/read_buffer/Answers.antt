use Rattle.std.proofs.Common.{rules, refl}
use Rattle.vocabulary.specs.Component.{component_at}
use Rattle.ms622424.specs.Ms622424.{readable, buffer_byte, buffer_stepped, stepped}
use Rattle.ms622424_registers.proofs.Arms.{buffer_served, blue_refused}
use Rattle.ms622424_registers.proofs.read_buffer.Goals as goal

pub returns-in-0 : goal.returns-in-0
unfolding readable buffer_byte buffer_stepped stepped component_at
returns-in-0 c q m h = search (buffer_served, rules)

pub returns-in-1 : goal.returns-in-1
unfolding readable buffer_byte buffer_stepped stepped component_at
returns-in-1 c q m h = buffer_served _ q m _ h c.in-1.is refl c.accepted-in-1.ensures refl refl

pub returns-in_default : goal.returns-in_default
returns-in_default c q m h = search (blue_refused, rules)
