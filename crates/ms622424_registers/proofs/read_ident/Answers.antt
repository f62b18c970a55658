use Rattle.std.proofs.Common.{refl}
use Rattle.ms622424.specs.Ms622424.{register_at, readable, answers}
use Rattle.ms622424_registers.proofs.Arms.{register_served}
use Rattle.ms622424_registers.proofs.read_ident.Goals as goal

pub returns : goal.returns
unfolding register_at readable answers
returns c q m h = register_served _ q m _ h 6 c.accepted.ensures refl refl refl refl
