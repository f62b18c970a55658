use Rattle.std.proofs.Common.{rules, refl}
use Rattle.ms622424.specs.Ms622424.{register_at, writable, written}
use Rattle.ms622424_set.proofs.Arms.{register_set}
use Rattle.ms622424_set.proofs.set_address_high.Goals as goal

pub returns : goal.returns
unfolding register_at writable written
returns c q m h =
    register_set _ q m _ 1 _ h (search rules) c.accepted.ensures refl refl (rw c.from.ensures refl)
