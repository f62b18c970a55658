-- Mode by mode: the low 13 bits (`entry_index`), or the mode's base and the gun's byte (`entry_based`, at the mode
-- less 1). The last arm names no mode: 3 is what the others leave below 4.
use Rattle.std.proofs.Common.{refl, arith}
use Rattle.ms622424_entry.proofs.Outputs.{entry_index, entry_based}
use Rattle.ms622424_entry.proofs.entry.Goals as goal

pub returns-in-0 : goal.returns-in-0
returns-in-0 c = (omega arith, λ k e. entry_index _ _ k c.in-0.is)

pub returns-in-1 : goal.returns-in-1
returns-in-1 c = (omega arith, λ k e. entry_based 0 _ _ _ _ k c.in-1.is refl e)

pub returns-in-2 : goal.returns-in-2
returns-in-2 c = (omega arith, λ k e. entry_based 1 _ _ _ _ k c.in-2.is refl e)

pub returns-in_default : goal.returns-in_default
returns-in_default c = (omega arith, λ k e. entry_based 2 _ _ _ _ k (omega arith) refl e)
