use Rattle.std.proofs.Common.{rules, arith}
use Rattle.ms622424_palette.proofs.Arms.{palette_stopped, palette_served}
use Rattle.ms622424_palette.proofs.write_palette.Goals as goal

pub returns-then-s-eq1 : goal.returns-then-s-eq1
returns-then-s-eq1 c = palette_stopped _ _ _ _ _ c.requires (search rules) (omega arith) c.refused_for.ensures

pub returns : goal.returns
returns c = search (palette_served, rules)
