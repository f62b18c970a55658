use Rattle.std.proofs.Common.{rules, arith}
use Rattle.rgb640_write.proofs.Arms.{palette_written}
use Rattle.rgb640_write.proofs.data_write.Goals as goal

pub returns-in-16384-to-17407 : goal.returns-in-16384-to-17407
returns-in-16384-to-17407 c =
    palette_written _ _ _ (search rules) _ c.requires _ (omega arith) (omega arith)
    c.accepted-in-16384-to-17407.ensures c.palette_write.ensures
