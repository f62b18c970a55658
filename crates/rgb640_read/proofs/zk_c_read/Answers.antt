use Rattle.rgb640_read.proofs.Arms.{stopped}
use Rattle.rgb640_read.proofs.zk_c_read.Goals as goal

pub returns-in-Err : goal.returns-in-Err
returns-in-Err c = stopped _ _ _ _ c.in-Err.r c.in-Err.ensures c.refused_for.ensures
