use Rattle.std.proofs.Common.{rules, ◌≡◌}
use Rattle.rgb640_write.proofs.Arms.{stopped, high_written}
use Rattle.rgb640_write.proofs.zk_c_write.Goals as goal

pub returns-in-Err : goal.returns-in-Err
returns-in-Err c = stopped _ _ _ (search rules) _ _ c.in-Err.r c.in-Err.ensures c.refused_for.ensures

pub returns-in-5 : goal.returns-in-5
returns-in-5 c =
    let e : c.unwrap-table.result.now ≡ c.args.table.now = search rules in
    rw e
    (high_written _ _ _ (search rules) _ _ c.in_default.ensures c.in-5.is c.accepted-in-5.ensures
    (rw e at c.prefetch.ensures))
