-- A refusal by `refuses`, an answer by `accepts`, with the laws of the signals; for any map m, since none is lent.
-- `piped` asks a command below 32, which holds since refusal 9 was passed (`signals_range`): no range reads the map,
-- so that the empty one will do.
use Rattle.std.proofs.Common.{[], refl, arith}
use Rattle.vocabulary.proofs.Refusals.{number_positive}
use Rattle.ms622424.proofs.Signals.{signals_tried, signals_outside, signals_range, signals_does}
use Rattle.ms622424_places.specs.Places.{handed, view}
use Rattle.ms622424_places.proofs.Does.{refuses, accepts}
use Rattle.ms622424_signals.proofs.zk_b_sync.Goals as goal

pub returns-in-Err : goal.returns-in-Err
returns-in-Err c m =
    refuses _ _ m _ _ c.refused_for.ensures (signals_tried _ _ c.in-Err.ensures (number_positive c.in-Err.r))

pub returns-then-signals-gt15 : goal.returns-then-signals-gt15
returns-then-signals-gt15 c m =
    refuses _ _ m _ _ c.refused_for-then-signals-gt15.ensures
    (signals_outside _ _ c.in_default.ensures refl (omega arith))

pub piped-requires : goal.piped-requires
piped-requires c =
    let r = signals_range 0 (view (handed c.args.s c.args.queue.now [])) c.in_default.ensures refl in
    (omega arith, omega arith)

pub returns : goal.returns
returns c m =
    accepts _ _ m _ _ _ _ c.accepted.ensures
    (signals_does _ _ c.in_default.ensures refl (omega arith) c.piped.ensures)
