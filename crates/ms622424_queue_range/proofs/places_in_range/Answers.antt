use Rattle.std.proofs.Common.{arith}
use Rattle.ms622424_queue_range.proofs.Bits.{straight_decides, round_decides, full_decides}
use Rattle.ms622424_queue_range.proofs.places_in_range.Goals as goal

pub returns-then-waiting-eq64 : goal.returns-then-waiting-eq64
returns-then-waiting-eq64 c =
    full_decides c.args.queue.now c.args.first c.told-queue c.args.waiting _ _ c.if-waiting-eq64.true c.requires.0
    c.gathered-front.ensures c.gathered-back.ensures

pub returns-then-end-le64 : goal.returns-then-end-le64
returns-then-end-le64 c =
    straight_decides c.args.queue.now c.args.first c.told-queue c.args.waiting _ c.if-end-le64.true c.gathered.ensures

pub returns : goal.returns
returns c =
    round_decides c.args.queue.now c.args.first c.told-queue c.args.waiting _ _ c.requires.0 (omega arith) c.requires.1
    c.gathered-older.ensures c.gathered-younger.ensures
