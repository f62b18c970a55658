-- Refusal 1 by the length, 9 by the revision or the board (`reset_short`, `reset_outside`), for any map m, since none
-- is lent. Accepted, no colour waits, the first position is 0 and the registers are set: the fresh chip (`fresh_chip`,
-- `reset_does`).
use Rattle.std.proofs.Common.{ap, ◌∙◌, arith}
use Rattle.vocabulary.specs.Outcome.{accepting}
use Rattle.ms622424.proofs.Reset.{reset_short, reset_outside, reset_does}
use Rattle.ms622424_places.proofs.Does.{refuses, accepts, fresh_chip}
use Rattle.ms622424_reset.proofs.zk_b_reset.Goals as goal

pub returns-then-queue-ne64 : goal.returns-then-queue-ne64
returns-then-queue-ne64 c m = refuses _ _ m _ _ c.refused_for.ensures (reset_short _ c.if-queue-ne64.true)

pub returns-then-s-ge8 : goal.returns-then-s-ge8
returns-then-s-ge8 c m =
    refuses _ _ m _ _ c.refused_for-then-s-ge8.ensures
    (reset_outside _ c.if-queue-ne64.false (λ g. let e = c.then-s-ge8.either in omega arith))

pub returns : goal.returns
returns c m =
    let s = c.args.s in
    let q = c.args.queue.now in
    accepts s q m _ _ _ _ c.accepted.ensures
    (ap (accepting 0 0) (fresh_chip s q m _ _ (omega arith) (omega arith))
    ∙ reset_does _ c.if-queue-ne64.false (omega arith, (omega arith, tt)))
