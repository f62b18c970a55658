-- A register past its range contradicts that all ranges hold (`not_meets`). With every register in range the queue's
-- test decides (`queue_decides`); red and green are bytes anyway. The chip is seen with no map, which no range reads.
use Rattle.std.proofs.Common.{sym, ◌∙◌, [], arith}
use Rattle.vocabulary.proofs.Range.{not_meets}
use Rattle.ms622424_places.specs.Places.{handed, view}
use Rattle.ms622424_range.proofs.Standing.{queue_decides}
use Rattle.ms622424_range.proofs.in_range.Goals as goal

pub returns-then-s-ge8192 : goal.returns-then-s-ge8192
returns-then-s-ge8192 c = sym (not_meets _ (λ g. let e = c.then-s-ge8192.either in omega arith))

pub returns : goal.returns
returns c =
    c.queue_in_range.ensures
    ∙ queue_decides (view (handed c.args.s c.args.queue.now [])) (omega arith) (omega arith) (omega arith) (omega arith)
    (omega arith) (omega arith) (omega arith) (omega arith)
