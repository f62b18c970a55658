use Rattle.std.proofs.Common.{arith}
use Rattle.ms622424_places.proofs.Places.{put_last}
use Rattle.ms622424_queue.proofs.put.Goals as goal

pub returns : goal.returns
returns c m =
    put_last c.args.s c.args.queue.now _ c.told-queue c.requires.1 _ _ (omega arith) (omega arith) c.entry.ensures m
