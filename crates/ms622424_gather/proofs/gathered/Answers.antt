-- A turn is `gather_next`, since an `or` is below a power of 2 exactly when both its parts are.
use Rattle.std.proofs.Common.{rules}
use Rattle.ms622424_gather.proofs.Below.{gather_none, gather_next}
use Rattle.ms622424_gather.proofs.gathered.Goals as goal

pub loop-place-init : goal.loop-place-init
loop-place-init c = gather_none c.args.places.now

pub loop-place-preserved : goal.loop-place-preserved
loop-place-preserved c = search (gather_next, rules)
