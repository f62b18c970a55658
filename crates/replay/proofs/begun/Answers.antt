-- The arrays are zeros.
use Rattle.std.proofs.Common.{replicate}
use Rattle.replay.proofs.First.{first}
use Rattle.replay.proofs.begun.Goals as goal

pub returns : goal.returns
returns c = λ a d black.
    first c.start.result a d (c.start.ensures a (replicate 24576 0) d (replicate 2134 0)) black
