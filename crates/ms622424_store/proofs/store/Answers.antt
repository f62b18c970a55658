use Rattle.std.proofs.Common.{rules}
use Rattle.vocabulary.specs.Component.{put}
use Rattle.ms622424_store.proofs.store.Goals as goal

pub returns : goal.returns
unfolding put
returns c = search rules
