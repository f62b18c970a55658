-- The four numbers fit where they stand, so that each is read out again.
use Rattle.std.proofs.Common.{rules}
use Rattle.vocabulary.proofs.Reply.{decoded_packed}
use Rattle.reply.proofs.packed.Goals as goal

pub returns : goal.returns
returns c = decoded_packed _ _ _ _ (search rules) (search rules) (search rules)
