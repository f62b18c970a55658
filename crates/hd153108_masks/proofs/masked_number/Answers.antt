use native.Mathlib.Omega.{arith}
use mathlib.Core.Path.{◌∙◌}
use Rattle.hd153108.proofs.Masks.{masked_among}
use Rattle.hd153108_masks.proofs.masked_number.Goals as goal

pub returns : goal.returns
returns c = c.masked_byte.ensures ∙ masked_among 2 6 _ _ _ _ (omega arith)
