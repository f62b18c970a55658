use mathlib.Core.Path.{◌∙◌, ap}
use mathlib.Core.List.{[]}
use Rattle.vocabulary.specs.Face.{called_by}
use Rattle.vocabulary.proofs.Call.{goes_on}
use Rattle.hd153108.specs.declared.Answer.{Answer}
use Rattle.hd153108.specs.Hd153108.{outcome}
use Rattle.hd153108_reset.proofs.zk_a_reset.Goals as goal

pub returns : goal.returns
unfolding called_by
returns c cs os = ap (λ (a : Answer). outcome a cs os) c.accepted.ensures ∙ goes_on [] 0 _ _ tt
