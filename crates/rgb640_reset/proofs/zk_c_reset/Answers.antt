-- A reset is never refused, and leaves the zeros.
use Rattle.std.proofs.Common.{sym, ap, ◌∙◌, []}
use Rattle.vocabulary.specs.Face.{called_by}
use Rattle.vocabulary.proofs.Refusals.{refusal_none}
use Rattle.vocabulary.proofs.Outcome.{accepted_does}
use Rattle.rgb640.specs.declared.Answer.{Answer}
use Rattle.rgb640.specs.Rgb640.{outcome}
use Rattle.rgb640_reset.proofs.zk_c_reset.Goals as goal

pub returns : goal.returns
unfolding called_by
returns c t =
    ap (λ (a : Answer). outcome a t) c.accepted.ensures ∙ sym (accepted_does 0 _ _ (refusal_none [] tt))
