-- Refusal 1, 9 or none, by the laws of `Standing` from two conditions: the places are those that were lent, and the
-- ranges are what `in_range` promises.
use Rattle.std.proofs.Common.{[], sym, ◌∙◌}
use Rattle.vocabulary.proofs.Range.{not_fails}
use Rattle.ms622424_places.specs.Places.{handed, view}
use Rattle.ms622424_range.proofs.Standing.{stands_short, queue_outside, queue_stands}
use Rattle.ms622424_range.proofs.standing_queue.Goals as goal

pub returns-in_default : goal.returns-in_default
returns-in_default c = stands_short _ _ (not_fails _ (λ g. c.in_default.ensures.cases g.0))

pub returns-then-not-in_range : goal.returns-then-not-in_range
returns-then-not-in_range c =
    let whole = c.in-Some.ensures.cases in
    queue_outside (view (handed c.args.s c.args.queue.now [])) whole.long
    (sym (rw whole.same at c.in_range.ensures) ∙ c.if-not-in_range.true)

pub returns : goal.returns
returns c =
    let whole = c.in-Some.ensures.cases in
    queue_stands (view (handed c.args.s c.args.queue.now [])) whole.long
    (sym (rw whole.same at c.in_range.ensures) ∙ c.if-not-in_range.false)
