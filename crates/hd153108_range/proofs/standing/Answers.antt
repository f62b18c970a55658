-- Refusal 1, 9 or none, by the laws of `Access` from two conditions: either length as the code's own test, and the
-- ranges as `good` promises them.
use native.Mathlib.Omega.{arith}
use mathlib.Core.Path.{sym, ◌∙◌}
use Rattle.vocabulary.proofs.Range.{not_fails, holds_passes, meets_passes, misses_fails}
use Rattle.hd153108.proofs.Access.{stands_short, stands_outside, stands}
use Rattle.hd153108_range.proofs.standing.Goals as goal

pub returns-then-colours-ne768 : goal.returns-then-colours-ne768
returns-then-colours-ne768 c = stands_short _ (not_fails _ (λ g. omega arith))

pub returns-then-not-good : goal.returns-then-not-good
returns-then-not-good c =
    stands_outside (holds_passes _ (search)) (misses_fails _ (sym c.good.ensures ∙ c.if-not-good.true))

pub returns : goal.returns
returns c = stands (holds_passes _ (search)) (meets_passes _ (sym c.good.ensures ∙ c.if-not-good.false))
