-- Two rows, refusals 1 and 9: `refusal_is` where a row is due and none before it, `refusal_none` where neither is.
-- The length is the code's own test; the ranges are what `in_range` promises.
use Rattle.std.proofs.Common.{refl, sym, ◌∙◌, [], ◌∷◌, arith}
use Rattle.vocabulary.specs.Refusal.{standing}
use Rattle.vocabulary.specs.declared.Refusal.TheVariants.{LentLength, OutOfRange}
use Rattle.vocabulary.proofs.Range.{not_fails, holds_passes, misses_fails, meets_passes}
use Rattle.vocabulary.proofs.Refusals.{refusal_is, refusal_none}
use Rattle.rgb640.specs.Rgb640.{whole, state_ranges}
use Rattle.rgb640_range.proofs.standing_of.Goals as goal

pub returns-then-size-ne3072 : goal.returns-then-size-ne3072
returns-then-size-ne3072 c =
    sym (refusal_is (standing _ _) [] LentLength _ refl tt (not_fails (whole _) (λ g. let e = g.0 in omega arith)))

pub returns-then-not-in_range : goal.returns-then-not-in_range
returns-then-not-in_range c =
    sym (refusal_is (standing _ _) (LentLength ∷ []) OutOfRange _ refl
    (holds_passes (whole _) (omega arith, tt), tt)
    (misses_fails (state_ranges _) (sym c.in_range.ensures ∙ c.if-not-in_range.true)))

pub returns : goal.returns
returns c =
    sym (refusal_none (standing _ _) (
      holds_passes (whole _) (omega arith, tt),
      (meets_passes (state_ranges _) (sym c.in_range.ensures ∙ c.if-not-in_range.false), tt),
    ))
