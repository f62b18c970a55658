-- The face: every chip's definitions end in the same part. `Call` has all calls of the chip, `refusals` says when each
-- is refused, `does` what it does where it is accepted, and `called` is `called_by` of the two.
use Rattle.std.specs.Prelude.{List}
use Rattle.vocabulary.specs.Refusal.{Row, refusal_of}
use Rattle.vocabulary.specs.Outcome.{Outcome, answered}

module _ {C K : Type 0} (refusals : K → C → List Row) (does : K → C → Outcome C) where
  -- refused, with all as given; or what the call does
  unfoldable pub called_by : K → C → Outcome C
  called_by k c = answered (refusal_of (refusals k c)) c (does k c)
