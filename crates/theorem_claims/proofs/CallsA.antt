-- Chip A's calls: each judged by its table, and each determined by its promise. Assumes nothing.
use Prim.Native.Nat.{ℕ}
use mathlib.Core.Path.{refl}
use mathlib.Core.List.{List, []}
use Rattle.vocabulary.specs.Outcome.{Outcome}
use Rattle.vocabulary.specs.Judged.{Judged}
use Rattle.vocabulary.proofs.Judged.{judged, called_judged}
use Rattle.hd153108.specs.declared.Clock.{Clock}
use Rattle.hd153108.specs.declared.Answer.{Answer}
use Rattle.hd153108_tick.specs.declared.ClockAnswer.{ClockAnswer}
use Rattle.hd153108.specs.Hd153108.{Chip, tick_refusals, tick, pixel_refusals, pixel_part, outcome, clock_outcome}
use Rattle.hd153108.specs.Hd153108.{Call, refusals, does, called}
use Rattle.hd153108.proofs.Keep.{does_accepts}
use Rattle.theorem_claims.specs.Determined.{Determined}
use Rattle.theorem_claims.proofs.Determined.{determined, itself}

-- ---- judged: every call of the face, and the two that the code is lent a part for
pub called_judged_a : (k : Call) (c : Chip) → Judged (refusals k c) 0 c (called k c)
called_judged_a k c = called_judged refusals does does_accepts k c

-- by value or on a lent clock
pub tick_judged : (k : Clock) → Judged (tick_refusals k) 0 k (tick k)
unfolding tick
tick_judged k = judged (tick_refusals k) 0 k _ refl

-- a refused pixel hands back no byte
pub part_judged : (enable number byte : ℕ) (c : Chip)
    → Judged (pixel_refusals enable number c) 0 [] (pixel_part enable number byte c)
unfolding pixel_part
part_judged enable number byte c = judged (pixel_refusals enable number c) 0 [] _ refl

-- ---- determined: the answer, and the tables where they are lent to be changed
answer_of : Outcome Chip → Answer
answer_of o = record { refusal = o.refusal; value = o.value; state = o.left.state }

-- a write; a read, and a reset at any tables beside it
pub changed : (d : Outcome Chip) → Determined {A = Answer × List ℕ × List ℕ} (λ x. outcome x.0 x.1 x.2) d
unfolding answer_of
changed d = determined _ (λ o. (answer_of o, o.left.colours, o.left.overlays)) (λ x. refl) d

pub answered : (colours overlays : List ℕ) (d : Outcome Chip)
    → Determined (λ (a : Answer). outcome a colours overlays) d
unfolding answer_of
answered colours overlays d = determined _ answer_of (λ a. refl) d

-- the clock by value, and lent
pub step_determined : (k : Clock) → Determined (λ (a : ClockAnswer). clock_outcome a.refusal a.clock) (tick k)
step_determined k =
    determined _ (λ (o : Outcome Clock). record { refusal = o.refusal; clock = o.left }) (λ a. refl) _

pub tick_determined : (k : Clock) → Determined {A = ℕ × Clock} (λ x. clock_outcome x.0 x.1) (tick k)
tick_determined k = determined _ (λ o. (o.refusal, o.left)) (λ x. refl) _

-- the pixel's part, and its refusal; its three bytes are `shown_determined`, a look's answer
-- `looked_determined` (Determined)
pub part_determined : (enable number byte : ℕ) (c : Chip)
    → Determined (λ (shown : List ℕ). shown) (pixel_part enable number byte c).left
part_determined enable number byte c = itself _

pub refusal_determined : (k : Call) (c : Chip) → Determined (λ (refusal : ℕ). refusal) (called k c).refusal
refusal_determined k c = itself _
