-- Laws of a reset: what it leaves and keeps, and when it is refused. Assumes nothing.
use mathlib.Core.Path.{◌≡◌, refl}
use mathlib.Core.Bool.{false}
use mathlib.Core.List.{[], ◌∷◌}
use Rattle.vocabulary.specs.Range.{Holds}
use Rattle.vocabulary.specs.declared.Refusal.TheVariants.{LentLength, OutOfRange}
use Rattle.vocabulary.specs.Outcome.{accepting, refusing}
use Rattle.vocabulary.specs.Face.{called_by}
use Rattle.vocabulary.proofs.Range.{holds_passes, not_fails}
use Rattle.vocabulary.proofs.Call.{stops, goes_on}
use Rattle.vocabulary.proofs.Face.{called_holds}
use Rattle.ms622424.specs.Ms622424.{Chip, short_queue, ident_ranges, reset_refusals, fresh, refusals, does, resets}
use Rattle.ms622424.specs.Ms622424.{called}

module _ (c : Chip) where
  pub reset_short : (c.lent.places ≡ 64 → ⊥) → refusing 1 0 c ≡ called resets c
  unfolding called_by
  reset_short h = stops (reset_refusals c) 0 c _ [] LentLength 0 _ refl refl tt (not_fails _ (λ g. h g.0))

  module _ (l : c.lent.places ≡ 64) where
    long : short_queue c ≡ false
    long = holds_passes _ (l, tt)

    pub reset_outside : (Holds (ident_ranges c.ident) → ⊥) → refusing 9 0 c ≡ called resets c
    unfolding called_by
    reset_outside h =
        stops (reset_refusals c) 0 c _ (LentLength ∷ []) OutOfRange 8 _ refl refl (long, tt) (not_fails _ h)

    pub reset_does : Holds (ident_ranges c.ident) → accepting 0 0 (fresh c) ≡ called resets c
    unfolding called_by
    reset_does h = goes_on (reset_refusals c) 0 c _ (long, (holds_passes _ h, tt))

  -- a reset in a run hands the map on unchanged, accepted or not
  pub reset_keeps_map : (called resets c).left.map ≡ c.map
  reset_keeps_map = called_holds refusals does resets c (λ (d : Chip). d.map ≡ c.map) refl (λ e. refl)
