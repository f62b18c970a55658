-- What the face alone says of every call of every chip. Assumes nothing.
use mathlib.Core.Path.{◌≡◌, refl, sym}
use mathlib.Core.Bool.{true, false}
use mathlib.Core.List.{List, [], ◌∷◌}
use Rattle.vocabulary.specs.Refusal.{Row, order, due, refusal_of}
use Rattle.vocabulary.specs.declared.Refusal.TheVariants.{LentLength, OutOfRange}
use Rattle.vocabulary.specs.Outcome.{Outcome, refusing}
use Rattle.vocabulary.specs.Judged.{None}
use Rattle.vocabulary.specs.Face.{called_by}
use Rattle.vocabulary.proofs.Call.{stops}
use Rattle.vocabulary.proofs.Refusals.{none_exactly}
use Rattle.vocabulary.proofs.Outcome.{accepted_does, accepted_none, refused_left, left_holds}

module _ {C K : Type 0} (refusals : K → C → List Row) (does : K → C → Outcome C) (k : K) (c : C) where
  -- an accepted call had no refusal due, and does what it does
  pub called_clear : (called_by refusals does k c).refusal ≡ 0 → None (due (refusals k c)) order
  unfolding called_by
  called_clear e = none_exactly (refusals k c) (accepted_none _ 0 c (does k c) e)

  pub called_does : (called_by refusals does k c).refusal ≡ 0 → called_by refusals does k c ≡ does k c
  unfolding called_by
  called_does e = accepted_does 0 c (does k c) (accepted_none _ 0 c (does k c) e)

  -- what holds of the chip as given, and of what an accepted call leaves, holds afterwards
  pub called_holds : (P : C → Type 0) → P c → (None (due (refusals k c)) order → P (does k c).left)
      → P (called_by refusals does k c).left
  unfolding called_by
  called_holds P g h = left_holds P _ 0 c (does k c) g (λ e. h (none_exactly (refusals k c) e))

  -- a refused call leaves its chip
  pub refused_leaves : (does k c).refusal ≡ 0 → ((called_by refusals does k c).refusal ≡ 0 → ⊥)
      → (called_by refusals does k c).left ≡ c
  unfolding called_by
  refused_leaves e h = refused_left (refusal_of (refusals k c)) 0 c (does k c) e h

  -- a table of another length, or a state outside its ranges
  pub called_one : due (refusals k c) LentLength ≡ true → called_by refusals does k c ≡ refusing 1 0 c
  unfolding called_by
  called_one e = sym (stops (refusals k c) 0 c (does k c) [] LentLength 0 _ refl refl tt e)

  pub called_nine : due (refusals k c) LentLength ≡ false → due (refusals k c) OutOfRange ≡ true
      → called_by refusals does k c ≡ refusing 9 0 c
  unfolding called_by
  called_nine l e =
      sym (stops (refusals k c) 0 c (does k c) (LentLength ∷ []) OutOfRange 8 _ refl refl (l, tt) e)
