-- Laws of blanking: what it moves and reports, and when it is refused. Assumes nothing.
use Prim.Native.Nat.{ℕ, ◌-◌, ◌<◌, ◌≤◌, min}
use mathlib.Core.Path.{◌≡◌, refl, sym, ap, ◌∙◌}
use mathlib.Core.List.{[], ◌∷◌}
use native.Mathlib.Omega.{arith}
use lib.ListN.{length, length-drop}
use Rattle.vocabulary.specs.declared.Refusal.TheVariants.{LentLength, OutOfRange}
use Rattle.vocabulary.specs.Outcome.{Outcome, accepting, refusing}
use Rattle.vocabulary.specs.Face.{called_by}
use Rattle.vocabulary.proofs.Range.{holds_passes, not_fails}
use Rattle.vocabulary.proofs.Call.{stops, goes_on}
use Rattle.ms622424.specs.Ms622424.{Chip, InRange, Moves, made, moves, blank_refusals, blanks, called}
use Rattle.ms622424.proofs.InRange.{lengths_right, ranges_hold}
use Rattle.ms622424.proofs.Moves.{moves_of, moves_are}

module _ (slots : ℕ) (c : Chip) (h : InRange c) where
  pub blank_too_many : 65536 ≤ slots → refusing 9 0 c ≡ called (blanks slots) c
  unfolding called_by
  blank_too_many l =
      stops (blank_refusals slots c) 0 c _ (LentLength ∷ []) OutOfRange 8 _ refl refl (lengths_right c h, tt)
      (not_fails _ (λ g. omega arith))

  pub blank_does : slots < 65536 → {n : ℕ} {after : Chip} → made n after ≡ moves slots c
      → accepting 0 n after ≡ called (blanks slots) c
  unfolding called_by
  blank_does l e =
      ap (λ (m : Moves). accepting 0 m.count m.after) e
      ∙ goes_on (blank_refusals slots c) 0 c _ (lengths_right c h, (holds_passes _ (l, ranges_hold c h), tt))

  -- blanking reports the smaller of slots and waiting, and so many fewer wait
  module _ (l : slots < 65536) where
    blank_is : accepting 0 (moves_of slots c).count (moves_of slots c).after ≡ called (blanks slots) c
    blank_is = blank_does l (sym (moves_are slots c))

    pub blank_count : (called (blanks slots) c).count ≡ min slots (length c.waiting)
    blank_count = ap (λ (o : Outcome Chip). o.count) (sym blank_is)

    pub blank_shrinks : length (called (blanks slots) c).left.waiting
        ≡ length c.waiting - min slots (length c.waiting)
    blank_shrinks = ap (λ (o : Outcome Chip). length o.left.waiting) (sym blank_is) ∙ simp length-drop (omega arith)
