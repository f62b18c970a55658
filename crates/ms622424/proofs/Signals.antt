-- Laws of the timing signals: what they come out as, and when they are refused. Assumes nothing.
use Prim.Native.Nat.{ℕ, ◌<◌, ◌≤◌}
use mathlib.Core.Path.{◌≡◌, refl, sym, ap, ◌∙◌}
use mathlib.Core.Bool.{false}
use mathlib.Core.List.{[], ◌∷◌}
use native.Mathlib.Omega.{arith}
use Rattle.vocabulary.specs.Range.{below, Holds}
use Rattle.vocabulary.specs.Refusal.{refusal_of, standing}
use Rattle.vocabulary.specs.declared.Refusal.TheVariants.{LentLength, OutOfRange}
use Rattle.vocabulary.specs.Outcome.{accepting, refusing}
use Rattle.vocabulary.specs.Face.{called_by}
use Rattle.vocabulary.proofs.Range.{holds_passes, passes_holds, not_fails, fails_right}
use Rattle.vocabulary.proofs.Refusals.{standing_clear}
use Rattle.vocabulary.proofs.Call.{tried_first, stops, goes_on}
use Rattle.ms622424.specs.Ms622424.{Chip, short_queue, ranges, outside, pipe_out, signal_refusals, signals, called}

module _ (s : ℕ) (c : Chip) {n : ℕ} (e : n ≡ refusal_of (standing (short_queue c) (outside c))) where
  -- what every call tries first, of a call that is lent no map
  pub signals_tried : (n ≡ 0 → ⊥) → refusing n 0 c ≡ called (signals s) c
  unfolding called_by
  signals_tried z =
      tried_first (signal_refusals s c) 0 c _ (short_queue c) (outside c) n refl
      (fails_right (below s 16 ∷ []) (ranges c)) e z

  module _ (z : n ≡ 0) where
    long : short_queue c ≡ false
    long = (standing_clear _ _ (sym e ∙ z)).0

    pub signals_outside : 16 ≤ s → refusing 9 0 c ≡ called (signals s) c
    unfolding called_by
    signals_outside h =
        stops (signal_refusals s c) 0 c _ (LentLength ∷ []) OutOfRange 8 _ refl refl (long, tt)
        (not_fails _ (λ g. omega arith))

    pub signals_range : Holds (ranges c)
    signals_range = passes_holds (ranges c) (standing_clear _ _ (sym e ∙ z)).1

    pub signals_does : s < 16 → {v : ℕ} → v ≡ pipe_out c.control.command s → accepting v 0 c ≡ called (signals s) c
    unfolding called_by
    signals_does h f =
        ap (λ (n : ℕ). accepting n 0 c) f
        ∙ goes_on (signal_refusals s c) 0 c _ (long, (holds_passes (below s 16 ∷ ranges c) (h, signals_range), tt))
