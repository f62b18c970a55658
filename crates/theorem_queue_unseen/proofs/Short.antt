-- A map that is not of 24,576 bytes: every call that is lent it is refused, so a run without an accepted reset leaves
-- its chip and completes nothing. Assumes nothing.
use mathlib.Core.Path.{◌≡◌, refl, ap, ◌∙◌}
use mathlib.Core.Bool.{true}
use mathlib.Core.List.{List, [], ◌∷◌}
use borrow.Author.Tests.{eqb-true}
use lib.Dec.{eqb}
use lib.ListN.{length}
use Rattle.vocabulary.specs.Run.{after, gathered, Along, Accepted}
use Rattle.vocabulary.proofs.Choice.{cases, picks_first, picks_second}
use Rattle.vocabulary.proofs.Face.{called_clear, called_holds, refused_leaves}
use Rattle.vocabulary.proofs.Range.{passes_holds}
use Rattle.ms622424.specs.Ms622424.{Chip, lengths, refusals, does, called}
use Rattle.ms622424.specs.Ms622424.{Call, writes, reads, blanks, pixels, signals, resets, looks}
use Rattle.theorem_queue_unseen.specs.Unseen.{is_reset, NoReset, completes, completed_by, completed_in}

module _ (c : Chip) (wrong : ¬ (length c.map ≡ 24576)) where
  leaves : (k : Call) → ¬ ((is_reset k ≡ true) × Accepted called k c) → (called k c).left ≡ c
  leaves (writes select byte) h =
      called_holds refusals does (writes select byte) c (λ (d : Chip). d ≡ c) refl
      (λ t. absurd (wrong (passes_holds (lengths c) t.0).1.0))
  leaves (reads select) h =
      called_holds refusals does (reads select) c (λ (d : Chip). d ≡ c) refl
      (λ t. absurd (wrong (passes_holds (lengths c) t.0).1.0))
  leaves (blanks slots) h =
      called_holds refusals does (blanks slots) c (λ (d : Chip). d ≡ c) refl
      (λ t. absurd (wrong (passes_holds (lengths c) t.0).1.0))
  leaves (pixels mode word) h =
      called_holds refusals does (pixels mode word) c (λ (d : Chip). d ≡ c) refl (λ t. refl)
  leaves (signals s) h = called_holds refusals does (signals s) c (λ (d : Chip). d ≡ c) refl (λ t. refl)
  leaves resets h = refused_leaves refusals does resets c refl (λ a. h (refl, a))
  leaves (looks place) h =
      called_holds refusals does (looks place) c (λ (d : Chip). d ≡ c) refl
      (λ t. absurd (wrong (passes_holds (lengths c) t.0).1.0))

  nothing : (k : Call) → Accepted called k c → completes k c ≡ []
  unfolding completes
  nothing (writes select byte) a =
      absurd (wrong (passes_holds (lengths c) (called_clear refusals does (writes select byte) c a).0).1.0)
  nothing (reads select) a = refl
  nothing (blanks slots) a = refl
  nothing (pixels mode word) a = refl
  nothing (signals s) a = refl
  nothing resets a = refl
  nothing (looks place) a = refl

  completes_nothing : (k : Call) → completed_by k c ≡ []
  completes_nothing k =
      cases (eqb (called k c).refusal 0)
      (λ e. picks_first _ _ e ∙ nothing k (eqb-true _ 0 e)) (λ e. picks_second _ _ e)

pub short_run : (calls : List Call) (c : Chip) → ¬ (length c.map ≡ 24576) → NoReset calls c
    → (after called calls c ≡ c) × (completed_in calls c ≡ [])
unfolding after gathered Along
short_run [] c w h = (refl, refl)
short_run (k ∷ calls) c w (h, hs) =
    let e = leaves c w k h in
    let (same, none) = short_run calls c w (rw e at hs) in
    (ap (after called calls) e ∙ same, rw (completes_nothing c w k, e) none)
