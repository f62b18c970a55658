-- A chip in range, to and from the tables of refusals 1 and 9, and what every call tries first. Assumes nothing.
use Prim.Native.Nat.{ℕ, ◌^◌}
use mathlib.Core.Path.{◌≡◌, sym, ◌∙◌}
use mathlib.Core.Bool.{Bool, true, false}
use mathlib.Core.List.{[], ◌∷◌}
use Rattle.vocabulary.specs.Range.{below, Holds}
use Rattle.vocabulary.specs.Refusal.{refusal_of, standing, due}
use Rattle.vocabulary.specs.declared.Refusal.TheVariants.{LentLength, OutOfRange}
use Rattle.vocabulary.specs.Outcome.{refusing}
use Rattle.vocabulary.specs.Face.{called_by}
use Rattle.vocabulary.proofs.Range.{holds_passes, passes_holds, fails_right, clash}
use Rattle.vocabulary.proofs.Refusals.{standing_clear}
use Rattle.vocabulary.proofs.Call.{tried_first}
use Rattle.ms622424.specs.Ms622424.{Chip, lengths, short, ranges, outside, InRange, Call, writes, reads, blanks}
use Rattle.ms622424.specs.Ms622424.{pixels, signals, resets, looks, refusals, does, called}

pub in_range_lem : (c : Chip) → Holds (lengths c) → Holds (ranges c) → InRange c
in_range_lem c l r = search

module _ (c : Chip) (h : InRange c) where
  pub ranges_hold : Holds (ranges c)
  ranges_hold = search

  pub lengths_right : short c ≡ false
  lengths_right = let l : Holds (lengths c) = search in holds_passes _ l

  pub ranges_right : outside c ≡ false
  ranges_right = holds_passes _ ranges_hold

-- past what every call with a map tries first, the facts
pub past : (c : Chip) {n : ℕ} → n ≡ refusal_of (standing (short c) (outside c)) → n ≡ 0 → InRange c
past c e z =
    let t = standing_clear _ _ (sym e ∙ z) in
    in_range_lem c (passes_holds (lengths c) t.0) (passes_holds (ranges c) t.1)

-- and a refusal there is the call's
abbrev pub lent_map : Call → Bool
lent_map (writes select byte) = true
lent_map (reads select) = true
lent_map (blanks slots) = true
lent_map (pixels mode word) = true
lent_map (signals s) = false
lent_map resets = false
lent_map (looks place) = true

outside_due : (k : Call) (c : Chip) → lent_map k ≡ true → outside c ≡ true → due (refusals k c) OutOfRange ≡ true
outside_due (writes select byte) c e = fails_right (below byte 256 ∷ []) (ranges c)
outside_due (reads select) c e = λ f. f
outside_due (blanks slots) c e = fails_right (below slots 65536 ∷ []) (ranges c)
outside_due (pixels mode word) c e = fails_right (below mode 4 ∷ below word (2 ^ 24) ∷ []) (ranges c)
outside_due (signals s) c e = clash (sym e)
outside_due resets c e = clash (sym e)
outside_due (looks place) c e = λ f. f

pub tried : (k : Call) (c : Chip) (n : ℕ) → lent_map k ≡ true → due (refusals k c) LentLength ≡ short c
    → n ≡ refusal_of (standing (short c) (outside c)) → (n ≡ 0 → ⊥) → refusing n 0 c ≡ called k c
unfolding called_by
tried k c n m s e z =
    tried_first (refusals k c) 0 c (does k c) (short c) (outside c) n s (outside_due k c m) e z
