-- Laws of a pixel: which entries it shows, what an accepted one answers, and when it is refused. Assumes nothing.
use Prim.Native.Nat.{ℕ, zero, suc, ◌+◌, ◌*◌, ◌^◌, ◌<◌}
use mathlib.Core.Path.{◌≡◌, refl, sym, ap, ◌∙◌}
use mathlib.Core.List.{[], ◌∷◌}
use native.Mathlib.Nat.{add-zero}
use native.Mathlib.Omega.{arith}
use lib.ListN.{get_or}
use Rattle.vocabulary.specs.declared.Refusal.TheVariants.{LentLength, OutOfRange}
use Rattle.vocabulary.specs.Outcome.{accepting, refusing}
use Rattle.vocabulary.specs.Component.{Component, red, green, blue, colour_word}
use Rattle.vocabulary.specs.Face.{called_by}
use Rattle.vocabulary.proofs.Range.{holds_passes, not_fails}
use Rattle.vocabulary.proofs.Call.{stops, goes_on}
use Rattle.ms622424.specs.Ms622424.{Chip, InRange, pixel_byte, entry_shown, gun_shown, pixel_refusals, pixels, called}
use Rattle.ms622424.proofs.InRange.{lengths_right, ranges_hold}

byte_shown : (word : ℕ) (k : Component) → word < 2 ^ 24 → pixel_byte k word < 256
unfolding pixel_byte
byte_shown word red h = omega arith
byte_shown word green h = omega arith
byte_shown word blue h = omega arith

-- a gun shows an entry of the map
pub shown_in_map : (mode word : ℕ) (k : Component) → mode < 4 → word < 2 ^ 24 → entry_shown mode word k < 8192
unfolding entry_shown
shown_in_map zero word k h g = omega arith
shown_in_map (suc zero) word k h g = let b = byte_shown word k g in omega arith
shown_in_map (suc (suc zero)) word k h g = let b = byte_shown word k g in omega arith
shown_in_map (suc (suc (suc zero))) word k h g = let b = byte_shown word k g in omega arith
shown_in_map (suc (suc (suc (suc mode)))) word k h g = absurd (omega arith)

module _ (mode word : ℕ) (c : Chip) (h : InRange c) where
  pub pixel_outside : (mode < 4 → word < 2 ^ 24 → ⊥) → refusing 9 0 c ≡ called (pixels mode word) c
  unfolding called_by
  pixel_outside f =
      stops (pixel_refusals mode word c) 0 c _ (LentLength ∷ []) OutOfRange 8 _ refl refl (lengths_right c h, tt)
      (not_fails _ (λ g. f g.0 g.1.0))

  -- the three bytes at the entries that the guns show
  pub pixel_does : mode < 4 → word < 2 ^ 24 → {r g b : ℕ}
      → r ≡ entry_shown mode word red → g ≡ entry_shown mode word green → b ≡ entry_shown mode word blue
      → accepting (colour_word (get_or c.map (3 * r) 0) (get_or c.map (3 * g + 1) 0) (get_or c.map (3 * b + 2) 0)) 0 c
      ≡ called (pixels mode word) c
  unfolding called_by gun_shown
  pixel_does m w {r} {g} {b} er eg eb =
      ap
      (λ (n : ℕ). accepting
      (colour_word (get_or c.map n 0) (get_or c.map (3 * g + 1) 0) (get_or c.map (3 * b + 2) 0)) 0 c)
      (sym (add-zero (3 * r)))
      ∙ (rw (er, eg, eb) refl
      ∙ goes_on (pixel_refusals mode word c) 0 c _ (lengths_right c h, (holds_passes _ (m, (w, ranges_hold c h)), tt)))
