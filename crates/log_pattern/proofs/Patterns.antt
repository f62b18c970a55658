-- Lines and patterns, byte by byte. Assumes nothing.
use Prim.Native.Nat.{ℕ, suc, ◌≤◌}
use mathlib.Core.Path.{◌≡◌, refl, sym, ap, ◌∙◌}
use mathlib.Core.Bool.{Bool, true, false, ◌&&◌}
use mathlib.Core.List.{List, [], ◌∷◌}
use native.Mathlib.Omega.{arith}
use lib.ListN.{length}
use Rattle.std.specs.List.{list_all, zip}
use lib.Dec.{eqb, leb}
use borrow.Author.Tests.{le-leb, lt-leb, eq-eqb, ne_eqb}
use Rattle.vocabulary.proofs.Choice.{picks_first, picks_second}
use Rattle.log_pattern.specs.Pattern.{is_digit, stands, fits}

nothing : (b : Bool) → (b && false) ≡ false
nothing true = refl
nothing false = refl

-- a line of another length has not the pattern
pub fits_length : (p t : List ℕ) → (length p ≡ length t → ⊥) → fits p t ≡ false
unfolding fits
fits_length [] [] h = absurd (h refl)
fits_length [] (b ∷ t) h = refl
fits_length (a ∷ p) [] h = refl
fits_length (a ∷ p) (b ∷ t) h = rw (fits_length p t (λ e. h (ap suc e))) (nothing (stands a b))

-- a line of its length has the pattern where each byte stands in its place
pub fits_zip : (p t : List ℕ) → length p ≡ length t → fits p t ≡ list_all (λ (q : ℕ × ℕ). stands q.0 q.1) (zip p t)
unfolding fits
fits_zip [] [] h = refl
fits_zip [] (b ∷ t) h = absurd (let z : ⊥ = omega arith in z)
fits_zip (a ∷ p) [] h = absurd (let z : ⊥ = omega arith in z)
fits_zip (a ∷ p) (b ∷ t) h = ap (λ r. stands a b && r) (fits_zip p t (omega arith))

-- a digit's place, and any other
module _ (p b : ℕ) where
  pub stands_digit : {r : Bool} → p ≡ 35 → r ≡ is_digit b → r ≡ stands p b
  unfolding stands
  stands_digit e f = f ∙ sym (picks_first _ _ (eq-eqb p 35 e))

  pub stands_itself : (p ≡ 35 → ⊥) → eqb p b ≡ stands p b
  unfolding stands
  stands_itself h = sym (picks_second _ _ (ne_eqb p 35 h))

-- among the letters a digit goes up to f
pub digit_high : (b : ℕ) → 97 ≤ b → leb b 102 ≡ is_digit b
unfolding is_digit
digit_high b h = rw (le-leb 48 b (omega arith), lt-leb b 57 (omega arith), le-leb 97 b h)
