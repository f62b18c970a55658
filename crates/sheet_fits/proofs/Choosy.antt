-- Which values a key takes, by its test. Assumes nothing.
use Prim.Native.Nat.{ℕ}
use mathlib.Core.Path.{◌≡◌, refl, sym}
use mathlib.Core.Bool.{true}
use lib.Bits.{bit_and}
use lib.Dec.{eqb, ltb}
use borrow.Author.Tests.{ltb-true, ltb-false}
use Rattle.vocabulary.specs.Choice.{pick}
use Rattle.vocabulary.proofs.Choice.{cases}
use Rattle.sheet.specs.Sheet.{key_at, takes}
use Rattle.sheet.proofs.Texts.{firsts, takes_entry}

-- only the overlay control is choosy
module _ (k v : ℕ) where
  pub takes_overlay : k ≡ 3 → eqb (bit_and v 176) 0 ≡ takes (key_at k) v
  unfolding key_at pick
  takes_overlay e = rw e

  pub takes_other : (k ≡ 3 → ⊥) → true ≡ takes (key_at k) v
  takes_other h =
      cases (ltb k 5)
      (λ b.
      firsts (λ k key. (k ≡ 3 → ⊥) → true ≡ takes key v) (λ n. refl) (λ n. refl) (λ n. refl) (λ n. absurd (n refl))
      (λ n. refl) k (ltb-true k 5 b) h)
      (λ b. sym (takes_entry k v (ltb-false k 5 b)))
