-- The values that the writer lists, and their places. Assumes nothing.
use Prim.Native.Nat.{ℕ, zero, suc, ◌+◌, ◌-◌, ◌*◌, ◌≤◌, ◌<◌}
use mathlib.Core.Path.{◌≡◌, refl, sym, ap, ◌∙◌}
use mathlib.Core.Bool.{false}
use mathlib.Core.List.{List, [], ◌∷◌, ◌++◌}
use native.Mathlib.Omega.{arith}
use lib.Dec.{ltb}
use lib.ListN.{length, get_or, length-append, get_or-append}
use lib.Seq.{get_or-append-add}
use borrow.Author.Tests.{ltb-false}
use Rattle.vocabulary.proofs.Range.{passes_holds, neither}
use Rattle.hd153108.specs.Hd153108.{Chip, short, outside}
use Rattle.sheet.specs.Sheet.{keys, colours_in, values, text_of, over_fifteen_in}
use Rattle.sheet_written.proofs.Size.{length_all}
use Rattle.sheet_written.specs.Writer.{Writable}

-- no byte over 15
pub low_first : (x : ℕ) (t : List ℕ) → over_fifteen_in (x ∷ t) ≡ false → (x < 16) × (over_fifteen_in t ≡ false)
unfolding over_fifteen_in
low_first x t e = let h = neither (ltb 15 x) _ e in let l = ltb-false 15 x h.0 in (omega arith, h.1)

pub low_at : (t : List ℕ) (i : ℕ) → over_fifteen_in t ≡ false → get_or t i 0 < 16
low_at [] i e = omega arith
low_at (x ∷ t) zero e = (low_first x t e).0
low_at (x ∷ t) (suc i) e = low_at t i (low_first x t e).1

-- a table's colours
pub length_colours : (n : ℕ) (l : List ℕ) → length l ≡ 3 * n → length (colours_in l) ≡ n
unfolding colours_in
length_colours zero [] e = refl
length_colours zero (x ∷ l) e = absurd (let z : ⊥ = omega arith in z)
length_colours (suc n) [] e = absurd (let z : ⊥ = omega arith in z)
length_colours (suc n) (r ∷ []) e = absurd (let z : ⊥ = omega arith in z)
length_colours (suc n) (r ∷ g ∷ []) e = absurd (let z : ⊥ = omega arith in z)
length_colours (suc n) (r ∷ g ∷ b ∷ l) e = ap suc (length_colours n l (omega arith))

pub colour_at_lem : (l : List ℕ) (i : ℕ) → 3 * i + 3 ≤ length l
    → (get_or l (3 * i) 0 * 16 + get_or l (3 * i + 1) 0) * 16 + get_or l (3 * i + 2) 0 ≡ get_or (colours_in l) i 0
unfolding colours_in
colour_at_lem [] i h = absurd (let z : ⊥ = omega arith in z)
colour_at_lem (r ∷ []) i h = absurd (let z : ⊥ = omega arith in z)
colour_at_lem (r ∷ g ∷ []) i h = absurd (let z : ⊥ = omega arith in z)
colour_at_lem (r ∷ g ∷ b ∷ l) zero h = refl
colour_at_lem (r ∷ g ∷ b ∷ l) (suc i) h =
    let e : 3 * suc i ≡ suc (suc (suc (3 * i))) = omega arith in
    let e1 : suc (suc (suc (3 * i))) + 1 ≡ suc (suc (suc (3 * i + 1))) = omega arith in
    let e2 : suc (suc (suc (3 * i))) + 2 ≡ suc (suc (suc (3 * i + 2))) = omega arith in
    rw (e, e1, e2) (colour_at_lem l i (omega arith))

-- the values by key
firsts : Chip → List ℕ
firsts a =
    0 ∷ a.state.readmask ∷ a.state.blinkmask ∷ a.state.control ∷ a.state.clock.timing ∷ []

module _ (a : Chip) (os : length a.overlays ≡ 12) (cs : length a.colours ≡ 768) where
  four : length (colours_in a.overlays) ≡ 4
  four = length_colours 4 a.overlays os

  all : length (colours_in a.colours) ≡ 256
  all = length_colours 256 a.colours cs

  pub length_values : length (values a) ≡ keys
  unfolding values
  length_values = simp (length-append, four, all)

  pub value_overlay : (k : ℕ) → 5 ≤ k → k < 9 → get_or (colours_in a.overlays) (k - 5) 0 ≡ get_or (values a) k 0
  unfolding values firsts
  value_overlay k g h =
      let e : 5 + (k - 5) ≡ k = omega arith in
      let f : k - 5 < length (colours_in a.overlays) = omega (arith, four) in
      sym (get_or-append-add (firsts a) (colours_in a.overlays ++ colours_in a.colours) (k - 5) 0
      ∙ get_or-append (colours_in a.overlays) (colours_in a.colours) 0 (k - 5) f)
      ∙ ap (λ (j : ℕ). get_or (values a) j 0) e

  pub value_colour : (k : ℕ) → 9 ≤ k → get_or (colours_in a.colours) (k - 9) 0 ≡ get_or (values a) k 0
  unfolding values firsts
  value_colour k g =
      let e : 5 + (length (colours_in a.overlays) + (k - 9)) ≡ k = omega (arith, four) in
      sym (get_or-append-add (firsts a) (colours_in a.overlays ++ colours_in a.colours)
      (length (colours_in a.overlays) + (k - 9)) 0
      ∙ get_or-append-add (colours_in a.overlays) (colours_in a.colours) (k - 9) 0)
      ∙ ap (λ (j : ℕ). get_or (values a) j 0) e

pub length_text : (a : Chip) → length a.overlays ≡ 12 → length a.colours ≡ 768 → length (text_of a) ≡ 2134
length_text a os cs = length_all (values a) (length_values a os cs)

-- what passes the refusals
pub writable : (a : Chip) → short a ≡ false → outside a ≡ false → over_fifteen_in a.colours ≡ false
    → over_fifteen_in a.overlays ≡ false → Writable a
writable a s o low low' =
    let l = passes_holds _ s in
    record {
      colours = l.0;
      overlays = l.1.0;
      low_colours = low;
      low_overlays = low';
      state = passes_holds _ o;
    }
