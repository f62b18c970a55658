-- Three numbers put at an entry are found there, and nothing else changes; a colour's bytes come back out of its word.
-- Assumes nothing.
use Prim.Native.Nat.{ℕ, ◌+◌, ◌*◌, ◌/◌, ◌%◌, ◌<◌}
use mathlib.Core.Path.{◌≡◌, ap, ◌∙◌}
use mathlib.Core.List.{List}
use native.Mathlib.Nat.{add-zero}
use native.Mathlib.Omega.{arith}
use lib.ListN.{length, length-set, get_or, set}
use lib.Seq.{get_or-set_same, get_or-set_other}
use Rattle.vocabulary.specs.Component.{Component, red, green, blue, part, one_of, put, colour_word}

pub part_below : (k : Component) → part k < 3
part_below red = omega arith
part_below green = omega arith
part_below blue = omega arith

module _ (e r g b : ℕ) (t : List ℕ) where
  -- the table with red put, and with green put too
  abbrev one : List ℕ
  one = set t (3 * e) r

  abbrev two : List ℕ
  two = set one (3 * e + 1) g

  pub put_length : length (put e r g b t) ≡ length t
  unfolding put
  put_length = simp length-set

  -- what stands elsewhere stays: at another number, ..
  pub put_others : (i : ℕ) → (i ≡ 3 * e → ⊥) → (i ≡ 3 * e + 1 → ⊥) → (i ≡ 3 * e + 2 → ⊥)
      → get_or (put e r g b t) i 0 ≡ get_or t i 0
  unfolding put
  put_others i f h j =
      get_or-set_other two (3 * e + 2) i b 0 j
      ∙ (get_or-set_other one (3 * e + 1) i g 0 h ∙ get_or-set_other t (3 * e) i r 0 f)

  -- .. and so in another entry
  pub put_elsewhere : (n i : ℕ) → i < 3 → ¬ (e ≡ n) → get_or (put e r g b t) (3 * n + i) 0 ≡ get_or t (3 * n + i) 0
  put_elsewhere n i h d =
      put_others (3 * n + i) (λ z. d (omega arith)) (λ z. d (omega arith)) (λ z. d (omega arith))

  -- each component is found as it was put
  pub put_own : 3 * e + 2 < length t → (k : Component) → get_or (put e r g b t) (3 * e + part k) 0 ≡ one_of k r g b
  unfolding put
  put_own fits red =
      ap (λ (i : ℕ). get_or (set two (3 * e + 2) b) i 0) (add-zero (3 * e))
      ∙ (get_or-set_other two (3 * e + 2) (3 * e) b 0 (λ f. omega arith)
      ∙ (get_or-set_other one (3 * e + 1) (3 * e) g 0 (λ f. omega arith)
      ∙ get_or-set_same t (3 * e) r 0 (omega arith)))
  put_own fits green =
      get_or-set_other two (3 * e + 2) (3 * e + 1) b 0 (λ f. omega arith)
      ∙ get_or-set_same one (3 * e + 1) g 0 (simp length-set (omega arith))
  put_own fits blue = get_or-set_same two (3 * e + 2) b 0 (simp length-set fits)

module _ (r g b : ℕ) (hr : r < 256) (hg : g < 256) where
  pub word_red : colour_word r g b % 256 ≡ r
  word_red = omega arith

  pub word_green : colour_word r g b / 256 % 256 ≡ g
  word_green = omega arith

  pub word_blue : colour_word r g b / 65536 ≡ b
  word_blue = omega arith
