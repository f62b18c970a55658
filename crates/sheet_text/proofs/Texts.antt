-- The lines' bytes, case by case, from the digits as the code has them. Assumes nothing.
use Prim.Native.Nat.{ℕ, ◌-◌, ◌/◌, ◌%◌, ◌≤◌, ◌<◌}
use mathlib.Core.Path.{◌≡◌, refl, sym, ap, ◌∙◌}
use mathlib.Core.List.{List, [], ◌∷◌, ◌++◌, append_assoc}
use native.Mathlib.Omega.{arith}
use Rattle.vocabulary.specs.Choice.{pick}
use Rattle.hex_digits.specs.Hex.{hex_digit, hex}
use Rattle.sheet.specs.Sheet.{key_at, front, width, line_text}
use Rattle.sheet.proofs.Texts.{key_o, key_c}

two_digits : (v : ℕ) {h l w : ℕ} → h ≡ hex_digit (v / 16 % 16) → l ≡ hex_digit (v % 16) → 2 ≡ w
    → h ∷ l ∷ 10 ∷ [] ≡ hex w v ++ 10 ∷ []
unfolding hex
two_digits v hi lo w = rw (hi, lo, sym w)

module _ (v : ℕ) {k : ℕ} where
  pub text_chip : k ≡ 0 → 99 ∷ 104 ∷ 105 ∷ 112 ∷ 61 ∷ 49 ∷ 53 ∷ 51 ∷ 49 ∷ 48 ∷ 56 ∷ 10 ∷ [] ≡ line_text (key_at k) v
  unfolding line_text front key_at pick hex
  text_chip e = rw e

  -- a register's line: what stands before its digits, two digits, LF
  module _ {h l : ℕ} (hi : h ≡ hex_digit (v / 16 % 16)) (low : l ≡ hex_digit (v % 16)) where
    text_register : {j : ℕ} {word : List ℕ} → k ≡ j → 2 ≡ width (key_at j)
        → word ≡ front (key_at j) ++ (h ∷ l ∷ 10 ∷ []) → word ≡ line_text (key_at k) v
    unfolding line_text
    text_register {j} e w is =
        is ∙ rw (e, append_assoc) (ap (λ (l : List ℕ). front (key_at j) ++ l) (two_digits v hi low w))

    pub text_readmask : k ≡ 1
        → 114 ∷ 101 ∷ 97 ∷ 100 ∷ 109 ∷ 97 ∷ 115 ∷ 107 ∷ 61 ∷ h ∷ l ∷ 10 ∷ [] ≡ line_text (key_at k) v
    unfolding key_at front pick
    text_readmask e = text_register {j = 1} e refl refl

    pub text_blinkmask : k ≡ 2
        → 98 ∷ 108 ∷ 105 ∷ 110 ∷ 107 ∷ 109 ∷ 97 ∷ 115 ∷ 107 ∷ 61 ∷ h ∷ l ∷ 10 ∷ [] ≡ line_text (key_at k) v
    unfolding key_at front pick
    text_blinkmask e = text_register {j = 2} e refl refl

    pub text_overlay : k ≡ 3
        → 111 ∷ 118 ∷ 101 ∷ 114 ∷ 108 ∷ 97 ∷ 121 ∷ 61 ∷ h ∷ l ∷ 10 ∷ [] ≡ line_text (key_at k) v
    unfolding key_at front pick
    text_overlay e = text_register {j = 3} e refl refl

    pub text_timing : 4 ≤ k → k < 5
        → 116 ∷ 105 ∷ 109 ∷ 105 ∷ 110 ∷ 103 ∷ 61 ∷ h ∷ l ∷ 10 ∷ [] ≡ line_text (key_at k) v
    unfolding key_at front pick
    text_timing f g = let e : k ≡ 4 = omega arith in text_register {j = 4} e refl refl

  module _ {r g b : ℕ} (up : r ≡ hex_digit (v / 16 / 16 % 16)) (mid : g ≡ hex_digit (v / 16 % 16))
      (low : b ≡ hex_digit (v % 16)) where
    pub text_o : {d : ℕ} → d ≡ hex_digit ((k - 5) % 16) → 5 ≤ k → k < 9
        → 111 ∷ d ∷ 61 ∷ r ∷ g ∷ b ∷ 10 ∷ [] ≡ line_text (key_at k) v
    unfolding line_text front hex
    text_o de f l = rw (key_o k f l, up, de, mid, low)

    pub text_c : {d e : ℕ} → d ≡ hex_digit ((k - 9) / 16 % 16) → e ≡ hex_digit ((k - 9) % 16) → 9 ≤ k
        → 99 ∷ d ∷ e ∷ 61 ∷ r ∷ g ∷ b ∷ 10 ∷ [] ≡ line_text (key_at k) v
    unfolding line_text front hex
    text_c de ee f = rw (key_c k f, up, de, ee, mid, low)

pub ruleset first_lines = (text_chip, text_readmask, text_blinkmask, text_overlay, text_timing)

pub ruleset entry_lines = (text_o, text_c)
