-- The words of a sheet's lines, in letters: what stands before each key's digits (document 01, "The sheet and its
-- calls").
use Rattle.std.specs.Prelude.{ℕ, zero, suc, ◌+◌, ◌≡◌, List, [], ◌∷◌, ◌++◌}
use Prim.Native.Char.{code}
use Prim.Native.String.{String, len, char_at}
use Rattle.hex_digits.specs.Hex.{hex}
use Rattle.sheet.specs.Sheet.{front, chip, readmask, blinkmask, overlay, timing, o, c}

-- a word's letters as bytes: n of them, from the one at i on
abbrev pub letters_from : ℕ → ℕ → String → List ℕ
letters_from zero i word = []
letters_from (suc n) i word = code (char_at word i) ∷ letters_from n (i + 1) word

abbrev pub letters : String → List ℕ
letters word = letters_from (len word) 0 word

pub record Words : Type 0 where
  pub chip : front chip ≡ letters "chip=153108"
  pub readmask : front readmask ≡ letters "readmask="
  pub blinkmask : front blinkmask ≡ letters "blinkmask="
  pub overlay : front overlay ≡ letters "overlay="
  pub timing : front timing ≡ letters "timing="
  -- an entry's number in one digit, or in two
  pub o : (e : ℕ) → front (o e) ≡ letters "o" ++ hex 1 e ++ letters "="
  pub c : (e : ℕ) → front (c e) ≡ letters "c" ++ hex 2 e ++ letters "="
