-- Hex digits, lower case: a digit, a number's digits, and the number that bytes spell.
use Rattle.std.specs.Prelude.{ℕ, zero, suc, ◌+◌, ◌-◌, ◌*◌, ◌/◌, ◌%◌, List, [], ◌∷◌, ◌++◌, ltb, leb, get_or}
use Rattle.vocabulary.specs.Choice.{pick}

-- the digit of a number below 16: '0' to '9', 'a' to 'f'
unfoldable pub hex_digit : ℕ → ℕ
hex_digit d = pick (ltb d 10) (48 + d) (87 + d)

-- the number that a digit stands for; 0 for any other byte
unfoldable pub hex_value : ℕ → ℕ
hex_value b = pick (leb b 47) 0 (pick (leb b 57) (b - 48) (pick (leb b 96) 0 (pick (leb b 102) (b - 87) 0)))

-- w digits of v, the highest first
unfoldable pub hex : ℕ → ℕ → List ℕ
hex zero v = []
hex (suc w) v = hex w (v / 16) ++ hex_digit (v % 16) ∷ []

-- the number that w bytes of t spell, from place i on
unfoldable pub number : ℕ → ℕ → List ℕ → ℕ
number zero i t = 0
number (suc w) i t = number w i t * 16 + hex_value (get_or t (i + w) 0)
