-- A pattern of a port log's line: a byte string in which '#' stands for one hex digit, lower case, and any other byte
-- for itself.
use Rattle.std.specs.Prelude.{ℕ, Bool, true, false, ◌&&◌, ◌||◌, List, [], ◌∷◌, eqb, leb}
use Rattle.vocabulary.specs.Choice.{pick}

-- '0' to '9', 'a' to 'f'
unfoldable pub is_digit : ℕ → Bool
is_digit b = (leb 48 b && leb b 57) || (leb 97 b && leb b 102)

-- whether a byte is one that a pattern's byte stands for; '#' is 35
unfoldable pub stands : ℕ → ℕ → Bool
stands p b = pick (eqb p 35) (is_digit b) (eqb p b)

-- whether a line has a pattern: as many bytes, each in its place
unfoldable pub fits : List ℕ → List ℕ → Bool
fits [] [] = true
fits [] (b ∷ t) = false
fits (p ∷ ps) [] = false
fits (p ∷ ps) (b ∷ t) = stands p b && fits ps t
