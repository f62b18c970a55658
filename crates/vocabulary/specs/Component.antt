-- Red, green, blue: three accesses make a colour, and an entry of a lent table is three numbers, red first.
use Rattle.std.specs.Prelude.{ℕ, ◌+◌, ◌*◌, List, [], ◌∷◌, get_or, set}

pub data Component : Type 0 where
  red : Component
  green : Component
  blue : Component

-- the component that a pointer, a counter or a place in the order is at
unfoldable pub component_at : ℕ → Component
component_at place = get_or (red ∷ green ∷ []) place blue

-- a component's number in its entry
abbrev pub part : Component → ℕ
part red = 0
part green = 1
part blue = 2

-- a component's own one of three
abbrev pub one_of : Component → ℕ → ℕ → ℕ → ℕ
one_of red r g b = r
one_of green r g b = g
one_of blue r g b = b

-- a table with three numbers put at an entry
unfoldable pub put : ℕ → ℕ → ℕ → ℕ → List ℕ → List ℕ
put entry r g b t = set (set (set t (3 * entry) r) (3 * entry + 1) g) (3 * entry + 2) b

-- a colour of three bytes as one number, red in the low byte
abbrev pub colour_word : ℕ → ℕ → ℕ → ℕ
colour_word r g b = r + 256 * g + 65536 * b
