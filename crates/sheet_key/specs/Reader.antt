-- Reading a sheet line by line. What the sheet says is `sheet_of`; here is what one line's answer makes of it.
use Rattle.std.specs.Prelude.{ℕ, ◌+◌, ◌-◌, ◌*◌, ◌≤◌, ◌<◌, ◌≡◌, List, [], ◌∷◌, ◌++◌, ltb, eqb, length, get_or}
use Rattle.std.specs.Prelude.{drop, replicate, Option, Some, None}
use Rattle.vocabulary.specs.Choice.{pick}
use Rattle.hex_digits.specs.Hex.{hex_value}
use Rattle.sheet.specs.Sheet.{Line}
use Rattle.sheet.specs.Sheet.{keys, Reading, bad, led, read_from}
use Rattle.sheet_key.specs.declared.Found.{Found}

-- The number of the key that a line names, where key `due` is the least that may come: one of the five first lines has
-- to be the one that is due; an entry's line names its table and its number. A line that names none has number `keys`.
unfoldable pub named : List ℕ → ℕ → ℕ
named t due =
    pick (ltb due 5) due
    (pick (eqb (get_or t 0 0) 111) (5 + hex_value (get_or t 1 0))
    (pick (eqb (get_or t 0 0) 99) (9 + (hex_value (get_or t 1 0) * 16 + hex_value (get_or t 2 0))) keys))

-- the number of a key that is named or not
abbrev pub number_of : Option ℕ → ℕ
number_of (Some k) = k
number_of None = keys

-- a reading with the lines of several keys before it
unfoldable pub leads : List Line → Reading → Reading
leads [] r = r
leads (x ∷ l) r = led x (leads l r)

-- so many keys missing, and then a key's line
abbrev pub after : ℕ → ℕ → List Line
after missing v = replicate missing None ++ Some v ∷ []

-- what the answer of line n makes of the sheet: it goes on behind the line, or it is refused, 8, with the line's
-- number
unfoldable pub on_from : ℕ → Option Found → (ℕ → ℕ → ℕ → Reading) → Reading
on_from n (Some x) f = f x.key x.value x.next
on_from n None f = bad n

-- the key of a line is one that may come, and its end lies in the text
abbrev pub Inside : List ℕ → ℕ → Option Found → Type 0
Inside text due (Some x) = (due ≤ x.key) × (x.key < keys) × (x.value < 4096) × (x.next ≤ length text)
Inside text due None = Unit

-- A line's answer is right: the sheet from the key that is due on is what the answer makes of it.
abbrev pub Right : List ℕ → ℕ → ℕ → Option Found → Type 0
Right text at due x =
    Inside text due x
    × ((n : ℕ) → read_from (keys - due) due n (drop at text)
    ≡ on_from n x
    (λ k v next. leads (after (k - due) v) (read_from (keys - (k + 1)) (k + 1) (n + 1) (drop next text))))
