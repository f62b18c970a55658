-- What the decision means, in the words of hd153108's specs/Hd153108.antt.
use Rattle.std.specs.Prelude.{ℕ, ◌+◌, ◌*◌, ◌≤◌, ◌≡◌, Bool, true, false, List, [], length, Result, Ok, Err}
use Rattle.vocabulary.specs.declared.Refusal.{Refusal}
use Rattle.vocabulary.specs.Refusal.{number as number_of}
use Rattle.vocabulary.specs.Outcome.{Outcome, accepting, refusing}
use Rattle.hd153108.specs.declared.State.{State}
use Rattle.hd153108.specs.Hd153108.{Chip, Table, colour, overlay, shown_table, shown_entry, colour_at, pixel_part}
use Rattle.hd153108_shown.specs.declared.Pick.{Pick}
use Rattle.hd153108_shown.specs.declared.Pick.TheVariants.{Colour, Overlay}

abbrev pub is_colour : Table → Bool
is_colour colour = true
is_colour overlay = false

-- each answer as document 01's number and the three bytes; where refused, the number and no byte
abbrev pub meaning : Chip → Result Pick Refusal → Outcome (List ℕ)
meaning c (Ok (Colour e)) = accepting 0 0 (colour_at e c.colours)
meaning c (Ok (Overlay e)) = accepting 0 0 (colour_at e c.overlays)
meaning c (Err r) = refusing (number_of r) 0 []

-- the entry lies in its table
abbrev pub Inside : Chip → Result Pick Refusal → Type 0
Inside c (Ok (Colour e)) = 3 * e + 3 ≤ length c.colours
Inside c (Ok (Overlay e)) = 3 * e + 3 ≤ length c.overlays
Inside c (Err r) = Unit

-- and it is the entry that shows, of the table that shows
abbrev pub Which : ℕ → ℕ → ℕ → State → Result Pick Refusal → Type 0
Which enable number byte s (Ok (Colour e)) =
    (shown_table enable number s ≡ colour) × (e ≡ shown_entry colour number byte s)
Which enable number byte s (Ok (Overlay e)) =
    (shown_table enable number s ≡ overlay) × (e ≡ shown_entry overlay number byte s)
Which enable number byte s (Err r) = Unit

pub record Picked (enable number byte : ℕ) (c : Chip) (p : Result Pick Refusal) : Type 0 where
  pub means : meaning c p ≡ pixel_part enable number byte c
  pub inside : Inside c p
  pub which : Which enable number byte c.state p
