-- Which part of which table a pixel hands back. A place is a block of memory and the bytes before it in that block; a
-- lent table's is that of its first byte.
use Rattle.std.specs.Prelude.{ℕ, ◌+◌, ◌*◌}
use Rattle.hd153108.specs.declared.State.{State}
use Rattle.hd153108.specs.Hd153108.{Table, colour, overlay, shown_table, shown_entry}

-- an entry's place in its table, of colours and overlays lent at two places
abbrev pub entry_place : Table → ℕ → ℕ × ℕ → ℕ × ℕ → ℕ × ℕ
entry_place colour entry colours overlays = (colours.0, colours.1 + 3 * entry)
entry_place overlay entry colours overlays = (overlays.0, overlays.1 + 3 * entry)

-- the place of the entry that shows, in the table that shows
abbrev pub shown_place : ℕ → ℕ → ℕ → State → ℕ × ℕ → ℕ × ℕ → ℕ × ℕ
shown_place enable number byte s =
    let t = shown_table enable number s in entry_place t (shown_entry t number byte s)
