-- Chip C: what an access of a port may change of a chip c, which is d afterwards; all else is as it was.
use Rattle.std.specs.Prelude.{◌≡◌}
use Rattle.rgb640.specs.Rgb640.{Chip, chip, state, at, updating, Register, index_low, index_high, index_data, not_served}

-- index, place and fetched entry; the latches, register 0x000E and the table stay
abbrev pub PlaceAlone : Chip → Chip → Type 0
PlaceAlone c d =
    let s = c.state in
    let n = d.state in
    d ≡ chip (state n.index n.place s.red s.green n.fetched s.update) c.table

-- the palette's part: the fetched entry, which is a copy, and register 0x000E stay
abbrev pub PaletteAlone : Chip → Chip → Type 0
PaletteAlone c d =
    let n = d.state in
    d ≡ chip (state n.index n.place n.red n.green c.state.fetched c.state.update) d.table

-- register 0x000E alone: its access moves nothing
abbrev pub RegisterAlone : Chip → Chip → Type 0
RegisterAlone c d = d ≡ chip (updating c.state d.state.update) c.table

-- a data access, at register 0x000E and elsewhere
pub record DataWriteLeaves (c d : Chip) : Type 0 where
  pub register : c.state.index ≡ 0x000E → RegisterAlone c d
  pub elsewhere : (c.state.index ≡ 0x000E → ⊥) → PaletteAlone c d

pub record DataReadLeaves (c d : Chip) : Type 0 where
  pub register : c.state.index ≡ 0x000E → d ≡ c
  pub elsewhere : PlaceAlone c d

abbrev pub WriteLeaves : Register → Chip → Chip → Type 0
-- port 4: the index alone
WriteLeaves index_low c d = d ≡ chip (at c.state d.state.index c.state.place) c.table
WriteLeaves index_high c d = PlaceAlone c d
WriteLeaves index_data c d = DataWriteLeaves c d
WriteLeaves not_served c d = d ≡ c

abbrev pub ReadLeaves : Register → Chip → Chip → Type 0
-- ports 4 and 5 read back and move nothing
ReadLeaves index_low c d = d ≡ c
ReadLeaves index_high c d = d ≡ c
ReadLeaves index_data c d = DataReadLeaves c d
ReadLeaves not_served c d = d ≡ c
