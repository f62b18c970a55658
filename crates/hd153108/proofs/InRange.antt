-- A chip in range, from and to the tables of refusals 1 and 9. Assumes nothing.
use mathlib.Core.Path.{◌≡◌}
use mathlib.Core.Bool.{false}
use lib.ListN.{length}
use mathlib.Core.List.{◌++◌}
use Prim.Native.Nat.{ℕ, ◌*◌, ◌<◌}
use Rattle.vocabulary.specs.Judged.{Clear}
use Rattle.vocabulary.specs.Range.{Holds}
use Rattle.vocabulary.proofs.Range.{holds_passes}
use Rattle.hd153108.specs.Hd153108.{Chip, Table, colour, overlay, size, table_of, lengths, ranges, short, outside}
use Rattle.hd153108.specs.Hd153108.{InRange, pixel_ranges, pixel_refusals}

module _ (c : Chip) where
  pub in_range_lem : Holds (lengths c) → Holds (ranges c) → InRange c
  in_range_lem l r = search

  module _ (g : InRange c) where
    pub lengths_hold : Holds (lengths c)
    lengths_hold = search

    pub ranges_hold : Holds (ranges c)
    ranges_hold = search

    pub not_short : short c ≡ false
    not_short = holds_passes _ lengths_hold

    pub not_outside : outside c ≡ false
    not_outside = holds_passes _ ranges_hold

    -- a pixel is not refused for its chip, nor for an enable of 0 or 1 and a number of 0 to 3
    pub pixel_clear : (enable number : ℕ) → enable < 2 → number < 4 → Clear (pixel_refusals enable number c)
    pixel_clear enable number e n =
        (not_short, (holds_passes (pixel_ranges enable number ++ ranges c) (e, (n, ranges_hold)), tt))

pub table_length : (t : Table) (c : Chip) → InRange c → length (table_of t c) ≡ 3 * size t
table_length colour c g = g.colours
table_length overlay c g = g.overlays
