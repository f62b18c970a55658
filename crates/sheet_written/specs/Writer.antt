-- What the writer's helpers are given: tables and state that pass its refusals.
use Rattle.std.specs.Prelude.{◌≡◌, false, length}
use Rattle.vocabulary.specs.Range.{Holds}
use Rattle.hd153108.specs.Hd153108.{Chip, ranges}
use Rattle.sheet.specs.Sheet.{over_fifteen_in}

pub record Writable (a : Chip) : Type 0 where
  pub colours : length a.colours ≡ 768
  pub overlays : length a.overlays ≡ 12
  pub low_colours : over_fifteen_in a.colours ≡ false
  pub low_overlays : over_fifteen_in a.overlays ≡ false
  pub state : Holds (ranges a)
