-- Past what is tried first the chip is in range (`past`): refusal 9 by the mode or the word (`pixel_outside`), three
-- reads that lie in a whole map, and the three bytes (`pixel_does`).
use Rattle.std.proofs.Common.{refl, arith}
use Rattle.vocabulary.specs.Component.{red, green, blue}
use Rattle.ms622424.specs.Ms622424.{pixel_byte}
use Rattle.ms622424.proofs.InRange.{past}
use Rattle.ms622424.proofs.Pixel.{pixel_outside, pixel_does}
use Rattle.ms622424_pixel.proofs.colour.Goals as goal

pub returns-then-mode-gt3 : goal.returns-then-mode-gt3
returns-then-mode-gt3 c =
    pixel_outside _ _ _ (past _ c.in_ok-standing_tables.ensures refl)
    (λ m w. let e = c.then-mode-gt3.either in omega arith)

pub bounds-map-red : goal.bounds-map-red
bounds-map-red c = let size = (past _ c.in_ok-standing_tables.ensures refl).size in omega arith

pub bounds-map-green : goal.bounds-map-green
bounds-map-green c = let size = (past _ c.in_ok-standing_tables.ensures refl).size in omega arith

pub bounds-map-blue : goal.bounds-map-blue
bounds-map-blue c = let size = (past _ c.in_ok-standing_tables.ensures refl).size in omega arith

pub returns : goal.returns
unfolding pixel_byte
returns c =
    pixel_does _ _ _ (past _ c.in_ok-standing_tables.ensures refl) (omega arith) (omega arith)
    (c.entry-red.ensures.1 red refl) (c.entry.ensures.1 green refl) (c.entry-2.ensures.1 blue refl)
