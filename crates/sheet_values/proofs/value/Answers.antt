-- An entry's value is its colour in its table.
use Rattle.std.proofs.Common.{arith, ◌∙◌}
use Rattle.hd153108.specs.Hd153108.{chip}
use Rattle.sheet_written.proofs.Values.{value_overlay, value_colour}
use Rattle.sheet_values.proofs.value.Goals as goal

pub returns-in-5-to-8 : goal.returns-in-5-to-8
returns-in-5-to-8 c =
    let w = c.requires.1 in
    c.colour.ensures
    ∙ value_overlay (chip c.args.s c.args.colours.now c.args.overlays.now) w.overlays w.colours c.args.k (omega arith)
    (omega arith)

pub returns-in_default : goal.returns-in_default
returns-in_default c =
    let w = c.requires.1 in
    c.colour-in_default.ensures
    ∙ value_colour (chip c.args.s c.args.colours.now c.args.overlays.now) w.overlays w.colours c.args.k (omega arith)
