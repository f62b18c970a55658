-- `picked` promises what its decision means, and each arm knows which decision it was; so the entry lies in its table,
-- which `entry` asks, and what is shown is what the call answers (`told_as`).
use mathlib.Core.Path.{◌∙◌, ap}
use Rattle.std.proofs.Common.{Ok}
use Rattle.std.proofs.lemmas.Result.{err_from_is_err_and}
use Rattle.hd153108_shown.proofs.Rule.{told_as}
use Rattle.hd153108_pixel_c.proofs.colour.Goals as goal

pub returns-in_err-pick : goal.returns-in_err-pick
returns-in_err-pick c =
    let p = err_from_is_err_and c.from_residual.result c.from_residual.ensures.1 in
    rw (p.1, p.2) (told_as c.picked.ensures c.in_err-pick.was)

pub returns-in-Colour : goal.returns-in-Colour
returns-in-Colour c = rw c.entry.ensures (told_as c.picked.ensures (c.in_ok-pick.was ∙ ap Ok c.in-Colour.is))

pub returns-in-Overlay : goal.returns-in-Overlay
returns-in-Overlay c =
    rw c.entry-in-Overlay.ensures (told_as c.picked.ensures (c.in_ok-pick.was ∙ ap Ok c.in-Overlay.is))
