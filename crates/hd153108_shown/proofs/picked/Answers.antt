use native.Mathlib.Omega.{arith}
use mathlib.Core.Path.{◌∙◌}
use Rattle.std.proofs.lemmas.Result.{err_from_is_err_and}
use Rattle.hd153108_shown.proofs.Rule.{picked_first, picked_enable, picked_number, picked_colour, picked_overlay}
use Rattle.hd153108_shown.proofs.picked.Goals as goal

pub returns-in_err-standing : goal.returns-in_err-standing
returns-in_err-standing c =
    let p = err_from_is_err_and c.from_residual.result c.from_residual.ensures.1 in
    rw (p.1, p.2) (picked_first _ _ _ c.args.s _ _ _ c.in_err-standing.ensures)

pub returns-then-enable-ge2 : goal.returns-then-enable-ge2
returns-then-enable-ge2 c = picked_enable c.args.enable _ _ _ _ _ c.in_ok-standing.ensures (omega arith)

pub returns-then-number-ge4 : goal.returns-then-number-ge4
returns-then-number-ge4 c = picked_number _ c.args.number _ _ _ _ c.in_ok-standing.ensures (omega arith)

-- an entry of the colours, and one of the overlays
pub returns-then-shows_colour : goal.returns-then-shows_colour
returns-then-shows_colour c =
    picked_colour c.args.enable c.args.number _ c.args.s _ _ c.in_ok-standing.ensures _ (omega arith) (omega arith)
    c.shows_colour.ensures c.blink_off-off.ensures c.if-shows_colour.true
    (c.from.ensures ∙ c.masked_byte-entry.ensures)

pub returns : goal.returns
returns c =
    picked_overlay c.args.enable c.args.number _ c.args.s _ _ c.in_ok-standing.ensures _ (omega arith) (omega arith)
    c.shows_colour.ensures c.blink_off-off.ensures c.if-shows_colour.false
    (c.from-2.ensures ∙ c.masked_number-entry.ensures)
