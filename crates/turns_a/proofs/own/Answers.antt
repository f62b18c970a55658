use Rattle.std.proofs.Common.{ap, sym, ◌∙◌}
use Rattle.hd153108.specs.Hd153108.{chip, put_back}
use Rattle.hd153108.proofs.Lent.{tick_lent}
use Rattle.turns.specs.Turns.{done}
use Rattle.turns_a.proofs.own.Goals as goal

pub returns-in-Tick : goal.returns-in-Tick
returns-in-Tick c =
    let before = chip c.args.s c.args.colours.now c.args.overlays.now in
    rw (c.in-Tick.is, c.told.ensures.says, c.told.ensures.leaves)
    (ap done (ap (λ o. put_back o before) c.zk_a_step-r.ensures ∙ sym (tick_lent before)))
