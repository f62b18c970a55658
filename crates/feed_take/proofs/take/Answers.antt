use Rattle.feed_take.proofs.Heard.{took_line, took_part}
use Rattle.feed_take.proofs.take.Goals as goal

pub returns-then-h-clause-took_turn : goal.returns-then-h-clause-took_turn
returns-then-h-clause-took_turn c = took_line c.answer.result _ _ _ _ _ _ _ _ _ c.hear-h.ensures _ c.if-h.true c.answer.ensures

pub returns-clause-took_turn : goal.returns-clause-took_turn
returns-clause-took_turn c =
    took_part c.says.result _ _ _ _ _ _ _ _ _ c.hear-h.ensures _ c.if-h.false c.says.ensures c.empty.ensures
