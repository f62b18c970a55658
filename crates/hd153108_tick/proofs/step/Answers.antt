use Rattle.hd153108.proofs.Blink.{tick_refused, tick_accepted}
use borrow.Author.Rules.{rules}
use Rattle.hd153108_tick.proofs.step.Goals as goal

pub returns-then-period-position : goal.returns-then-period-position
returns-then-period-position c = tick_refused _ _ _ c.period_of-period.ensures c.if-period-position.true

pub returns : goal.returns
returns c = tick_accepted _ _ _ c.period_of-period.ensures (search rules) c.if-period-position.false
