use Rattle.hold.proofs.Texts.{hears_line, hears_part}
use Rattle.hold_hear.proofs.hear.Goals as goal

pub returns-then-s-text : goal.returns-then-s-text
returns-then-s-text c =
    let s = c.scan-s.ensures in
    hears_line _ _ _ s.0 s.1 c.said-line.ensures c.if-s-text.true

pub returns : goal.returns
returns c =
    let s = c.scan-s.ensures in
    hears_part _ _ _ s.0 s.1 c.said-line.ensures c.if-s-text.false
