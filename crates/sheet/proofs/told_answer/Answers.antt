-- What is told is what `told` tells of the count, or of the refusal's number and line.
use Rattle.std.proofs.Common.{◌∙◌, ap}
use Rattle.vocabulary.specs.Outcome.{refusing}
use Rattle.sheet.specs.Sheet.{telling}
use Rattle.sheet.proofs.told_answer.Goals as goal

pub returns-in-Ok : goal.returns-in-Ok
returns-in-Ok c out = rw c.in-Ok.is (c.told.ensures out)

pub returns-in-Err : goal.returns-in-Err
returns-in-Err c out =
    rw c.in-Err.is
    (c.told-in-Err.ensures out ∙ ap (λ n. telling (refusing n c.in-Err.e.line out)) c.from.ensures)
