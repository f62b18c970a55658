-- What was read are the input's first bytes, and what the step from them to the calls answers is printed.
use Rattle.std.proofs.Common.{take, arith, Ok, Err}
use Rattle.loadlist.proofs.Lines.{lines_in_part}
use Rattle.loadlist.proofs.Loads.{loads}
use Rattle.loadlist.proofs.load.Goals as goal

pub returns-in-Ok : goal.returns-in-Ok
returns-in-Ok g c =
    let read = c.in_ok-n.ensures in
    loads c.show_calls.result _ (g.R.Read.remaining c.read_full.new.from) _ _ (take c.in_ok-n.n c.read_full.new.text)
    c.sheet_calls.new.out (Ok c.in-Ok.count)
    (omega (arith, read.inside)) read.bytes (λ h. read.end (omega (arith, read.inside, h))) c.in-Ok.ensures.answer
    (rw (lines_in_part c.in-Ok.count c.sheet_calls.new.out c.in-Ok.ensures.inside) at c.show_calls.ensures)

pub returns-in-Err : goal.returns-in-Err
returns-in-Err g c =
    let read = c.in_ok-n.ensures in
    loads c.show_refusal.result _ (g.R.Read.remaining c.read_full.new.from) _ _
    (take c.in_ok-n.n c.read_full.new.text) c.sheet_calls.new.out
    (Err c.in-Err.refused) (omega (arith, read.inside)) read.bytes
    (λ h. read.end (omega (arith, read.inside, h))) c.in-Err.ensures.answer
    c.show_refusal.ensures
