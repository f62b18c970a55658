use Rattle.std.proofs.Common.{rules, ◌≡◌, Ok}
use Rattle.calls.proofs.Ends.{malformed_eight, good_kept, calls_fit, refused_short, done}
use Rattle.sheet_calls.proofs.sheet_calls.Goals as goal

pub returns-in_err-lines-clause-answer : goal.returns-in_err-lines-clause-answer
returns-in_err-lines-clause-answer c = search (malformed_eight, rules)

pub count_of-count-requires : goal.count_of-count-requires
count_of-count-requires c =
    let h : c.read.result ≡ Ok c.in_ok-lines.lines = search rules in
    good_kept c.args.text.now c.in_ok-lines.lines (rw h at c.read.ensures)

pub returns-then-out-count-clause-answer : goal.returns-then-out-count-clause-answer
returns-then-out-count-clause-answer c =
    let h : c.read.result ≡ Ok c.in_ok-lines.lines = search rules in
    rw c.into.ensures
    (refused_short c.args.text.now c.in_ok-lines.lines (rw h at c.read.ensures) c.args.out.now c.count_of-count.ensures.0 c.if-out-count.true)

pub write_calls-requires : goal.write_calls-requires
write_calls-requires c =
    let h : c.read.result ≡ Ok c.in_ok-lines.lines = search rules in
    (good_kept c.args.text.now c.in_ok-lines.lines (rw h at c.read.ensures), calls_fit c.in_ok-lines.lines c.args.out.now c.count_of-count.ensures.0 c.if-out-count.false)

pub returns-clause-answer : goal.returns-clause-answer
returns-clause-answer c =
    let h : c.read.result ≡ Ok c.in_ok-lines.lines = search rules in
    done c.args.text.now c.in_ok-lines.lines (rw h at c.read.ensures) c.args.out.now c.count_of-count.ensures.0 c.if-out-count.false c.write_calls.ensures
