-- A line that names no key (`high`), one that may not come (`low`), one whose key's line is not there (`wrong`), and a
-- line that is read (`found`).
use Rattle.std.proofs.Common.{arith}
use Rattle.sheet_key.proofs.Along.{rest_of, low, high, wrong, found}
use Rattle.sheet_key.proofs.line_at.Goals as goal

pub returns-in_err-key : goal.returns-in_err-key
returns-in_err-key c =
    rw c.from_residual.ensures
    (high c.args.text.now c.args.at c.args.due (rest_of c.args.text.now c.args.at) c.in_err-key.ensures.named
    c.requires.0 c.requires.1 (omega arith))

pub returns-then-key-due : goal.returns-then-key-due
returns-then-key-due c =
    low c.args.text.now c.args.at c.args.due (rest_of c.args.text.now c.args.at) c.in_ok-key.ensures.named
    c.requires.0 c.requires.1 c.if-key-due.true

pub returns-in_err-value : goal.returns-in_err-value
returns-in_err-value c =
    rw c.from_residual-in_err-value.ensures
    (wrong c.args.text.now c.args.at c.args.due (rest_of c.args.text.now c.args.at) c.in_ok-key.ensures.named
    c.requires.0 c.requires.1 c.in_err-value.ensures)

pub returns : goal.returns
returns c =
    found c.args.text.now c.args.at c.args.due (rest_of c.args.text.now c.args.at) c.in_ok-key.ensures.named
    c.requires.0 c.requires.1 c.if-key-due.false c.in_ok-key.ensures.one c.in_ok-value.ensures c.line_len.ensures.0
