-- What a part is not lent, as the page or the queue, it promises for any.
use Rattle.board_answer.proofs.Lines.{line_calls, line_lists, line_expands, line_bad, line_chooses}
use Rattle.board_answer.proofs.answer.Goals as goal

pub returns-in-To : goal.returns-in-To
returns-in-To c =
    line_calls c.call.result c.args.board _ _ _ _ _ _ _ _ _ _ _ c.in-To.is c.call.ensures

pub returns-in-Choose : goal.returns-in-Choose
returns-in-Choose c =
    line_chooses c.says.result c.args.board _ _ _ _ _ _ c.in-Choose.is c.says.ensures c.ok.ensures

pub returns-in-Expand : goal.returns-in-Expand
returns-in-Expand c =
    line_expands c.says-in-Expand.result c.args.board _ _ _ _ _ _ c.in-Expand.is c.says-in-Expand.ensures
    c.expand.ensures

pub returns-in-Sheet : goal.returns-in-Sheet
returns-in-Sheet c =
    line_lists c.sheet.result c.args.board _ _ _ _ _ _ _ c.in-Sheet.is c.sheet.ensures.took_turn

pub returns-in-Bad : goal.returns-in-Bad
returns-in-Bad c =
    line_bad c.says-in-Bad.result c.args.board _ _ _ _ _ _ c.in-Bad.is c.says-in-Bad.ensures c.bad.ensures
