-- The writer's answer, whatever stands in the tables that it is not lent.
use Rattle.board_sheet.proofs.Sheets.{sheet_a}
use Rattle.board_sheet.proofs.sheet.Goals as goal

pub returns-in-ChipA-clause-took_turn : goal.returns-in-ChipA-clause-took_turn
returns-in-ChipA-clause-took_turn c = λ queue map table.
    sheet_a c.args.board _ _ queue map table _ _ c.write_sheet.result c.in-ChipA.is c.write_sheet.ensures
    c.told-answer.ensures
