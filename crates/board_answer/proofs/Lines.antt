-- The arms of a line: what was matched, and what the board's turn is there. Assumes nothing.
use Prim.Native.Nat.{ℕ}
use mathlib.Core.Path.{◌≡◌}
use mathlib.Core.List.{List}
use Rattle.port_log.specs.declared.Chip.{Chip}
use Rattle.port_log.specs.declared.Call.{Call}
use Rattle.port_log.specs.declared.Line.{Line}
use Rattle.port_log.specs.declared.Line.TheVariants.{To, Choose, Expand, Sheet, Bad}
use Rattle.answers.specs.Answers.{ok_text, bad_text}
use Rattle.turns.specs.Turns.{expand_text}
use Rattle.board.specs.declared.Board.{Board}
use Rattle.board.specs.declared.Step.{Step}
use Rattle.board.specs.Board.{whole, chip_turn, sheet_turn, board_turn, says, StepTook}
use Rattle.board.proofs.Steps.{took_text}

module _ {line : Line} (r : Step) (s : Board) (cs os queue map table page : List ℕ) where
  pub line_calls : (cs' os' queue' map' table' : List ℕ) {call : Call} → line ≡ To call
      → ((p : List ℕ)
      → StepTook r cs' os' queue' map' table' p (chip_turn s.chosen call (whole s cs os queue map table p)))
      → StepTook r cs' os' queue' map' table' page (board_turn line (whole s cs os queue map table page))
  unfolding board_turn
  line_calls cs' os' queue' map' table' m h = rw m (h page)

  pub line_lists : (page' : List ℕ) → line ≡ Sheet
      → ((q m t : List ℕ) → StepTook r cs os q m t page' (sheet_turn s.chosen (whole s cs os q m t page)))
      → StepTook r cs os queue map table page' (board_turn line (whole s cs os queue map table page))
  unfolding board_turn
  line_lists page' m h = rw m (h queue map table)

  pub line_expands : {text : List ℕ} {width v : ℕ} → line ≡ Expand width v → r ≡ says s text
      → text ≡ expand_text width v
      → StepTook r cs os queue map table page (board_turn line (whole s cs os queue map table page))
  unfolding board_turn
  line_expands m e h = rw (m, e) (took_text (whole s cs os queue map table page) h)

  pub line_bad : {text : List ℕ} → line ≡ Bad → r ≡ says s text → text ≡ bad_text
      → StepTook r cs os queue map table page (board_turn line (whole s cs os queue map table page))
  unfolding board_turn
  line_bad m e h = rw (m, e) (took_text (whole s cs os queue map table page) h)

  pub line_chooses : {text : List ℕ} {chip : Chip} → line ≡ Choose chip → r ≡ says (record s { chosen = chip }) text
      → text ≡ ok_text
      → StepTook r cs os queue map table page (board_turn line (whole s cs os queue map table page))
  unfolding board_turn
  line_chooses {chip = chip} m e h =
      rw (m, e) (took_text (whole (record s { chosen = chip }) cs os queue map table page) h)
