-- The whole board of a replay: what a log line does to it, and the bytes that answer it.
use Rattle.std.specs.Prelude.{ℕ, ◌≤◌, ◌≡◌, List, length, take}
use Rattle.hd153108.specs.Hd153108 as A
use Rattle.ms622424.specs.Ms622424 as B
use Rattle.ms622424_places.specs.Places.{handed, view}
use Rattle.ms622424_places.specs.declared.State as BS
use Rattle.rgb640.specs.Rgb640 as C
use Rattle.sheet.specs.Sheet.{write, text_of}
use Rattle.port_log.specs.declared.Chip.{Chip}
use Rattle.port_log.specs.declared.Chip.TheVariants.{ChipA, ChipB, ChipC}
use Rattle.port_log.specs.declared.Call.{Call}
use Rattle.port_log.specs.declared.Line as L
use Rattle.port_log.specs.declared.Line.TheVariants.{To, Choose, Expand, Sheet, Bad}
use Rattle.answers.specs.Answers.{told, ok_text}
use Rattle.turns.specs.Turns.{Turn, turn, bad, Took, expand_text}
use Rattle.turns_a.specs.Turns.{a_turn}
use Rattle.turns_b.specs.Turns.{b_turn}
use Rattle.turns_c.specs.Turns.{c_turn}
use Rattle.board.specs.declared.Board.{Board}
use Rattle.board.specs.declared.Answer.{Answer}
use Rattle.board.specs.declared.Answer.TheVariants.{Line, Page}
use Rattle.board.specs.declared.Step.{Step}

-- three chips with their tables, the chip chosen last, and the page that a sheet is written on
pub record Whole : Type 0 where
  pub a : A.Chip
  pub b : B.Chip
  pub c : C.Chip
  pub chosen : Chip
  pub page : List ℕ

-- parts anew
abbrev pub with_a : Whole → A.Chip → Whole
with_a w a = record w { a = a }

abbrev pub with_b : Whole → B.Chip → Whole
with_b w b = record w { b = b }

abbrev pub with_c : Whole → C.Chip → Whole
with_c w c = record w { c = c }

abbrev pub choosing : Chip → Whole → Whole
choosing chip w = record w { chosen = chip }

abbrev pub with_page : List ℕ → Whole → Whole
with_page page w = record w { page = page }

-- ---- A line

-- a chip's turn as the board's: the other chips stay
abbrev pub turned : {C : Type 0} → (C → Whole) → Turn C → Turn Whole
turned with t = turn t.text (with t.left)

-- a call goes to the chip chosen last
abbrev pub chip_turn : Chip → Call → Whole → Turn Whole
chip_turn ChipA call w = turned (with_a w) (a_turn call w.a)
chip_turn ChipB call w = turned (with_b w) (b_turn call w.b)
chip_turn ChipC call w = turned (with_c w) (c_turn call w.c)

-- the sheet is chip A's: the writer's refusal, or the lines that it wrote
abbrev pub sheet_turn : Chip → Whole → Turn Whole
sheet_turn ChipA w =
    let o = write w.a w.page in
    turn (told o.refusal (text_of w.a)) (with_page o.left w)
sheet_turn ChipB w = bad w
sheet_turn ChipC w = bad w

-- `chip=` chooses and changes nothing else, `expand=` speaks to any chip, a bad line calls nothing
unfoldable pub board_turn : L.Line → Whole → Turn Whole
board_turn (To call) w = chip_turn w.chosen call w
board_turn (Choose chip) w = turn ok_text (choosing chip w)
board_turn (Expand width v) w = turn (expand_text width v) w
board_turn Sheet w = sheet_turn w.chosen w
board_turn Bad w = bad w

-- ---- The start

-- chip B before its first reset: revision 3 and board number 5, which the reset keeps
abbrev pub revised : BS.State
revised = record {
  port = record { address = 0; counter = 0; red = 0; green = 0 };
  control = record { command = 0; readmode = 0 };
  ident = record { revision = 3; board = 5 };
  fifo = record { first = 0; waiting = 0 };
}

-- every state as a reset leaves it, whatever A's and C's were before; chip A is chosen
abbrev pub started : A.Chip → List ℕ → List ℕ → C.Chip → List ℕ → Whole
started a queue map c page = record {
  a = (A.called A.resets a).left;
  b = (B.called B.resets (view (handed revised queue map))).left;
  c = (C.called C.resets c).left;
  chosen = ChipA;
  page = page;
}

-- ---- What is handed back, with the lent tables and the page as they are afterwards

abbrev pub whole : Board → List ℕ → List ℕ → List ℕ → List ℕ → List ℕ → List ℕ → Whole
whole s colours overlays queue map table page = record {
  a = A.chip s.a colours overlays;
  b = view (handed s.b queue map);
  c = C.chip s.c table;
  chosen = s.chosen;
  page = page;
}

-- a board after a line that a text answers
abbrev pub says : Board → List ℕ → Step
says board text = record { board = board; answer = Line text }

-- an answer's bytes: its text, or the page's first bytes
abbrev pub Answered : Answer → List ℕ → List ℕ → Type 0
Answered (Line t) page text = t ≡ text
Answered (Page n) page text = (n ≤ length page) × (take n page ≡ text)

abbrev pub Answers : Step → List ℕ → List ℕ → Type 0
Answers r page text = Answered r.answer page text

abbrev pub StepTook : Step → List ℕ → List ℕ → List ℕ → List ℕ → List ℕ → List ℕ → Turn Whole → Type 0
StepTook r colours overlays queue map table page t =
    Took (Answers r page) (whole r.board colours overlays queue map table page) t
