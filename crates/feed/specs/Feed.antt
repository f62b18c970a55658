-- A log's bytes, one after another: a byte is held, or the line that it ends is put to the board.
use Rattle.std.specs.Prelude.{ℕ, ◌≡◌, List, [], ◌∷◌, ◌++◌, eqb, length}
use Rattle.vocabulary.specs.Choice.{pick}
use Rattle.port_log.specs.Log.{line_of}
use Rattle.turns.specs.Turns.{Turn, turn}
use Rattle.board.specs.Board.{Whole, board_turn}
use Rattle.hold.specs.Hold.{Hold, hold, held, holding, Within}

-- the board, and the hold of the line that is being read
pub record Desk : Type 0 where
  pub board : Whole
  pub hold : Hold

abbrev pub desk : Whole → Hold → Desk
desk board h = record { board = board; hold = h }

-- the line is put to the board, and the next starts
abbrev pub ended : Desk → Turn Desk
ended d =
    let t = board_turn (line_of (held d.hold)) d.board in
    turn t.text (desk t.left (hold d.hold.bytes 0))

-- LF, 10, ends a line; another byte answers nothing
unfoldable pub byte_turn : ℕ → Desk → Turn Desk
byte_turn b d = pick (eqb b 10) (ended d) (turn [] (desk d.board (holding b d.hold)))

-- the bytes of a text, and all that they answer
unfoldable pub fed : List ℕ → Desk → Turn Desk
fed [] d = turn [] d
fed (b ∷ bs) d =
    let t = byte_turn b d in
    let more = fed bs t.left in
    turn (t.text ++ more.text) more.left

-- the same by lines, each without its LF; and the bytes of such a log
unfoldable pub by_lines : List (List ℕ) → Whole → Turn Whole
by_lines [] w = turn [] w
by_lines (l ∷ ls) w =
    let t = board_turn (line_of l) w in
    let more = by_lines ls t.left in
    turn (t.text ++ more.text) more.left

unfoldable pub log_of : List (List ℕ) → List ℕ
log_of [] = []
log_of (l ∷ ls) = l ++ 10 ∷ log_of ls

abbrev pub AllWithin : List (List ℕ) → Type 0
AllWithin [] = Unit
AllWithin (l ∷ ls) = Within l × AllWithin ls

-- A LOG BY LINES: with room for 16 bytes of a line, the bytes of a log of lines of any lengths leave the board and
-- answer what the lines do, one after another, and the next line starts (proofs/Lines.antt, `by_lines_lem`)
pub record ByLines (ls : List (List ℕ)) (w : Whole) (t : Turn Desk) : Type 0 where
  pub text : t.text ≡ (by_lines ls w).text
  pub board : t.left.board ≡ (by_lines ls w).left
  pub room : length t.left.hold.bytes ≡ 16
  pub next : t.left.hold.len ≡ 0
