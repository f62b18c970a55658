-- HOW FAR THE BOARD'S PROMISE FIXES THE BYTES of chip B's state and tables, which it tells of through the chip that
-- they are: all but what the places hold that no entry waits in. Assumes nothing.
use mathlib.Core.Path.{◌≡◌, sym, ◌∙◌}
use Rattle.ms622424_places.specs.Places.{Handed, view, SameInUse}
use Rattle.ms622424_places.proofs.Determined.{kept_once}
use Rattle.port_log.specs.declared.Line.{Line}
use Rattle.board.specs.Board.{Whole, board_turn}

pub bytes_in_use : (line : Line) (w : Whole) (h g : Handed) → view h ≡ (board_turn line w).left.b
    → view g ≡ (board_turn line w).left.b → SameInUse h g
bytes_in_use line w h g a b = kept_once h g (a ∙ sym b)
