-- What is handed back of a text that was put to the board, with all that was lent as it is afterwards.
use Rattle.std.specs.Prelude.{ℕ, List}
use Rattle.turns.specs.Turns.{Turn, Took}
use Rattle.board.specs.Board.{whole, Answers}
use Rattle.hold.specs.Hold.{hold}
use Rattle.feed.specs.Feed.{Desk, desk}
use Rattle.feed_take.specs.declared.Fed.{Fed}

abbrev pub FedTook : Fed → List ℕ → List ℕ → List ℕ → List ℕ → List ℕ → List ℕ → List ℕ → Turn Desk → Type 0
FedTook r bytes colours overlays queue map table page t =
    Took (Answers r.step page)
    (desk (whole r.step.board colours overlays queue map table page) (hold bytes r.len)) t
