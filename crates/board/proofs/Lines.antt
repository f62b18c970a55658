-- What lines leave as it is: an expansion and a bad line everything, a chosen chip everything but that. Assumes
-- nothing.
use Prim.Native.Nat.{ℕ}
use mathlib.Core.Path.{◌≡◌, refl}
use Rattle.port_log.specs.declared.Chip as L
use Rattle.port_log.specs.declared.Line.TheVariants.{Choose, Expand, Bad}
use Rattle.answers.specs.Answers.{bad_text}
use Rattle.turns.specs.Turns.{turn}
use Rattle.board.specs.Board.{Whole, board_turn}

module _ (w : Whole) where
  pub expand_leaves : (width v : ℕ) → (board_turn (Expand width v) w).left ≡ w
  unfolding board_turn
  expand_leaves width v = refl

  pub bad_leaves : board_turn Bad w ≡ turn bad_text w
  unfolding board_turn
  bad_leaves = refl

  pub chosen_next : (chip : L.Chip) → (board_turn (Choose chip) w).left.chosen ≡ chip
  unfolding board_turn
  chosen_next chip = refl
