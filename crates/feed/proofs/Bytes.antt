-- Bytes: held, or the end of a line; a text up to its first LF. Assumes nothing.
use Prim.Native.Nat.{ℕ, ◌≤◌, ◌<◌}
use mathlib.Core.Path.{◌≡◌, refl, sym, ◌∙◌}
use mathlib.Core.List.{List, [], ◌∷◌, ◌++◌, append-nil, append_assoc}
use native.Mathlib.Numerals.{add-one}
use lib.ListN.{length, take}
use lib.Seq.{take-suc}
use borrow.Author.Tests.{eq-eqb, ne_eqb}
use Rattle.vocabulary.proofs.Choice.{picks_first, picks_second}
use Rattle.turns.specs.Turns.{turn}
use Rattle.board.specs.Board.{Whole}
use Rattle.hold.specs.Hold.{Hold, holding, holding_all, before, up_to, Within, held_of}
use Rattle.hold.proofs.Texts.{before_is_lf, before_within, up_to_lf, up_to_all}
use Rattle.feed.specs.Feed.{Desk, desk, ended, byte_turn, fed}

module _ (b : ℕ) (d : Desk) where
  pub byte_ends : b ≡ 10 → byte_turn b d ≡ ended d
  unfolding byte_turn
  byte_ends e = picks_first _ _ (eq-eqb b 10 e)

  pub byte_holds : (b ≡ 10 → ⊥) → byte_turn b d ≡ turn [] (desk d.board (holding b d.hold))
  unfolding byte_turn
  byte_holds h = picks_second _ _ (ne_eqb b 10 h)

-- bytes behind bytes
pub fed_more : (xs ys : List ℕ) (d : Desk)
    → fed (xs ++ ys) d ≡ turn ((fed xs d).text ++ (fed ys (fed xs d).left).text) (fed ys (fed xs d).left).left
unfolding fed
fed_more [] ys d = refl
fed_more (x ∷ xs) ys d = rw (fed_more xs ys (byte_turn x d).left, append_assoc)

-- bytes that are no LF are held, and answer nothing
pub fed_held : (bs : List ℕ) (w : Whole) (h : Hold) → Within bs
    → fed bs (desk w h) ≡ turn [] (desk w (holding_all bs h))
unfolding fed holding_all
fed_held [] w h n = refl
fed_held (b ∷ bs) w h n = rw (byte_holds b (desk w h) n.0) (fed_held bs w (holding b h) n.1)

-- with an LF behind them the line is put to the board
pub fed_ended : (bs : List ℕ) (w : Whole) (h : Hold) → Within bs
    → fed (bs ++ 10 ∷ []) (desk w h) ≡ ended (desk w (holding_all bs h))
unfolding fed
fed_ended bs w h n =
    fed_more bs (10 ∷ []) (desk w h)
    ∙ rw (fed_held bs w h n, byte_ends 10 (desk w (holding_all bs h)) refl, append-nil)

-- a text up to its first LF, and one that has none
module _ (t : List ℕ) (w : Whole) (h : Hold) where
  pub fed_line : before t < length t → fed (take (up_to t) t) (desk w h) ≡ ended (desk w (held_of t h))
  fed_line g =
      rw (sym (up_to_lf t g), add-one, take-suc t (before t) 0 g, before_is_lf t g) (fed_ended (take (before t) t) w h
      (before_within t))

  pub fed_part : length t ≤ before t → fed (take (up_to t) t) (desk w h) ≡ turn [] (desk w (held_of t h))
  fed_part g = rw (sym (up_to_all t g)) (fed_held (take (before t) t) w h (before_within t))
