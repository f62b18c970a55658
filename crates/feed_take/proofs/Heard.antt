-- A text that was heard, as the bytes put to the board: where a line ended, its turn; else the hold alone. Assumes
-- nothing.
use Prim.Native.Nat.{ℕ}
use mathlib.Core.Path.{◌≡◌, sym, ap, ◌∙◌}
use mathlib.Core.Bool.{true, false}
use mathlib.Core.List.{List, []}
use lib.ListN.{length, take}
use borrow.Author.Tests.{ltb-true, ltb-false}
use Rattle.vocabulary.specs.Choice.{pick}
use Rattle.turns.specs.Turns.{Took}
use Rattle.board.specs.declared.Board.{Board}
use Rattle.board.specs.declared.Step.{Step}
use Rattle.board.specs.Board.{Whole, whole, board_turn, says, Answers, StepTook}
use Rattle.hold.specs.declared.Heard.{Heard}
use Rattle.hold.specs.Hold.{Hold, hold, before, up_to, held_of, Hears}
use Rattle.feed.specs.Feed.{desk, fed}
use Rattle.feed.proofs.Bytes.{fed_line, fed_part}

module _ (s : Step) {k : Heard} (t bytes : List ℕ) (h : Hold) (cs os queue map table page : List ℕ)
    (n : Hears k t h bytes) where
  pub took_line : (w : Whole) → k.ends ≡ true → StepTook s cs os queue map table page (board_turn k.line w)
      → Took (Answers s page) (desk (whole s.board cs os queue map table page) (hold bytes k.len))
      (fed (take (up_to t) t) (desk w h))
  unfolding pick
  took_line w g u =
      let b = rw n.says at u in
      let g' = ltb-true (before t) (length t) (sym n.ends ∙ g) in
      let z : hold bytes k.len ≡ hold (held_of t h).bytes 0 = rw g at n.holds in
      rw (fed_line t w h g') (record {
        says = b.says;
        leaves = ap (λ (x : Whole). desk x (hold bytes k.len)) b.leaves ∙ ap (desk _) z;
      })

  pub took_part : (b : Board) {text : List ℕ} → k.ends ≡ false → s ≡ says b text → text ≡ []
      → Took (Answers s page) (desk (whole s.board cs os queue map table page) (hold bytes k.len))
      (fed (take (up_to t) t) (desk (whole b cs os queue map table page) h))
  unfolding pick
  took_part b g is u =
      let g' = ltb-false (before t) (length t) (sym n.ends ∙ g) in
      let m : hold bytes k.len ≡ held_of t h = rw g at n.holds in
      rw (fed_part t _ h g', is) (record {
        says = u;
        leaves = ap (desk (whole b cs os queue map table page)) m;
      })
