-- A log by lines: with room for 16 bytes, a line of any length and its LF are answered as the line that it is, since no
-- form has 16 bytes. Assumes nothing.
use Prim.Native.Nat.{ℕ}
use mathlib.Core.Path.{◌≡◌, refl, sym, ap, ◌∙◌}
use mathlib.Core.List.{List, [], ◌∷◌, ◌++◌, append_assoc}
use native.Mathlib.Omega.{arith}
use lib.Dec.{ltb}
use lib.ListN.{length, take, length-take}
use lib.Seq.{take_all}
use borrow.Author.Tests.{ltb-true, ltb-false}
use Rattle.vocabulary.proofs.Choice.{cases}
use Rattle.port_log.specs.Log.{line_of}
use Rattle.port_log.proofs.Patterns.{line_long}
use Rattle.turns.specs.Turns.{turn}
use Rattle.board.specs.Board.{Whole, board_turn}
use Rattle.hold.specs.Hold.{hold, holding_all, Within}
use Rattle.hold.proofs.Holds.{Reading, reads}
use Rattle.feed.specs.Feed.{desk, fed, by_lines, log_of, AllWithin, ByLines}
use Rattle.feed.proofs.Bytes.{fed_more, fed_ended}

-- what is held of a line says what the line says
line_held : (line : List ℕ) → line_of (take 16 line) ≡ line_of line
line_held line =
    cases (ltb (length line) 16)
    (λ e. let h = ltb-true (length line) 16 e in ap line_of (take_all 16 line (omega arith)))
    (λ e.
    let h = ltb-false (length line) 16 e in
    line_long (take 16 line) (rw (length-take 16 line) (omega arith)) ∙ sym (line_long line h))

-- one line, and what follows it
module _ (l : List ℕ) (w : Whole) (bytes : List ℕ) (m : length bytes ≡ 16) (n : Within l) where
  line_read : Reading l (holding_all l (hold bytes 0))
  line_read = reads l [] (hold bytes 0) (record { room = m; inside = omega arith; first = refl })

  line_then : (ys : List ℕ)
      → let t = board_turn (line_of l) w in
      let more = fed ys (desk t.left (hold (holding_all l (hold bytes 0)).bytes 0)) in
      fed (l ++ 10 ∷ ys) (desk w (hold bytes 0)) ≡ turn (t.text ++ more.text) more.left
  line_then ys =
      ap (λ (xs : List ℕ). fed xs (desk w (hold bytes 0))) (sym (append_assoc l (10 ∷ []) ys))
      ∙ fed_more (l ++ 10 ∷ []) ys (desk w (hold bytes 0))
      ∙ rw (fed_ended l w (hold bytes 0) n, line_read.first, line_held l)

pub by_lines_lem : (ls : List (List ℕ)) (w : Whole) (bytes : List ℕ) → length bytes ≡ 16 → AllWithin ls
    → ByLines ls w (fed (log_of ls) (desk w (hold bytes 0)))
unfolding fed log_of by_lines
by_lines_lem [] w bytes m h = record { text = refl; board = refl; room = m; next = refl }
by_lines_lem (l ∷ ls) w bytes m h =
    let t = board_turn (line_of l) w in
    let more = by_lines_lem ls t.left (holding_all l (hold bytes 0)).bytes (line_read l w bytes m h.0).room h.1 in
    rw (line_then l w bytes m h.0 (log_of ls)) (record {
      text = ap (λ (x : List ℕ). t.text ++ x) more.text;
      board = more.board;
      room = more.room;
      next = more.next;
    })
