-- What a step answers: a text alone, or the page that the sheet writer filled. Assumes nothing.
use Prim.Native.Nat.{ℕ}
use mathlib.Core.Path.{◌≡◌, refl, sym, ap, ◌∙◌}
use mathlib.Core.List.{List}
use native.Mathlib.Omega.{arith}
use lib.ListN.{length, length-append}
use lib.Seq.{take-append_seam}
use Rattle.vocabulary.specs.Outcome.{Outcome, accepting}
use Rattle.vocabulary.proofs.Outcome.{accepted_does, accepted_none}
use Rattle.hd153108.specs.Hd153108.{Chip}
use Rattle.sheet.specs.Sheet.{text_of, pasted, write}
use Rattle.port_log.specs.declared.Chip as L
use Rattle.port_log.specs.declared.Call.{Call}
use Rattle.answers.specs.Answers.{told}
use Rattle.turns.specs.Turns.{Turn, turn, Took}
use Rattle.board.specs.declared.Answer.TheVariants.{Page}
use Rattle.board.specs.Board.{Whole, turned, chip_turn, sheet_turn, Answered}

-- a line that is answered by a text and leaves what it names; a chip's turn as the board's
module _ {text : List ℕ} where
  pub took_text : {line : List ℕ} (w : Whole) → text ≡ line → Took (λ l. text ≡ l) w (turn line w)
  took_text w s = record { says = s; leaves = refl }

  pub took_turned : {C : Type 0} {left : C} {t : Turn C} (with : C → Whole) → turn text left ≡ t
      → Took (λ l. text ≡ l) (with left) (turned with t)
  took_turned {C = C} with e = record {
    says = ap (λ (t : Turn C). t.text) e;
    leaves = ap (λ (t : Turn C). with t.left) e;
  }

-- an accepted sheet stands on the page
pub says_page : (a : Chip) (page : List ℕ) (n : ℕ) (out : List ℕ) → accepting 0 n out ≡ write a page
    → Answered (Page n) out (told 0 (text_of a))
unfolding write told pasted
says_page a page n out e =
    let r = ap (λ (o : Outcome (List ℕ)). o.refusal) e in
    let d = e ∙ accepted_does 0 page _ (accepted_none _ 0 page _ (sym r)) in
    let count : n ≡ length (text_of a) = ap (λ (o : Outcome (List ℕ)). o.count) d in
    let left = ap (λ (o : Outcome (List ℕ)). o.left) d in
    (rw (count, left, length-append) (omega arith), rw (count, left) (take-append_seam (text_of a) _))

-- a turn taken at the chip that was found chosen
module _ {Said : List ℕ → Type 0} {left : Whole} (w : Whole) {k j : L.Chip} (e : k ≡ j) where
  pub call_at : (call : Call) → Took Said left (chip_turn j call w) → Took Said left (chip_turn k call w)
  call_at call t = rw e t

  pub sheet_at : Took Said left (sheet_turn j w) → Took Said left (sheet_turn k w)
  sheet_at t = rw e t
