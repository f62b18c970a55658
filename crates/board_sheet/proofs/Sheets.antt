-- The sheet writer's answer as the board's turn, and a bad line. Assumes nothing.
use Rattle.std.specs.Prelude.{Ok, Err}
use Prim.Native.Nat.{ℕ}
use mathlib.Core.Path.{◌≡◌, refl, sym}
use mathlib.Core.List.{List}
use Rattle.vocabulary.specs.declared.Refusal.{Refusal}
use Rattle.vocabulary.specs.declared.Refusal.TheVariants.{LentLength, OverFifteen, NoAccess, NoIndex, ReadMode}
use Rattle.vocabulary.specs.declared.Refusal.TheVariants.{StillWaiting, ShortBuffer, Malformed, OutOfRange}
use Rattle.vocabulary.specs.Refusal.{number}
use Rattle.hd153108.specs.Hd153108 as A
use Rattle.sheet.specs.Sheet as S
use Rattle.port_log.specs.declared.Chip as L
use Rattle.port_log.specs.declared.Chip.TheVariants.{ChipA, ChipB, ChipC}
use Rattle.answers.specs.Answers.{bad_text, refused_text, told}
use Rattle.board.specs.declared.Board.{Board}
use Rattle.board.specs.declared.Answer.{Answer}
use Rattle.board.specs.declared.Step.{Step}
use Rattle.board.specs.Board.{whole, sheet_turn, says, StepTook}
use Rattle.board.proofs.Steps.{took_text, says_page, sheet_at}
use Rattle.board_sheet.specs.Listed.{listed}

told_refusal : (r : Refusal) (text : List ℕ) → refused_text (number r) ≡ told (number r) text
unfolding told
told_refusal LentLength text = refl
told_refusal OverFifteen text = refl
told_refusal NoAccess text = refl
told_refusal NoIndex text = refl
told_refusal ReadMode text = refl
told_refusal StillWaiting text = refl
told_refusal ShortBuffer text = refl
told_refusal Malformed text = refl
told_refusal OutOfRange text = refl

module _ (s : Board) (cs os queue map table page after : List ℕ) where
  took_sheet : (a : S.Answer) {t : Answer} → S.outcome a after ≡ S.write (A.chip s.a cs os) page → t ≡ listed a
      → StepTook (record { board = s; answer = t }) cs os queue map table after
      (sheet_turn ChipA (whole s cs os queue map table page))
  took_sheet (Ok n) e is =
      rw (is, sym e) (record { says = says_page (A.chip s.a cs os) page n after e; leaves = refl })
  took_sheet (Err t) e is = rw (is, sym e) (record { says = told_refusal t.refusal _; leaves = refl })

  -- the sheet of the chip chosen
  pub sheet_a : (a : S.Answer) {t : Answer} {k : L.Chip} → k ≡ ChipA
      → S.outcome a after ≡ S.write (A.chip s.a cs os) page → t ≡ listed a
      → StepTook (record { board = s; answer = t }) cs os queue map table after
      (sheet_turn k (whole s cs os queue map table page))
  sheet_a a m e is = sheet_at (whole s cs os queue map table page) m (took_sheet a e is)

-- bad on the chips that have none
module _ {s : Board} {r : Step} {text : List ℕ} {k : L.Chip} (cs os queue map table page : List ℕ) where
  pub sheet_b : k ≡ ChipB → text ≡ bad_text → r ≡ says s text
      → StepTook r cs os queue map table page (sheet_turn k (whole s cs os queue map table page))
  sheet_b m h is =
      let w = whole s cs os queue map table page in rw is (sheet_at w m (took_text w h))

  pub sheet_c : k ≡ ChipC → text ≡ bad_text → r ≡ says s text
      → StepTook r cs os queue map table page (sheet_turn k (whole s cs os queue map table page))
  sheet_c m h is =
      let w = whole s cs os queue map table page in rw is (sheet_at w m (took_text w h))

pub ruleset sheets = (sheet_b, sheet_c)
