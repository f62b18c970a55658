-- A chip's turn as the board's, at the chip that was found chosen. Assumes nothing.
use Prim.Native.Nat.{ℕ}
use mathlib.Core.Path.{◌≡◌}
use mathlib.Core.List.{List}
use Rattle.hd153108.specs.Hd153108 as A
use Rattle.ms622424_places.specs.Places.{handed, view}
use Rattle.rgb640.specs.Rgb640 as C
use Rattle.port_log.specs.declared.Chip as L
use Rattle.port_log.specs.declared.Chip.TheVariants.{ChipA, ChipB, ChipC}
use Rattle.port_log.specs.declared.Call.{Call}
use Rattle.turns.specs.declared.Taken.{Taken}
use Rattle.hd153108.specs.declared.State as AS
use Rattle.ms622424_places.specs.declared.State as BS
use Rattle.rgb640.specs.declared.State as CS
use Rattle.turns_a.specs.Turns.{a_turn, ATook}
use Rattle.turns_b.specs.Turns.{b_turn, BTook}
use Rattle.turns_c.specs.Turns.{c_turn, CTook}
use Rattle.board.specs.declared.Board.{Board}
use Rattle.board.specs.declared.Step.{Step}
use Rattle.board.specs.Board.{whole, with_a, with_b, with_c, chip_turn, says, StepTook}
use Rattle.board.proofs.Steps.{took_turned, call_at}

module _ (s : Board) (call : Call) {k : L.Chip} {r : Step} (page : List ℕ) where
  pub turned_a : {t : Taken AS.State} (cs os cs' os' queue map table : List ℕ) → k ≡ ChipA → r ≡ says (record s { a = t.state }) t.text
      → ATook t cs' os' (a_turn call (A.chip s.a cs os))
      → StepTook r cs' os' queue map table page (chip_turn k call (whole s cs os queue map table page))
  turned_a cs os cs' os' queue map table m e t =
      let w = whole s cs os queue map table page in rw e (call_at w m call (took_turned (with_a w) t))

  pub turned_b : {t : Taken BS.State} (queue map queue' map' cs os table : List ℕ) → k ≡ ChipB → r ≡ says (record s { b = t.state }) t.text
      → BTook t queue' map' (b_turn call (view (handed s.b queue map)))
      → StepTook r cs os queue' map' table page (chip_turn k call (whole s cs os queue map table page))
  turned_b queue map queue' map' cs os table m e t =
      let w = whole s cs os queue map table page in rw e (call_at w m call (took_turned (with_b w) t))

  pub turned_c : {t : Taken CS.State} (table table' cs os queue map : List ℕ) → k ≡ ChipC → r ≡ says (record s { c = t.state }) t.text
      → CTook t table' (c_turn call (C.chip s.c table))
      → StepTook r cs os queue map table' page (chip_turn k call (whole s cs os queue map table page))
  turned_c table table' cs os queue map m e t =
      let w = whole s cs os queue map table page in rw e (call_at w m call (took_turned (with_c w) t))

pub ruleset turned = (turned_a, turned_b, turned_c)
