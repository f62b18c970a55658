-- Which refusal an access meets, and what it does where it meets none. Assumes nothing.
use Prim.Native.Nat.{ℕ, ◌<◌}
use mathlib.Core.Path.{◌≡◌, refl, sym, ap, ◌∙◌}
use mathlib.Core.Bool.{Bool, true, false, ◌&&◌}
use mathlib.Core.List.{List, [], ◌∷◌, ◌++◌}
use lib.ListN.{length}
use Rattle.vocabulary.specs.Range.{Bound, below, fails}
use Rattle.vocabulary.specs.Refusal.{Row, refusal_of}
use Rattle.vocabulary.specs.declared.Refusal.TheVariants.{LentLength, OutOfRange, NoAccess, NoIndex}
use Rattle.vocabulary.specs.Outcome.{Outcome, accepting, refusing, answered}
use Rattle.vocabulary.specs.Face.{called_by}
use Rattle.vocabulary.proofs.Range.{holds_passes, fails_right}
use Rattle.vocabulary.proofs.Call.{tried_first, stops, goes_on}
use Rattle.rgb640.specs.declared.State.{State}
use Rattle.rgb640.specs.Rgb640.{Chip, chip, lengths, ranges, Register, index_data, register_at, Service, serves}
use Rattle.rgb640.specs.Rgb640.{space_of, served, wrote, written, told, answers, no_port, is_data, is_against}
use Rattle.rgb640.specs.Rgb640.{access_refusals, standing_of, accept_told, outcome, writes, reads, called, InRange}
use Rattle.rgb640.proofs.InRange.{range_holds}

-- ---- In either direction
module _ (given : List Bound) (register : Register) (wrong : Bool) (c : Chip) (done : Outcome Chip) where
  abbrev rows : List Row
  rows = access_refusals given register wrong c

  -- the length or the state
  pub stopped : {n : ℕ} → n ≡ standing_of (length c.table) c.state → (n ≡ 0 → ⊥)
      → refusing n 0 c ≡ answered (refusal_of rows) c done
  stopped e h = tried_first rows 0 c done _ _ _ refl (fails_right given (ranges c)) e h

  module _ (r : InRange c) (g : fails (given ++ ranges c) ≡ false) where
    long : fails (lengths c) ≡ false
    long = holds_passes _ (range_holds c r).0

    -- the port
    pub no_port_lem : no_port register ≡ true → refusing 3 0 c ≡ answered (refusal_of rows) c done
    no_port_lem h = stops rows 0 c done (LentLength ∷ OutOfRange ∷ []) NoAccess 2 _ refl refl (long, (g, tt)) h

    module _ (p : no_port register ≡ false) where
      -- the index
      pub no_index_lem : (is_data register && wrong) ≡ true → refusing 4 0 c ≡ answered (refusal_of rows) c done
      no_index_lem h =
          stops rows 0 c done (LentLength ∷ OutOfRange ∷ NoAccess ∷ []) NoIndex 3 _ refl refl (long, (g, (p, tt))) h

      -- none
      pub accepts : (is_data register && wrong) ≡ false → done ≡ answered (refusal_of rows) c done
      accepts h = goes_on rows 0 c done (long, (g, (p, (h, tt))))

-- ---- An accepted write, of ports 4 and 5 and of port 6
module _ (c : Chip) (r : InRange c) (b : ℕ) (h : b < 256) where
  pub byte_passes : fails (below b 256 ∷ ranges c) ≡ false
  byte_passes = holds_passes (below b 256 ∷ ranges c) (h, (range_holds c r).1)

  pub write_index : (port : ℕ) → no_port (register_at port) ≡ false → is_data (register_at port) ≡ false
      → written (register_at port) b c ≡ called (writes port b) c
  unfolding called_by
  write_index port p q =
      accepts (below b 256 ∷ []) (register_at port) (is_against (space_of c.state.index).on_write) c _ r byte_passes p
      (rw q)

  pub write_data : {f : ℕ → Chip → Chip} → (space_of c.state.index).on_write ≡ serves f
      → accepting 0 0 (f b c) ≡ called (writes 6 b) c
  unfolding called_by register_at wrote served
  write_data e =
      ap (λ (w : Service (ℕ → Chip → Chip)). accepting 0 0 (served w (λ f. f b c) c)) (sym e)
      ∙ accepts (below b 256 ∷ []) index_data _ c _ r byte_passes refl (ap is_against e)

-- ---- An accepted read
module _ (c : Chip) (r : InRange c) where
  pub state_passes : fails (ranges c) ≡ false
  state_passes = holds_passes (ranges c) (range_holds c r).1

  pub read_index : (port : ℕ) → no_port (register_at port) ≡ false → is_data (register_at port) ≡ false
      → answers (register_at port) c ≡ called (reads port) c
  unfolding called_by
  read_index port p q =
      accepts [] (register_at port) (is_against (space_of c.state.index).on_read) c _ r state_passes p (rw q)

  pub read_data : {f : Chip → ℕ × State} → (space_of c.state.index).on_read ≡ serves f
      → accepting (f c).0 0 (chip (f c).1 c.table) ≡ called (reads 6) c
  unfolding called_by register_at told served
  read_data e =
      ap
      (λ (w : Service (Chip → ℕ × State)). outcome (accept_told (served w (λ f. f c) (0, c.state))) c.table)
      (sym e)
      ∙ accepts [] index_data _ c _ r state_passes refl (ap is_against e)
