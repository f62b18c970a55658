-- Which calls are accepted on a chip in range, and what they do then. Assumes nothing.
use Prim.Native.Nat.{ℕ, ◌^◌, ◌<◌, min}
use mathlib.Core.Path.{◌≡◌, refl, sym, ap, ◌∙◌}
use mathlib.Core.Bool.{not}
use mathlib.Core.List.{[]}
use native.Mathlib.Omega.{arith}
use borrow.Author.Tests.{eq-eqb, ne_eqb}
use lib.ListN.{length, take, drop}
use Rattle.vocabulary.specs.Outcome.{Outcome, accepting}
use Rattle.vocabulary.specs.Run.{Accepted}
use Rattle.vocabulary.proofs.Face.{called_does}
use Rattle.ms622424.specs.Ms622424.{Chip, InRange, all_stored, Moves, palette, initialization}
use Rattle.ms622424.specs.Ms622424.{register_at, writable, readable, written, answers}
use Rattle.ms622424.specs.Ms622424.{writes, reads, blanks, pixels, refusals, does, called}
use Rattle.ms622424.proofs.Moves.{moved_on, moves_least}
use Rattle.ms622424.proofs.Pixel.{pixel_does}
use Rattle.ms622424.proofs.Read.{read_does}
use Rattle.ms622424.proofs.Write.{write_does}

-- an accepted blanking reports the smaller of slots and waiting: so many of the oldest go into the map, in their order
pub blank_moves : (slots : ℕ) (c : Chip) → Accepted called (blanks slots) c
    → let n = min slots (length c.waiting) in
    called (blanks slots) c
    ≡ accepting 0 n (moved_on n (drop n c.waiting) (all_stored (take n c.waiting) c.map) c)
blank_moves slots c a =
    called_does refusals does (blanks slots) c a
    ∙ ap (λ (m : Moves). accepting 0 m.count m.after) (moves_least slots _ c refl)

module _ (c : Chip) (h : InRange c) where
  -- a byte for the palette, outside read mode
  pub palette_accepted : (byte : ℕ) → c.control.readmode ≡ 0 → byte < 256
      → called (writes 2 byte) c ≡ written palette byte c
  unfolding register_at writable
  palette_accepted byte e hb =
      sym (write_does 2 byte c h hb 2 refl refl (ne_eqb c.control.readmode 1 (λ z. omega arith)) refl)

  -- read mode on
  pub initialized : called (writes 7 0) c ≡ written initialization 0 c
  unfolding register_at writable
  initialized = sym (write_does 7 0 c h (omega arith) 7 refl refl refl refl)

  -- a read of the table, in read mode with nothing waiting
  pub table_read : c.control.readmode ≡ 1 → c.waiting ≡ [] → called (reads 2) c ≡ answers palette c
  unfolding register_at readable
  table_read e w =
      let reading = ne_eqb c.control.readmode 0 (λ z. omega arith) in
      let none = ap not (eq-eqb (length c.waiting) 0 (ap length w)) in
      sym (read_does 2 c h 2 refl refl reading none refl)

  -- a pixel
  pub pixel_accepted : (mode word : ℕ) → mode < 4 → word < 2 ^ 24 → Accepted called (pixels mode word) c
  pixel_accepted mode word m w =
      ap (λ (o : Outcome Chip). o.refusal) (sym (pixel_does mode word c h m w refl refl refl))
