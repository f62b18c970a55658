-- Looks: what each place of a chip in range tells, and which places there are not. Assumes nothing.
use Prim.Native.Nat.{ℕ, ◌+◌, ◌<◌, ◌≤◌}
use mathlib.Core.Path.{◌≡◌, refl}
use mathlib.Core.List.{List, []}
use native.Mathlib.Omega.{arith}
use lib.ListN.{get_or, take, drop}
use Rattle.vocabulary.specs.Choice.{pick}
use Rattle.vocabulary.specs.Every.{every}
use Rattle.vocabulary.specs.Face.{called_by}
use Rattle.vocabulary.specs.Look.{Block, ◌holds◌, there, found}
use Rattle.vocabulary.specs.Outcome.{accepting, refusing}
use Rattle.vocabulary.specs.Range.{meets}
use Rattle.vocabulary.proofs.Look.{ends, found_here, found_nowhere, look_tells, look_misses}
use Rattle.hd153108.specs.Hd153108.{Chip, look_places, InRange, looks, called}
use Rattle.hd153108.proofs.InRange.{not_short, not_outside}

module _ (c : Chip) (g : InRange c) where
  -- a look at a place answers a number, and leaves the chip
  abbrev pub Tells : ℕ → ℕ → Type 0
  Tells place n = called (looks place) c ≡ accepting n 0 c

  pub look_found : (place n : ℕ) → found (look_places c) place ≡ there n → Tells place n
  unfolding called_by
  look_found place n e = look_tells c (not_short c g) (not_outside c g) n e

  -- the state: registers, pointer, latches and blink position
  pub look_state : let s = c.state in
      Tells 0x0 s.address × Tells 0x1 s.pointer × Tells 0x2 s.red × Tells 0x3 s.green
      × Tells 0x4 s.readmask × Tells 0x5 s.blinkmask × Tells 0x6 s.control × Tells 0x7 s.clock.timing
      × Tells 0x8 s.clock.position
  unfolding found pick meets
  look_state = search look_found

  abbrev rows : List Block
  rows = look_places c

  -- the tables, byte by byte as they stand
  module _ (place i : ℕ) where
    pub look_overlay : place ≡ 0x100 + i → i < 12 → Tells place (get_or c.overlays i 0)
    unfolding ends every
    look_overlay e h =
        look_found place _
        (found_here (take 9 rows) [] 9 place refl (omega arith) tt (0x100 holds c.overlays) (drop 10 rows) i e
        (omega (arith, g.overlays)))

    pub look_colour : place ≡ 0x1000 + i → i < 768 → Tells place (get_or c.colours i 0)
    unfolding ends every
    look_colour e h =
        look_found place _
        (found_here (take 9 rows) (take 1 (drop 9 rows)) 9 place refl (omega arith)
        (λ l u. omega (arith, g.overlays), tt) (0x1000 holds c.colours) [] i e (omega (arith, g.colours)))

  -- no other place is there
  pub look_nowhere : (place : ℕ) → 9 ≤ place → (0x100 ≤ place → place < 0x10C → ⊥)
      → (0x1000 ≤ place → place < 0x1300 → ⊥) → called (looks place) c ≡ refusing 3 0 c
  unfolding called_by ends every
  look_nowhere place h o k =
      look_misses c (not_short c g) (not_outside c g)
      (found_nowhere (take 9 rows) (drop 9 rows) 9 place refl h
      (λ l u. o l (omega (arith, g.overlays)), (λ l u. k l (omega (arith, g.colours)), tt)))
