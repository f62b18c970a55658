-- Looks: what each place of a chip in range tells, and which places there are not. What waits and the read mode are not
-- asked: the map is told as stored. Assumes nothing.
use Prim.Native.Nat.{ℕ, ◌+◌, ◌<◌, ◌≤◌}
use mathlib.Core.Path.{◌≡◌, refl}
use mathlib.Core.List.{[]}
use native.Mathlib.Omega.{arith}
use lib.ListN.{length, get_or, take, drop}
use Rattle.vocabulary.specs.Choice.{pick}
use Rattle.vocabulary.specs.Every.{every}
use Rattle.vocabulary.specs.Face.{called_by}
use Rattle.vocabulary.specs.Look.{◌holds◌, there, found}
use Rattle.vocabulary.specs.Outcome.{accepting, refusing}
use Rattle.vocabulary.specs.Range.{meets}
use Rattle.vocabulary.proofs.Look.{ends, found_here, found_nowhere, look_tells, look_misses}
use Rattle.ms622424.specs.Ms622424.{Chip, look_places, InRange, looks, called}
use Rattle.ms622424.proofs.InRange.{lengths_right, ranges_right}

module _ (c : Chip) (g : InRange c) where
  -- a look at a place answers a number, and leaves the chip
  abbrev pub Tells : ℕ → ℕ → Type 0
  Tells place n = called (looks place) c ≡ accepting n 0 c

  pub look_found : (place n : ℕ) → found (look_places c) place ≡ there n → Tells place n
  unfolding called_by
  look_found place n e = look_tells c (lengths_right c g) (ranges_right c g) n e

  -- the registers, how many wait, and the queue's first position
  pub look_state :
      Tells 0x0 c.port.address × Tells 0x1 c.port.counter × Tells 0x2 c.port.red
      × Tells 0x3 c.port.green × Tells 0x4 c.control.command × Tells 0x5 c.control.readmode
      × Tells 0x6 c.ident.revision × Tells 0x7 c.ident.board × Tells 0x8 (length c.waiting)
      × Tells 0xC c.lent.first
  unfolding found pick meets
  look_state = search look_found

  -- the map, byte by byte as stored
  pub look_map : (place i : ℕ) → place ≡ 0x10000 + i → i < 24576 → Tells place (get_or c.map i 0)
  unfolding ends every
  look_map place i e h =
      look_found place _
      (found_here (take 10 (look_places c)) [] 13 place refl (omega arith) tt (0x10000 holds c.map) [] i e
      (omega (arith, g.size)))

  -- no other place is there
  pub look_nowhere : (place : ℕ) → 9 ≤ place → (place ≡ 0xC → ⊥) → (0x10000 ≤ place → place < 0x16000 → ⊥)
      → called (looks place) c ≡ refusing 3 0 c
  unfolding called_by ends every
  look_nowhere place h f o =
      look_misses c (lengths_right c g) (ranges_right c g)
      (found_nowhere (take 9 (look_places c)) (drop 9 (look_places c)) 9 place refl h
      (λ l u. f (omega arith), (λ l u. o l (omega (arith, g.size)), tt)))
