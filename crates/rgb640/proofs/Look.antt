-- Looks: what each place of a chip in range tells, and which places there are not. Assumes nothing.
use Prim.Native.Nat.{ℕ, ◌+◌, ◌<◌, ◌≤◌}
use mathlib.Core.Path.{◌≡◌, refl}
use mathlib.Core.List.{[]}
use native.Mathlib.Omega.{arith}
use lib.ListN.{get_or, take, drop}
use Rattle.vocabulary.specs.Choice.{pick}
use Rattle.vocabulary.specs.Every.{every}
use Rattle.vocabulary.specs.Face.{called_by}
use Rattle.vocabulary.specs.Look.{◌holds◌, there, found}
use Rattle.vocabulary.specs.Outcome.{accepting, refusing}
use Rattle.vocabulary.specs.Range.{meets}
use Rattle.vocabulary.proofs.Look.{ends, found_here, found_nowhere, look_tells, look_misses}
use Rattle.vocabulary.proofs.Range.{holds_passes}
use Rattle.rgb640.specs.Rgb640.{Chip, look_places, InRange, looks, called}
use Rattle.rgb640.proofs.InRange.{range_holds}

module _ (c : Chip) (g : InRange c) where
  -- a look at a place answers a number, and leaves the chip
  abbrev pub Tells : ℕ → ℕ → Type 0
  Tells place n = called (looks place) c ≡ accepting n 0 c

  pub look_found : (place n : ℕ) → found (look_places c) place ≡ there n → Tells place n
  unfolding called_by
  look_found place n e =
      let (lengths, ranges) = range_holds c g in
      look_tells c (holds_passes _ lengths) (holds_passes _ ranges) n e

  -- the state, with the fetched entry as it was fetched
  pub look_state : let s = c.state in
      Tells 0x0 s.index × Tells 0x1 s.place × Tells 0x2 s.red × Tells 0x3 s.green
      × Tells 0x4 s.fetched.red × Tells 0x5 s.fetched.green × Tells 0x6 s.fetched.blue
      × Tells 0x7 s.update
  unfolding found pick meets
  look_state = search look_found

  -- the table, number by number as lent
  pub look_table : (place i : ℕ) → place ≡ 0x10000 + i → i < 3072 → Tells place (get_or c.table i 0)
  unfolding ends every
  look_table place i e h =
      look_found place _
      (found_here (take 8 (look_places c)) [] 8 place refl (omega arith) tt (0x10000 holds c.table) [] i e
      (omega (arith, g.table_whole)))

  -- no other place is there
  pub look_nowhere : (place : ℕ) → 8 ≤ place → (0x10000 ≤ place → place < 0x10C00 → ⊥)
      → called (looks place) c ≡ refusing 3 0 c
  unfolding called_by ends every
  look_nowhere place h o =
      let (lengths, ranges) = range_holds c g in
      look_misses c (holds_passes _ lengths) (holds_passes _ ranges)
      (found_nowhere (take 8 (look_places c)) (drop 8 (look_places c)) 8 place refl h
      (λ l u. o l (omega (arith, g.table_whole)), tt))
