-- What is told of a place past the state's, as the code tells it. Assumes nothing.
use Prim.Native.Nat.{ℕ, ◌-◌, ◌<◌, ◌≤◌}
use mathlib.Core.Path.{◌≡◌, sym}
use mathlib.Core.List.{List}
use native.Mathlib.Omega.{arith}
use lib.ListN.{get_or}
use Rattle.vocabulary.specs.Look.{looking, seen, unseen}
use Rattle.hd153108.specs.declared.State.{State}
use Rattle.hd153108.specs.Hd153108.{chip, InRange, looks, called}
use Rattle.hd153108.proofs.Look.{look_overlay, look_colour, look_nowhere}

module _ (s : State) (cs os : List ℕ) (place : ℕ) (g : InRange (chip s cs os)) where
  -- a byte of either table
  pub overlay_told : 0x100 ≤ place → place < 0x10C
      → looking (seen (get_or os (place - 0x100) 0)) (chip s cs os) ≡ called (looks place) (chip s cs os)
  overlay_told l u = sym (look_overlay _ g place (place - 0x100) (omega arith) (omega arith))

  pub colour_told : 0x1000 ≤ place → place < 0x1300
      → looking (seen (get_or cs (place - 0x1000) 0)) (chip s cs os) ≡ called (looks place) (chip s cs os)
  colour_told l u = sym (look_colour _ g place (place - 0x1000) (omega arith) (omega arith))

  -- no place: before the tables, between them, past them
  pub before_told : 9 ≤ place → place < 0x100
      → looking (unseen 3) (chip s cs os) ≡ called (looks place) (chip s cs os)
  before_told l u = sym (look_nowhere _ g _ l (λ a b. omega arith) (λ a b. omega arith))

  pub between_told : 0x10C ≤ place → place < 0x1000
      → looking (unseen 3) (chip s cs os) ≡ called (looks place) (chip s cs os)
  between_told l u = sym (look_nowhere _ g _ (omega arith) (λ a b. omega arith) (λ a b. omega arith))

  pub past_told : 0x1300 ≤ place → looking (unseen 3) (chip s cs os) ≡ called (looks place) (chip s cs os)
  past_told l = sym (look_nowhere _ g _ (omega arith) (λ a b. omega arith) (λ a b. omega arith))

pub ruleset places = (overlay_told, colour_told, before_told, between_told, past_told)
