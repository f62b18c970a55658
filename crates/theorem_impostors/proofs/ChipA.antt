-- Chip A: for each kind of call, those that catch its impostors, on a chip of zeros and on one with a number that is
-- not. Assumes nothing.
use Prim.Native.Nat.{ℕ, ◌<◌}
use mathlib.Core.Path.{◌≡◌, refl}
use mathlib.Core.List.{[]}
use native.Mathlib.Omega.{arith}
use lib.ListN.{replicate}
use Rattle.vocabulary.specs.Choice.{pick}
use Rattle.hd153108.specs.Hd153108.{Chip, called}
use Rattle.theorem_scope_a.specs.Scope.{Good, of_lines, shown, Accesses}
use Rattle.theorem_scope_a.proofs.Scope.{scope}
use Rattle.theorem_impostors.specs.Impostors.{once, ImpostorsA}
use Rattle.theorem_impostors.proofs.Law.{changed, stirs, stirs_or_refuses, all_four, tells_or_refuses}

-- zeros, with such a read mask and such bytes in its tables
chip : ℕ → ℕ → Chip
chip mask byte = record {
  state = record {
    address = 0;
    pointer = 0;
    red = 0;
    green = 0;
    readmask = mask;
    blinkmask = 0;
    control = 0;
    clock = record { timing = 0; position = 0 };
  };
  colours = replicate 768 byte;
  overlays = replicate 12 byte;
}

good : (mask byte : ℕ) → mask < 256 → Good (chip mask byte)
unfolding chip
good mask byte h = search arith

zeros : Accesses called (chip 0 0)
zeros = scope.accesses (chip 0 0) (good 0 0 (omega arith))

masked : Accesses called (chip 1 0)
masked = scope.accesses (chip 1 0) (good 1 0 (omega arith))

ones : Accesses called (chip 0 1)
ones = scope.accesses (chip 0 1) (good 0 1 (omega arith))

-- what their entry 0 shows
shown_apart : shown 0 0 0 (chip 0 0) ≡ shown 0 0 0 (chip 0 1) → ⊥
unfolding chip of_lines pick
shown_apart e = omega (arith, e)

-- a blink position at its period
late : Chip
late = record {
  state = record {
    address = 0;
    pointer = 0;
    red = 0;
    green = 0;
    readmask = 0;
    blinkmask = 0;
    control = 0;
    clock = record { timing = 0; position = 8 };
  };
  colours = [];
  overlays = [];
}

pub impostors_a : ImpostorsA
unfolding chip late
impostors_a =
    let byte : 1 < 256 = omega arith in
    record {
      writes =
          stirs_or_refuses called _ (4, 1) _ (zeros.readmask.write 1 byte)
          (changed (λ c. c.state.readmask) (λ e. omega arith)) (2, 1) _ (zeros.reserved 1 byte).0;
      reads =
          all_four called _ 1 _ (zeros.colours.red_read refl) (changed (λ c. c.state.pointer) (λ e. omega arith))
          2 _ (zeros.reserved 1 byte).1 4 4 _ _ zeros.readmask.read masked.readmask.read
          (λ v n. omega arith);
      resets =
          stirs called _ once (chip 1 0) (scope.reset (chip 1 0))
          (changed (λ c. c.state.readmask) (λ e. omega arith));
      ticks =
          stirs_or_refuses called _ once _ (scope.tick (chip 0 0) (search arith))
          (changed (λ c. c.state.clock.position) (λ e. omega arith)) once _
          (scope.no_tick late (λ h. omega (arith, h.position)));
      pixels =
          tells_or_refuses called _ (2, 0, 0) _ (zeros.no_pixel 2 0 0 (λ h. omega arith)) (0, 0, 0) (0, 0, 0) _ _
          (zeros.pixel 0 0 0 (omega arith) (omega arith)) (ones.pixel 0 0 0 (omega arith) (omega arith))
          (λ v n. shown_apart v);
      looks =
          tells_or_refuses called _ 9 _ (zeros.look_nowhere 9 (omega arith) (λ h. omega arith) (λ h. omega arith))
          4 4 _ _ (zeros.look_state 4 (omega arith)) (masked.look_state 4 (omega arith)) (λ v n. omega arith);
    }
