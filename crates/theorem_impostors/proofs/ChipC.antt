-- Chip C: for each kind of call, those that catch its impostors, on a chip of zeros and on one with an index that is
-- not. Assumes nothing.
use Prim.Native.Nat.{ℕ, ◌<◌}
use mathlib.Core.Path.{refl}
use native.Mathlib.Omega.{arith}
use lib.ListN.{replicate, length-replicate}
use Rattle.rgb640.specs.Rgb640.{Chip, called}
use Rattle.theorem_scope_c.specs.Scope.{Good, Accesses}
use Rattle.theorem_scope_c.proofs.Scope.{scope}
use Rattle.theorem_impostors.specs.Impostors.{once, ImpostorsC}
use Rattle.theorem_impostors.proofs.Law.{changed, stirs, stirs_or_refuses, all_four, tells_or_refuses}

-- zeros, but for the index
chip : ℕ → Chip
chip index = record {
  state = record {
    index = index;
    red = 0;
    green = 0;
    fetched = record { red = 0; green = 0; blue = 0 };
    place = 0;
    update = 0;
  };
  table = replicate 3072 0;
}

good : (index : ℕ) → index < 65536 → Good (chip index)
unfolding chip
good index h = search (length-replicate, arith)

zeros : Accesses called (chip 0)
zeros = scope.accesses (chip 0) (good 0 (omega arith))

one : Accesses called (chip 1)
one = scope.accesses (chip 1) (good 1 (omega arith))

-- at the palette's read space
reading : Accesses called (chip 0x8000)
reading = scope.accesses (chip 0x8000) (good 0x8000 (omega arith))

pub impostors_c : ImpostorsC
unfolding chip
impostors_c =
    let byte : 1 < 256 = omega arith in
    record {
      writes =
          stirs_or_refuses called _ (4, 1) _ (zeros.index.low_write 1 byte)
          (changed (λ c. c.state.index) (λ e. omega arith)) (7, 1) _
          (zeros.no_port_lem 7 1 (λ h. omega (arith, h.1)) byte).0;
      reads =
          all_four called _ 6 _ ((reading.read 0 (omega arith) refl).red_read refl)
          (changed (λ c. c.state.place) (λ e. omega arith)) 7 _
          (zeros.no_port_lem 7 1 (λ h. omega (arith, h.1)) byte).1 4 4 _ _ zeros.index.low_read
          one.index.low_read
          (λ v n. omega arith);
      resets =
          stirs called _ once (chip 1) (scope.reset (chip 1)) (changed (λ c. c.state.index) (λ e. omega arith));
      looks =
          tells_or_refuses called _ 8 _ (zeros.look_nowhere 8 (omega arith) (λ h. omega (arith, h.0))) 0 0 _ _
          (zeros.look_state 0 (omega arith)) (one.look_state 0 (omega arith)) (λ v n. omega arith);
    }
