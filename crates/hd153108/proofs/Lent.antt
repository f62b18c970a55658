-- The two calls that the code is lent a part for are the chip's: a tick of its clock, put back; a pixel's bytes, told
-- as a colour. Assumes nothing.
use Prim.Native.Nat.{ℕ, zero, suc}
use mathlib.Core.Path.{◌≡◌, refl}
use mathlib.Core.List.{List, []}
use Rattle.vocabulary.specs.Refusal.{refusal_of}
use Rattle.vocabulary.specs.Outcome.{accepting, answered_at, answered}
use Rattle.vocabulary.specs.Face.{called_by}
use Rattle.hd153108.specs.declared.Clock.{Clock}
use Rattle.hd153108.specs.Hd153108.{Chip, with_clock, ticked, tick_refusals, tick, shown, colour_of, pixel_refusals}
use Rattle.hd153108.specs.Hd153108.{pixel_part, put_back, told, ticks, pixels, called}

clock_either : (n : ℕ) (k : Clock) (c : Chip)
    → answered n c (accepting 0 0 (with_clock k c)) ≡ put_back (answered n c.state.clock (accepting 0 0 k)) c
unfolding answered_at
clock_either zero k c = refl
clock_either (suc n) k c = refl

pub tick_lent : (c : Chip) → called ticks c ≡ put_back (tick c.state.clock) c
unfolding called_by tick
tick_lent c = clock_either (refusal_of (tick_refusals c.state.clock)) (ticked c.state.clock) c

bytes_either : (n : ℕ) (bytes : List ℕ) (c : Chip)
    → answered n c (accepting (colour_of bytes) 0 c) ≡ told (answered n [] (accepting 0 0 bytes)) c
unfolding answered_at
bytes_either zero bytes c = refl
bytes_either (suc n) bytes c = refl

pub pixel_lent : (enable number byte : ℕ) (c : Chip)
    → called (pixels enable number byte) c ≡ told (pixel_part enable number byte c) c
unfolding called_by pixel_part
pixel_lent enable number byte c =
    bytes_either (refusal_of (pixel_refusals enable number c)) (shown enable number byte c) c
