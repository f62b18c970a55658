-- Laws of the blink clock. Assumes nothing.
use Prim.Native.Nat.{ℕ, ◌+◌, ◌%◌, ◌<◌, ◌≤◌}
use native.Mathlib.Omega.{arith}
use mathlib.Core.Path.{◌≡◌, refl, sym}
use mathlib.Core.Bool.{true, false}
use mathlib.Core.List.{[], ◌∷◌}
use Rattle.vocabulary.specs.declared.Refusal.TheVariants.{LentLength, OutOfRange}
use Rattle.vocabulary.specs.Outcome.{accepting, refusing}
use Rattle.vocabulary.proofs.Range.{holds_passes, not_fails}
use Rattle.vocabulary.proofs.Refusals.{refusal_is, refusal_none}
use Rattle.vocabulary.proofs.Outcome.{refused_as, accepted_does}
use Rattle.hd153108.specs.Hd153108.{clock, on_time, off_time, period, is_off, tick_refusals, tick}

-- timing 0x31, on for 8 ticks and off for 16: the last position that is on, and the first that is off
pub on_and_off : (on_time 0x31 ≡ 8) × (off_time 0x31 ≡ 16)
on_and_off = (refl, refl)

pub off_from_eight : (is_off (clock 0x31 7) ≡ false) × (is_off (clock 0x31 8) ≡ true)
unfolding is_off
off_from_eight = (refl, refl)

-- a tick, of a period p
module _ (timing position p : ℕ) (e : p ≡ period timing) where
  pub tick_refused : p ≤ position → refusing 9 0 (clock timing position) ≡ tick (clock timing position)
  unfolding tick
  tick_refused h =
      sym (refused_as 8 0 _ _
      (refusal_is (tick_refusals (clock timing position)) (LentLength ∷ []) OutOfRange _ refl (refl, tt)
      (not_fails _ (λ g. omega arith))))

  pub tick_accepted : timing < 256 → position < p
      → accepting 0 0 (clock timing ((position + 1) % p)) ≡ tick (clock timing position)
  unfolding tick
  tick_accepted t h =
      sym (rw e (accepted_does 0 _ _
      (refusal_none (tick_refusals (clock timing position)) (holds_passes _ (t, (omega arith, tt)), tt))))
