-- For every k, the bits so far are below 2 ^ k exactly when each place passed is.
use Rattle.std.proofs.Common.{ℕ, ◌^◌, ◌≡◌, ltb, take}
use Rattle.ms622424_gather.proofs.Below.{all_below}
use Rattle.ms622424_gather.proofs.gathered.Given as goal

abbrev pub invariant-loop-place : goal.invariant-loop-place
invariant-loop-place l = (k : ℕ) → ltb l.bits (2 ^ k) ≡ all_below k (take l.place-index l.places)
