-- What is read so far is the number of the first w digits.
use Rattle.std.proofs.Common.{◌≡◌}
use Rattle.hex_digits.specs.Hex.{number}
use Rattle.hex_number.proofs.spelt.Given as goal

abbrev pub invariant-loop-w : goal.invariant-loop-w
invariant-loop-w l = l.v ≡ number l.w l.i l.t
