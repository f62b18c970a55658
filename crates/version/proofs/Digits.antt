-- Each of the three numbers is one digit, so that the text has it whole. Assumes nothing.
use Prim.Native.Nat.{◌<◌}
use native.Mathlib.Omega.{arith}
use Rattle.version.specs.Version.{major, minor, patch}

pub one_digit : (major < 10) × (minor < 10) × (patch < 10)
one_digit = omega arith
