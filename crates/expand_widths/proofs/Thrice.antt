-- The component three times in a number of 64 bits, and its first ten bits. Assumes nothing.
use Prim.Native.Nat.{ℕ, ◌+◌, ◌*◌, ◌/◌, ◌-◌, ◌^◌, ◌%◌, ◌≤◌, ◌<◌}
use mathlib.Core.Path.{◌≡◌, refl, sym, ap, ◌∙◌}
use native.Mathlib.Nat.{mul-le-mul, mul-le-mul_right, mod-eq_of_lt, pow-le-pow_right, le-div_iff_mul-le}
use native.Mathlib.Omega.{arith}
use lib.Pow.{pow-add, pow_pos}
use Rattle.vocabulary.proofs.Cases.{under}
use Rattle.std.specs.Prelude.{Ok, Err}
use Rattle.vocabulary.specs.declared.Refusal.TheVariants.{OutOfRange}
use Rattle.expand.specs.Expand.{ten, expansion, meaning}
use Rattle.expand.proofs.Width.{width_refused, value_refused, expansion_ten, ten_below}
use Rattle.expand.proofs.Rules.{ten_thrice}

-- at 8 bits the table's number
module _ (w v : ℕ) (low : 8 ≤ w) (high : w < 9) where
  eight : w ≡ 8
  eight = omega arith

  pub eight_refused : 256 ≤ v → meaning (Err OutOfRange) ≡ expansion w v
  eight_refused h = value_refused w v (rw eight h)

  pub eight_listed : {t : ℕ} → v < 256 → t ≡ ten 8 v → meaning (Ok t) ≡ expansion w v
  eight_listed h f = expansion_ten w v (rw eight f) (omega arith) high (rw eight h)

-- as the processor shifts: what goes over 64 bits is lost
abbrev pub shifted : ℕ → ℕ → ℕ
shifted x w = x * 2 ^ w % 18446744073709551616

module _ (w : ℕ) (high : w < 8) where
  byte : 2 ^ w ≤ 256
  byte = pow-le-pow_right {n = 2} (omega arith) {i = w} {j = 8} (omega arith)

  -- nothing is lost of a number of 32 bits, nor of it twice in a row, which is below 2 to the 41
  pub once_row : (x : ℕ) → x < 4294967296 → x < 2199023255552
  once_row x h = omega arith

  whole : (x : ℕ) → x < 2199023255552 → shifted x w ≡ x * 2 ^ w
  whole x h = mod-eq_of_lt (omega (arith, mul-le-mul h byte))

  module _ (x y : ℕ) (k : y < 4294967296) where
    pub twice_row : x < 4294967296 → shifted x w + y < 2199023255552
    twice_row h = rw (whole x (once_row x h)) (omega (arith, mul-le-mul h byte))

    pub row_fits : x < 2199023255552 → shifted x w + y < 18446744073709551616
    row_fits h = rw (whole x h) (omega (arith, mul-le-mul h byte))

  -- three times in a row, and the first ten bits of that, as the code finds them
  module _ (v : ℕ) (k : v < 4294967296) (low : 3 < w) where
    abbrev row : ℕ
    row = shifted (shifted v w + v) w + v

    abbrev first : ℕ
    first = row / 2 ^ (3 * w - 10)

    row_whole : row ≡ (v * 2 ^ w + v) * 2 ^ w + v
    row_whole = rw (whole _ (twice_row v v k k), whole v (once_row v k)) refl

    -- they are the rule's where the width holds the value
    first_ten : v < 2 ^ w → first ≡ ten w v
    first_ten h = rw row_whole (sym (ten_thrice v w low h))

    -- and else it goes over ten bits: 2^w three times in a row is 1,024 times what is dropped
    cube : 2 ^ w * 2 ^ w * 2 ^ w ≡ 1024 * 2 ^ (3 * w - 10)
    cube =
        let places : w + w + w ≡ 10 + (3 * w - 10) = omega arith in
        rw (sym (pow-add 2 w w), sym (pow-add 2 (w + w) w)) (ap (λ (n : ℕ). 2 ^ n) places ∙ pow-add 2 10 (3 * w - 10))

    first_over : 2 ^ w ≤ v → 1024 ≤ first
    first_over h =
        let square : 2 ^ w * 2 ^ w ≤ v * 2 ^ w + v = omega (arith, mul-le-mul_right (2 ^ w) h) in
        let inside : 1024 * 2 ^ (3 * w - 10) ≤ (v * 2 ^ w + v) * 2 ^ w + v =
        omega (arith, mul-le-mul_right (2 ^ w) square, cube) in
        rw row_whole ((le-div_iff_mul-le (pow_pos (3 * w - 10))).1 inside)

    pub first_refused : 1024 ≤ first → meaning (Err OutOfRange) ≡ expansion w v
    first_refused o = under v (2 ^ w) (λ h. absurd (omega (arith, o, first_ten h, ten_below w v))) (value_refused w v)

    pub first_accepted : first < 1024 → meaning (Ok first) ≡ expansion w v
    first_accepted o =
        under v (2 ^ w) (λ h. expansion_ten w v (first_ten h) low (omega arith) h)
        (λ h. absurd (omega (arith, o, first_over h)))

-- what an expansion ends by, and what its rows need
pub ruleset rows = (
  width_refused,
  eight_refused,
  eight_listed,
  once_row,
  twice_row,
  row_fits,
  first_refused,
  first_accepted,
)
