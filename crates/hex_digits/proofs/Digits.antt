-- Hex digits, by the range that they lie in. Assumes nothing.
use Prim.Native.Nat.{ℕ, ◌+◌, ◌-◌, ◌≤◌, ◌<◌}
use mathlib.Core.Path.{◌≡◌}
use lib.Dec.{ltb, leb}
use native.Mathlib.Omega.{arith}
use borrow.Author.Tests.{le-leb, lt-leb, ltb-true, ltb-false, leb-true}
use Rattle.vocabulary.specs.Choice.{pick}
use Rattle.vocabulary.proofs.Choice.{cases}
use Rattle.hex_digits.specs.Hex.{hex_digit, hex_value}

module _ (b : ℕ) where
  pub value_before : b ≤ 47 → 0 ≡ hex_value b
  unfolding hex_value pick
  value_before h = rw (le-leb b 47 h)

  pub value_low : 47 < b → b ≤ 57 → b - 48 ≡ hex_value b
  unfolding hex_value pick
  value_low g h = rw (lt-leb b 47 g, le-leb b 57 h)

  pub value_between : 57 < b → b ≤ 96 → 0 ≡ hex_value b
  unfolding hex_value pick
  value_between g h = rw (lt-leb b 47 (omega arith), lt-leb b 57 g, le-leb b 96 h)

  module _ (g : 96 < b) where
    pub value_high : b ≤ 102 → b - 97 + 10 ≡ hex_value b
    unfolding hex_value pick
    value_high h =
        rw (lt-leb b 47 (omega arith), lt-leb b 57 (omega arith), lt-leb b 96 g, le-leb b 102 h) (omega arith)

    pub value_behind : 102 < b → 0 ≡ hex_value b
    unfolding hex_value pick
    value_behind h = rw (lt-leb b 47 (omega arith), lt-leb b 57 (omega arith), lt-leb b 96 g, lt-leb b 102 h)

  -- a digit's number is below 16
  pub value_below : hex_value b < 16
  unfolding hex_value pick
  value_below =
      cases (leb b 47) (λ p. rw p (omega arith))
      (λ p.
      cases (leb b 57) (λ q. let l = leb-true b 57 q in rw (p, q) (omega arith))
      (λ q.
      cases (leb b 96) (λ r. rw (p, q, r) (omega arith))
      (λ r.
      cases (leb b 102) (λ s. let l = leb-true b 102 s in rw (p, q, r, s) (omega arith))
      (λ s. rw (p, q, r, s) (omega arith)))))

-- a digit stands for its number
pub value_digit : (d : ℕ) → d < 16 → hex_value (hex_digit d) ≡ d
unfolding hex_digit pick
value_digit d h =
    cases (ltb d 10)
    (λ e. let l = ltb-true d 10 e in rw e (omega (arith, value_low (48 + d) (omega arith) (omega arith))))
    (λ e. let l = ltb-false d 10 e in rw e (omega (arith, value_high (87 + d) (omega arith) (omega arith))))

-- the ranges, each with its number
pub ruleset values = (value_before, value_low, value_between, value_high, value_behind)
