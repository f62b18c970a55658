-- Each width's rule, and one rule for all of them. Assumes nothing.
use Prim.Native.Nat.{ℕ, ◌+◌, ◌*◌, ◌/◌, ◌-◌, ◌^◌, ◌≤◌, ◌<◌}
use mathlib.Core.Path.{◌≡◌, refl, sym, ap, ◌∙◌}
use native.Mathlib.Nat.{mul_comm, mul_assoc, mul-add}
use native.Mathlib.Omega.{arith}
use lib.Pow.{pow-add}
use Rattle.expand.specs.Expand.{filled, ten}
use Rattle.expand.proofs.Filled.{filled_part, filled_first}
use Rattle.expand.proofs.Width.{filled_whole, filled_more, ten_parts}

module _ (v : ℕ) where
  -- the component, and so many of its bits as are missing
  ten_twice : (w : ℕ) → 5 ≤ w → w ≤ 10 → v < 2 ^ w → ten w v ≡ 2 ^ (10 - w) * v + v / 2 ^ (2 * w - 10)
  ten_twice w low high h = rw (ten_parts w v h high, filled_first w v h (2 * w - 10) (10 - w) (omega arith)) refl

  pub ten_four : v < 16 → ten 4 v ≡ 64 * v + 4 * v + v / 4
  ten_four h = rw (ten_parts 4 v h (omega arith), filled_more 4 v h 2, filled_first 4 v h 2 2 refl) (omega arith)

  pub ten_five : v < 32 → ten 5 v ≡ 33 * v
  ten_five h = ten_twice 5 (omega arith) (omega arith) h ∙ omega arith

  pub ten_six : v < 64 → ten 6 v ≡ 16 * v + v / 4
  ten_six h = ten_twice 6 (omega arith) (omega arith) h

  pub ten_seven : v < 128 → ten 7 v ≡ 8 * v + v / 16
  ten_seven h = ten_twice 7 (omega arith) (omega arith) h

  pub ten_eight : v < 256 → ten 8 v ≡ 4 * v + v / 64
  ten_eight h = ten_twice 8 (omega arith) (omega arith) h

  -- at every width of 4 or more: the component three times, of which the first ten bits
  pub ten_thrice : (w : ℕ) → 4 ≤ w → v < 2 ^ w → ten w v ≡ ((v * 2 ^ w + v) * 2 ^ w + v) / 2 ^ (3 * w - 10)
  unfolding ten
  ten_thrice w low h =
      let p = 2 ^ w in
      let shared : (v * p + v) * p ≡ p * p * v + p * v =
      rw (mul_comm (v * p + v) p, mul-add p (v * p) v, mul_comm v p, mul_assoc p p v) refl in
      let row : filled w v (w + (w + w)) ≡ (v * p + v) * p + v =
      rw (filled_more w v h (w + w), filled_more w v h w, filled_whole w v h, pow-add 2 w w, shared) (omega arith) in
      let places : w + (w + w) ≡ 10 + (3 * w - 10) = omega arith in
      sym (rw (sym row) (ap (λ (n : ℕ). filled w v n / 2 ^ (3 * w - 10)) places ∙ filled_part w v 10 (3 * w - 10)))
