-- The number that the first n of a component's bits are, over and over. Assumes nothing.
use Prim.Native.Nat.{ℕ, zero, suc, ◌+◌, ◌*◌, ◌/◌, ◌-◌, ◌^◌, ◌%◌, ◌<◌}
use mathlib.Core.Path.{◌≡◌, refl, sym, ap, ◌∙◌}
use native.Mathlib.Nat.{add-zero, add-suc, add-mod_left, mul_assoc, pow-succ', two-pow-succ}
use native.Mathlib.Nat.{mod-lt, mod-eq_of_lt, zero-div, div-one, div-eq_of_lt}
use native.Mathlib.Omega.{arith}
use lib.Pow.{pow_pos, shr-shr, ones_split, ones_lt, high}
use Rattle.vocabulary.specs.Line.{line}
use Rattle.expand.specs.Expand.{repeated, filled}

module _ (w v : ℕ) where
  -- n bits are below 2 to the n
  pub filled_below : (n : ℕ) → filled w v n < 2 ^ n
  unfolding filled
  filled_below zero = omega arith
  filled_below (suc n) = let h = filled_below n in omega (arith, h, two-pow-succ n)

  -- the first n of n + k: the others are dropped
  pub filled_part : (n k : ℕ) → filled w v (n + k) / 2 ^ k ≡ filled w v n
  unfolding filled
  filled_part n zero = rw (add-zero n) (div-one _)
  filled_part n (suc k) =
      let more = filled w v (suc (n + k)) in
      let steps : suc k ≡ 1 + k = omega arith in
      let halved = ap (λ (i : ℕ). more / 2 ^ i) steps ∙ sym (shr-shr more 1 k) in
      let half : more / 2 ≡ filled w v (n + k) = omega arith in
      rw (add-suc n k, halved, half) (filled_part n k)

  -- place i, from the top, of n bits
  pub filled_bit : (n i : ℕ) → i < n → line (filled w v n) (n - 1 - i) ≡ repeated w v i
  unfolding filled
  filled_bit n i h =
      let k = n - 1 - i in
      let places : n ≡ suc i + k = omega arith in
      ap (λ (m : ℕ). filled w v m / 2 ^ k % 2) places ∙ rw (filled_part (suc i) k) (omega arith)

  -- after the component's w bits come the same again
  pub filled_again : (n : ℕ) → filled w v (w + n) ≡ 2 ^ n * filled w v w + filled w v n
  unfolding filled
  filled_again zero = rw (add-zero w) (omega arith)
  filled_again (suc n) =
      let again = ap (λ (i : ℕ). line v (w - 1 - i)) (add-mod_left w n) in
      rw (add-suc w n, filled_again n, again, pow-succ' 2 n, mul_assoc 2 (2 ^ n) (filled w v w)) (omega arith)

  -- the first n of the w, when m more of them follow: the component without its low m bits
  pub filled_first : v < 2 ^ w → (m n : ℕ) → m + n ≡ w → filled w v n ≡ v / 2 ^ m
  unfolding filled
  filled_first h m zero e = let same : m ≡ w = omega arith in rw same (sym (div-eq_of_lt h))
  filled_first h m (suc n) e =
      let place : w - 1 - n % w ≡ m = ap (λ (i : ℕ). w - 1 - i) (mod-eq_of_lt (omega arith)) ∙ omega arith in
      let halved : v / 2 ^ suc m ≡ v / 2 ^ m / 2 = ap (λ (k : ℕ). v / 2 ^ k) (omega arith) ∙ sym (shr-shr v m 1) in
      rw (filled_first h (suc m) n (omega arith), place, halved) (omega arith)

-- zero's bits are zeros
pub filled_zero : (w n : ℕ) → filled w 0 n ≡ 0
unfolding filled
filled_zero w zero = refl
filled_zero w (suc n) = rw (filled_zero w n, zero-div (2 ^ (w - 1 - n % w))) refl

-- and the largest component's are ones
line_ones : (w k : ℕ) → k < w → line (2 ^ w - 1) (w - 1 - k) ≡ 1
line_ones w k h =
    let m = w - 1 - k in
    let parts : w ≡ suc k + m = omega arith in
    ap (λ (n : ℕ). (2 ^ n - 1) / 2 ^ m % 2) parts
    ∙ rw (ones_split (suc k) m, high (2 ^ suc k - 1) m (ones_lt m)) (omega (arith, two-pow-succ k, pow_pos k))

pub filled_ones : (w n : ℕ) → 0 < w → filled w (2 ^ w - 1) n ≡ 2 ^ n - 1
unfolding filled
filled_ones w zero h = refl
filled_ones w (suc n) h =
    rw (filled_ones w n h, line_ones w (n % w) (mod-lt n h)) (omega (arith, two-pow-succ n, pow_pos n))
