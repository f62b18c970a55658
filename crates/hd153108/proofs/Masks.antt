-- Laws of the masks, over the width: eight lines and two alike. Assumes nothing.
use mathlib.Core.Path.{◌≡◌, refl, ◌∙◌}
use Prim.Native.Nat.{ℕ, zero, suc, ◌+◌, ◌-◌, ◌*◌, ◌/◌, ◌%◌, ◌^◌, ◌<◌, min}
use mathlib.Core.Bool.{Bool, true, false}
use native.Mathlib.Omega.{arith}
use native.Mathlib.Nat.{add-suc, pow-suc, div-div-eq-div-mul, div-one, mul_comm}
use lib.Pow.{pow_pos}
use lib.Bits.{bit_and, and_step}
use Rattle.vocabulary.specs.Line.{line}
use Rattle.hd153108.specs.Hd153108.{line_reads, masked}

-- ---- one line

-- in the on time: the line and its mask bit the other way round
on_line : (r b x c : ℕ) → r < 2 → x < 2 → c + r ≡ 1 → min x c ≡ line_reads false r b x
unfolding line_reads
on_line zero b x c hr hx h = omega arith
on_line (suc r) b x c hr hx h = omega arith

-- in the off time the blink mask bit too
off_line : (r b x : ℕ) → r < 2 → b < 2 → x < 2 → min (line_reads false r b x) b ≡ line_reads true r b x
unfolding line_reads
off_line zero zero x hr hb hx = omega arith
off_line zero (suc b) x hr hb hx = omega arith
off_line (suc r) b x hr hb hx = omega arith

line_is_bit : (r b x : ℕ) (off : Bool) → x < 2 → line_reads off r b x < 2
unfolding line_reads
line_is_bit (suc r) b x off h = omega arith
line_is_bit zero zero x true h = omega arith
line_is_bit zero (suc b) x true h = h
line_is_bit zero b x false h = h

-- a line that is 0 reads 0, whatever its masks
pub line_zero : (o : Bool) (r b : ℕ) → line_reads o r b 0 ≡ 0
unfolding line_reads
line_zero o (suc r) b = refl
line_zero true zero zero = refl
line_zero true zero (suc b) = refl
line_zero false zero b = refl

-- in the off time one whose blink mask bit is 0 reads 0, whatever it is
pub line_blinks : (r x : ℕ) → line_reads true r 0 x ≡ 0
unfolding line_reads
line_blinks zero x = refl
line_blinks (suc r) x = refl

-- ---- w lines

-- the last line, and the others
module _ (w : ℕ) (o : Bool) (r b x : ℕ) where
  upper : masked (suc w) o r b x / 2 ≡ masked w o (r / 2) (b / 2) (x / 2)
  unfolding masked
  upper = omega (arith, line_is_bit (r % 2) (b % 2) (x % 2) o (omega arith))

  last : masked (suc w) o r b x % 2 ≡ line_reads o (r % 2) (b % 2) (x % 2)
  unfolding masked
  last = omega (arith, line_is_bit (r % 2) (b % 2) (x % 2) o (omega arith))

-- in the on time, an `and` with c, the read mask the other way round
pub masked_on : (w k r b x c : ℕ) → c + r ≡ 2 ^ (k + w) - 1 → x < 2 ^ w → bit_and x c ≡ masked w false r b x
unfolding masked
masked_on zero k r b x c h l = let z : x ≡ 0 = omega arith in rw z
masked_on (suc w) k r b x c h l =
    let p : 2 ^ (k + suc w) ≡ 2 ^ (k + w) * 2 = rw (add-suc, pow-suc) in
    let q : 0 < 2 ^ (k + w) = pow_pos (k + w) in
    let above = masked_on w k (r / 2) (b / 2) (x / 2) (c / 2) (omega arith) (omega arith) in
    and_step x c ∙ rw (above, on_line (r % 2) (b % 2) (x % 2) (c % 2) (omega arith) (omega arith) (omega arith))

-- in the off time, one more with the blink mask
pub masked_off : (w r b x : ℕ) → bit_and (masked w false r b x) b ≡ masked w true r b x
unfolding masked
masked_off zero r b x = refl
masked_off (suc w) r b x =
    let above = masked_off w (r / 2) (b / 2) (x / 2) in
    let below = off_line (r % 2) (b % 2) (x % 2) (omega arith) (omega arith) (omega arith) in
    and_step (masked (suc w) false r b x) b ∙ rw (upper w false r b x, last w false r b x, above, below)

halved : (n k : ℕ) → n / 2 ^ suc k ≡ n / 2 / 2 ^ k
halved n k = rw (pow-suc, mul_comm (2 ^ k) 2, div-div-eq-div-mul)

-- line k of what shows is line k of the pixel, masked by bit k of each mask
pub masked_by_line : (w k : ℕ) (o : Bool) (r b x : ℕ) → k < w
    → line (masked w o r b x) k ≡ line_reads o (line r k) (line b k) (line x k)
masked_by_line zero k o r b x h = absurd (let z : ⊥ = omega arith in z)
masked_by_line (suc w) zero o r b x h = simp (div-one, last w o r b x)
masked_by_line (suc w) (suc k) o r b x h =
    let above = masked_by_line w k o (r / 2) (b / 2) (x / 2) (omega arith) in
    rw (halved (masked (suc w) o r b x) k, halved r k, halved b k, halved x k, upper w o r b x, above)

-- w lines make a number of w bits
pub masked_fits : (w : ℕ) (o : Bool) (r b x : ℕ) → masked w o r b x < 2 ^ w
unfolding masked
masked_fits zero o r b x = omega arith
masked_fits (suc w) o r b x =
    omega (arith, line_is_bit (r % 2) (b % 2) (x % 2) o (omega arith), masked_fits w o (r / 2) (b / 2) (x / 2))

-- lines that are all 0 make 0
pub masked_zero : (w : ℕ) (o : Bool) (r b : ℕ) → masked w o r b 0 ≡ 0
unfolding masked
masked_zero zero o r b = refl
masked_zero (suc w) o r b = rw (masked_zero w o (r / 2) (b / 2), line_zero o (r % 2) (b % 2))

-- lines above a number's own read nothing: the number's read the same among more
pub masked_among : (w k : ℕ) (o : Bool) (r b x : ℕ) → x < 2 ^ w → masked (k + w) o r b x ≡ masked w o r b x
unfolding masked
masked_among zero k o r b x l = let z : x ≡ 0 = omega arith in rw z (masked_zero (k + zero) o r b)
masked_among (suc w) k o r b x l =
    let p : 2 ^ suc w ≡ 2 ^ w * 2 = rw pow-suc in
    rw add-suc (rw (masked_among w k o (r / 2) (b / 2) (x / 2) (omega arith)))

-- ---- as document 01 says it
module _ (w k : ℕ) (r b x : ℕ) (h : k < w) where
  -- a line whose read mask bit is 1 reads 0
  pub read_masked_line : (o : Bool) → line r k ≡ 1 → line (masked w o r b x) k ≡ 0
  unfolding line_reads
  read_masked_line o e = masked_by_line w k o r b x h ∙ rw e

  -- in the off time a line whose blink mask bit is 0 reads 0
  pub blinking_line : line b k ≡ 0 → line (masked w true r b x) k ≡ 0
  blinking_line e = masked_by_line w k true r b x h ∙ rw e (line_blinks (line r k) (line x k))

  -- every other line reads as it is
  pub line_on : line r k ≡ 0 → line (masked w false r b x) k ≡ line x k
  unfolding line_reads
  line_on e = masked_by_line w k false r b x h ∙ rw e

  pub line_not_blinking : line r k ≡ 0 → line b k ≡ 1 → line (masked w true r b x) k ≡ line x k
  unfolding line_reads
  line_not_blinking e f = masked_by_line w k true r b x h ∙ rw (e, f)
