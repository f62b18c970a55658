-- Digits, how long they are, and answers by refusal. Assumes nothing.
use Prim.Native.Nat.{ℕ, zero, suc, ◌+◌, ◌-◌, ◌/◌, ◌%◌, ◌≤◌, ◌<◌}
use mathlib.Core.Path.{◌≡◌, refl}
use mathlib.Core.List.{List, [], ◌∷◌, ◌++◌, append-nil, append_assoc}
use native.Mathlib.Omega.{arith}
use lib.Dec.{ltb}
use lib.ListN.{length, length-append}
use borrow.Author.Tests.{lt-ltb, le-ltb}
use Rattle.vocabulary.proofs.Choice.{picks_first, picks_second, cases}
use Rattle.hex_digits.specs.Hex.{hex, hex_digit}
use Rattle.hex_digits.proofs.Number.{length_hex}
use Rattle.answers.specs.Answers.{decimal, told, refused_text}

pub hex_none : (v : ℕ) → hex 0 v ≡ []
unfolding hex
hex_none v = refl

pub hex_more : (w v : ℕ) → 0 < w → hex w v ≡ hex (w - 1) (v / 16) ++ (hex_digit (v % 16) ∷ [])
unfolding hex
hex_more zero v h = absurd (omega arith)
hex_more (suc w) v h = let e : suc w - 1 ≡ w = omega arith in rw e refl

pub decimal_none : (n : ℕ) → decimal 0 n ≡ []
unfolding decimal
decimal_none n = refl

pub decimal_last : (most n : ℕ) → 0 < most → n < 10 → decimal most n ≡ (48 + n % 10) ∷ []
unfolding decimal
decimal_last zero n h l = absurd (omega arith)
decimal_last (suc most) n h l = rw (picks_first {A = List ℕ} [] (decimal most (n / 10)) (lt-ltb n 10 l))

pub decimal_more : (most n : ℕ) → 0 < most → 10 ≤ n
    → decimal most n ≡ decimal (most - 1) (n / 10) ++ ((48 + n % 10) ∷ [])
unfolding decimal
decimal_more zero n h l = absurd (omega arith)
decimal_more (suc most) n h l =
    let e : suc most - 1 ≡ most = omega arith in
    rw (picks_second {A = List ℕ} [] (decimal most (n / 10)) (le-ltb n 10 l), e)

pub length_decimal : (most n : ℕ) → length (decimal most n) ≤ most
unfolding decimal
length_decimal zero n = omega arith
length_decimal (suc most) n =
    cases (ltb n 10) (λ e. rw (picks_first {A = List ℕ} [] (decimal most (n / 10)) e) (omega arith))
    (λ e. rw (
      picks_second {A = List ℕ} [] (decimal most (n / 10)) e,
      length-append (decimal most (n / 10)) ((48 + n
          % 10) ∷ []),
    )
    (let l = length_decimal most (n / 10) in omega arith))

-- digits one after another behind a text
pub ruleset hex_steps = (hex_none, hex_more, append-nil, append_assoc, length-append)

pub ruleset decimal_steps = (decimal_none, decimal_last, decimal_more, append-nil, append_assoc, length-append)

-- and a name before them, LF behind them
pub ruleset line_steps = (length_hex, length_decimal, append-nil, append_assoc, length-append)

-- ---- Answers by their refusal

module _ {line : List ℕ} where
  pub told_refused : (n : ℕ) (w : List ℕ) → (n ≡ 0 → ⊥) → line ≡ refused_text n → line ≡ told n w
  unfolding told
  told_refused zero w h s = absurd (h refl)
  told_refused (suc n) w h s = s

  pub told_done : (n : ℕ) (w : List ℕ) → n ≡ 0 → line ≡ w → line ≡ told n w
  unfolding told
  told_done n w e s = rw e s
