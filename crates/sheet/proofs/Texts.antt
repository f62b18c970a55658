-- The keys by number: what each is, how long its line is, what it takes and whether it is required. Assumes nothing.
use Prim.Native.Nat.{ℕ, zero, suc, ◌+◌, ◌-◌, ◌≤◌, ◌<◌}
use mathlib.Core.Path.{◌≡◌, refl}
use mathlib.Core.Bool.{true, false}
use native.Mathlib.Omega.{arith}
use borrow.Author.Tests.{lt-ltb, le-ltb, ltb-true, ltb-false}
use lib.Dec.{ltb}
use lib.ListN.{length, length-append}
use Rattle.vocabulary.specs.Choice.{pick}
use Rattle.vocabulary.proofs.Choice.{cases}
use Rattle.hex_digits.proofs.Number.{length_hex}
use Rattle.sheet.specs.Sheet.{Key, chip, readmask, blinkmask, overlay, timing, o, c, key_at}
use Rattle.sheet.specs.Sheet.{front, width, required, takes, line_text}

pub line_length : (key : Key) (v : ℕ) → length (line_text key v) ≡ length (front key) + width key + 1
unfolding line_text
line_length key v = simp (length-append, length_hex) (omega arith)

module _ (k : ℕ) where
  pub key_o : 5 ≤ k → k < 9 → key_at k ≡ o (k - 5)
  unfolding key_at pick
  key_o g h = rw (le-ltb k 5 g, lt-ltb k 9 h)

  pub key_c : 9 ≤ k → key_at k ≡ c (k - 9)
  unfolding key_at pick
  key_c h = rw (le-ltb k 5 (omega arith), le-ltb k 9 h)

-- what holds of the five first keys, by their numbers, and what holds of the entries
pub firsts : (P : ℕ → Key → Type 0) → P 0 chip → P 1 readmask → P 2 blinkmask → P 3 overlay → P 4 timing
    → (k : ℕ) → k < 5 → P k (key_at k)
unfolding key_at pick
firsts P p q r s t zero h = p
firsts P p q r s t (suc zero) h = q
firsts P p q r s t (suc (suc zero)) h = r
firsts P p q r s t (suc (suc (suc zero))) h = s
firsts P p q r s t (suc (suc (suc (suc zero)))) h = t
firsts P p q r s t (suc (suc (suc (suc (suc k))))) h = absurd (let z : ⊥ = omega arith in z)

pub entries : (P : Key → Type 0) → ((e : ℕ) → P (o e)) → ((e : ℕ) → P (c e)) → (k : ℕ) → 5 ≤ k → P (key_at k)
entries P p q k h =
    cases (ltb k 9)
    (λ b. rw (key_o k h (ltb-true k 9 b)) (p (k - 5)))
    (λ b. rw (key_c k (ltb-false k 9 b)) (q (k - 9)))

module _ (k : ℕ) where
  pub width_chip : k < 1 → width (key_at k) ≡ 0
  unfolding key_at pick
  width_chip h = let e : k ≡ 0 = omega arith in rw e

  pub width_register : 1 ≤ k → k < 5 → width (key_at k) ≡ 2
  width_register g h =
      firsts (λ k key. 1 ≤ k → width key ≡ 2) (λ g. absurd (let z : ⊥ = omega arith in z)) (λ g. refl) (λ g. refl)
      (λ g. refl) (λ g. refl) k h g

  pub width_entry : 5 ≤ k → width (key_at k) ≡ 3
  width_entry h = entries (λ key. width key ≡ 3) (λ e. refl) (λ e. refl) k h

  pub takes_entry : (v : ℕ) → 5 ≤ k → takes (key_at k) v ≡ true
  takes_entry v h = entries (λ key. takes key v ≡ true) (λ e. refl) (λ e. refl) k h

  pub required_first : k < 5 → required (key_at k) ≡ true
  required_first h = firsts (λ k key. required key ≡ true) refl refl refl refl refl k h

  pub required_entry : 5 ≤ k → required (key_at k) ≡ false
  required_entry h = entries (λ key. required key ≡ false) (λ e. refl) (λ e. refl) k h
