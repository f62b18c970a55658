-- The first lines of a text. Assumes nothing.
use Prim.Native.Nat.{ℕ, zero, suc, ◌/◌, ◌%◌, ◌≤◌}
use mathlib.Core.Path.{◌≡◌, refl, sym, ap, ◌∙◌}
use mathlib.Core.List.{List, [], ◌∷◌, ◌++◌, append_assoc}
use native.Mathlib.Omega.{arith}
use lib.Dec.{ltb, eqb}
use lib.ListN.{length, drop}
use borrow.Author.Tests.{ne_eqb}
use Rattle.vocabulary.specs.Choice.{pick}
use Rattle.vocabulary.proofs.Choice.{cases}
use Rattle.hex_digits.specs.Hex.{hex_digit, hex}
use Rattle.sheet.specs.Sheet.{Key, chip, readmask, blinkmask, overlay, timing, o, c, front, width, line_text}
use Rattle.sheet.specs.Grammar.{first_lines}

-- ---- a key's line is one line

-- a word without LF starts the line that follows it
Inner : List ℕ → Type 0
Inner w = (n : ℕ) (t : List ℕ) → first_lines (w ++ t) (suc n) ≡ w ++ first_lines t (suc n)

inner_append : (a b : List ℕ) → Inner a → Inner b → Inner (a ++ b)
unfolding Inner
inner_append a b f g n t =
    ap (λ (l : List ℕ). first_lines l (suc n)) (append_assoc a b t) ∙ f n (b ++ t) ∙ ap (λ (l : List ℕ). a ++ l) (g n t)
    ∙ sym (append_assoc a b (first_lines t (suc n)))

digit_from : (d : ℕ) → 48 ≤ hex_digit d
unfolding hex_digit pick
digit_from d = cases (ltb d 10) (λ e. rw e (omega arith)) (λ e. rw e (omega arith))

inner_digit : (d : ℕ) → Inner (hex_digit d ∷ [])
unfolding Inner first_lines pick
inner_digit d n t = rw (ne_eqb (hex_digit d) 10 (λ e. omega (arith, digit_from d)))

inner_hex : (w v : ℕ) → Inner (hex w v)
unfolding Inner hex
inner_hex zero v n t = refl
inner_hex (suc w) v n t = inner_append (hex w (v / 16)) _ (inner_hex w (v / 16)) (inner_digit (v % 16)) n t

module _ (w v : ℕ) where
  inner_entry : (b : ℕ) → Inner (b ∷ []) → Inner (b ∷ hex w v ++ 61 ∷ [])
  unfolding Inner first_lines pick
  inner_entry b f n t =
      inner_append (b ∷ []) (hex w v ++ 61 ∷ []) f (inner_append (hex w v) (61 ∷ []) (inner_hex w v) (λ n t. refl)) n t

inner_front : (key : Key) → Inner (front key)
unfolding Inner front first_lines pick
inner_front chip n t = refl
inner_front readmask n t = refl
inner_front blinkmask n t = refl
inner_front overlay n t = refl
inner_front timing n t = refl
inner_front (o e) n t = inner_entry 1 e 111 (λ n t. refl) n t
inner_front (c e) n t = inner_entry 2 e 99 (λ n t. refl) n t

pub first_line : (key : Key) (v n : ℕ) (t : List ℕ)
    → first_lines (line_text key v ++ t) (suc n) ≡ line_text key v ++ first_lines t n
unfolding Inner line_text first_lines pick
first_line key v n t =
    let word = front key ++ hex (width key) v in
    let whole : (x : List ℕ) → (front key ++ hex (width key) v ++ 10 ∷ []) ++ x ≡ word ++ 10 ∷ x =
    λ x. simp append_assoc in
    rw (whole t, whole (first_lines t n))
    (inner_append (front key) (hex (width key) v) (inner_front key) (inner_hex (width key) v) n (10 ∷ t))

-- ---- a text has its first lines in front

pub first_none : (t : List ℕ) → first_lines t 0 ≡ []
unfolding first_lines
first_none [] = refl
first_none (b ∷ t) = refl

pub first_part : (t : List ℕ) (n : ℕ) → first_lines t n ++ drop (length (first_lines t n)) t ≡ t
unfolding first_lines
first_part [] n = refl
first_part (b ∷ t) zero = refl
first_part (b ∷ t) (suc n) = ap (λ (l : List ℕ). b ∷ l) (first_part t (pick (eqb b 10) n (suc n)))

-- and of them, fewer
pub first_fewer : (t : List ℕ) (m n : ℕ) → m ≤ n → first_lines (first_lines t n) m ≡ first_lines t m
unfolding first_lines pick
first_fewer [] m n h = refl
first_fewer (b ∷ t) zero n h = first_none (first_lines (b ∷ t) n)
first_fewer (b ∷ t) (suc m) zero h = absurd (let z : ⊥ = omega arith in z)
first_fewer (b ∷ t) (suc m) (suc n) h =
    ap (λ (l : List ℕ). b ∷ l)
    (cases (eqb b 10)
    (λ e. rw e (first_fewer t m n (omega arith)))
    (λ e. rw e (first_fewer t (suc m) (suc n) h)))
