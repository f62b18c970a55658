-- An entry's line at the start of a text: its first bytes say its table and its number, so no other entry's line
-- stands there. Assumes nothing.
use Prim.Native.Nat.{ℕ, ◌+◌, ◌-◌, ◌*◌, ◌/◌, ◌%◌, ◌≤◌, ◌<◌}
use mathlib.Core.Path.{◌≡◌, refl, sym, ◌∙◌}
use mathlib.Core.Bool.{true, false}
use mathlib.Core.List.{List, [], ◌∷◌}
use native.Mathlib.Omega.{arith}
use lib.Dec.{ltb}
use lib.ListN.{length, get_or}
use borrow.Author.Tests.{ltb-true, ltb-false}
use Rattle.vocabulary.proofs.Choice.{cases}
use Rattle.vocabulary.proofs.Range.{clash}
use Rattle.hex_digits.specs.Hex.{hex_digit, hex_value, hex}
use Rattle.hex_digits.proofs.Digits.{value_digit}
use Rattle.sheet.specs.Sheet.{Line}
use Rattle.std.specs.Prelude.{Some, None}
use Rattle.sheet.specs.Sheet.{keys, key_at, front, required, line_text, starts, line_of, text_from}
use Rattle.sheet.specs.Grammar.{Lawful}
use Rattle.sheet.proofs.Starts.{starts_at}
use Rattle.sheet.proofs.Texts.{line_length, key_o, key_c, required_first}
use Rattle.sheet.proofs.Lines.{line_starts, line_fits, line_there}

module _ (k : ℕ) (t : List ℕ) (v : ℕ) where
  pub says_overlay : 5 ≤ k → k < 9 → starts (line_text (key_at k) v) t ≡ true
      → (get_or t 0 0 ≡ 111) × (5 + hex_value (get_or t 1 0) ≡ k)
  unfolding line_text front hex
  says_overlay g h s =
      let m : (k - 5) % 16 ≡ k - 5 = omega arith in
      let s' = rw (key_o k g h) at s in
      let t1 : get_or t 1 0 ≡ hex_digit ((k - 5) % 16) = starts_at _ t 1 s' (omega arith) in
      (starts_at _ t 0 s' (omega arith), rw (t1, m, value_digit (k - 5) (omega arith)) (omega arith))

  pub says_colour : 9 ≤ k → k < keys → starts (line_text (key_at k) v) t ≡ true
      → (get_or t 0 0 ≡ 99) × (9 + (hex_value (get_or t 1 0) * 16 + hex_value (get_or t 2 0)) ≡ k)
  unfolding line_text front hex
  says_colour g h s =
      let m : (k - 9) / 16 % 16 ≡ (k - 9) / 16 = omega arith in
      let s' = rw (key_c k g) at s in
      let t1 : get_or t 1 0 ≡ hex_digit ((k - 9) / 16 % 16) = starts_at _ t 1 s' (omega arith) in
      let t2 : get_or t 2 0 ≡ hex_digit ((k - 9) % 16) = starts_at _ t 2 s' (omega arith) in
      let high = value_digit ((k - 9) / 16) (omega arith) in
      let low = value_digit ((k - 9) % 16) (omega arith) in
      (starts_at _ t 0 s' (omega arith), rw (t1, t2, m, high, low) (omega arith))

-- so it is one entry's
apart : (j k : ℕ) (t : List ℕ) (v w : ℕ) → 5 ≤ j → j < keys → 5 ≤ k → k < keys
    → starts (line_text (key_at j) v) t ≡ true → starts (line_text (key_at k) w) t ≡ true → j ≡ k
apart j k t v w f g h i s u =
    cases (ltb j 9)
    (λ b.
    let x = says_overlay j t v f (ltb-true j 9 b) s in
    cases (ltb k 9)
    (λ c. let y = says_overlay k t w h (ltb-true k 9 c) u in sym x.1 ∙ y.1)
    (λ c. let y = says_colour k t w (ltb-false k 9 c) i u in absurd (let z : ⊥ = omega (arith, x.0, y.0) in z)))
    (λ b.
    let x = says_colour j t v (ltb-false j 9 b) g s in
    cases (ltb k 9)
    (λ c. let y = says_overlay k t w h (ltb-true k 9 c) u in absurd (let z : ⊥ = omega (arith, x.0, y.0) in z))
    (λ c. let y = says_colour k t w (ltb-false k 9 c) i u in sym x.1 ∙ y.1))

-- an empty text has no line
nothing_by : (k : ℕ) (x : Line) → line_of (key_at k) [] ≡ x → x ≡ None
nothing_by k (Some v) e = absurd (let z : ⊥ = omega (arith, line_fits (key_at k) [] v e, line_length (key_at k) v) in z)
nothing_by k None e = refl

pub nothing : (k : ℕ) → line_of (key_at k) [] ≡ None
nothing k = nothing_by k (line_of (key_at k) []) refl

-- a key that may be missing is an entry's
pub entry_by : (k : ℕ) → required (key_at k) ≡ false → 5 ≤ k
entry_by k e =
    cases (ltb k 5) (λ b. clash (sym (required_first k (ltb-true k 5 b)) ∙ e)) (λ b. ltb-false k 5 b)

-- an entry's line does not stand where the lines of later keys do
module _ (k : ℕ) (h : 5 ≤ k) where
  other_by : (i v : ℕ) (t : List ℕ) (x : Line) → k < i → i < keys → line_of (key_at i) t ≡ Some v
      → line_of (key_at k) t ≡ x → x ≡ None
  other_by i v t (Some u) g l e f =
      let same = apart k i t u v h (omega arith) (omega arith) l (line_starts _ t u f) (line_starts _ t v e) in
      absurd (let z : ⊥ = omega arith in z)
  other_by i v t None g l e f = refl

  pub behind : (l : List Line) (i : ℕ) → k < i → i + length l ≤ keys → Lawful i l
      → line_of (key_at k) (text_from i l) ≡ None
  unfolding text_from
  behind [] i g b f = nothing k
  behind (Some v ∷ l) i g b (fits, taken, f) =
      other_by i v _ _ g (omega arith) (line_there (key_at i) v (text_from (i + 1) l) fits taken) refl
  behind (None ∷ l) i g b (_, f) = behind l (i + 1) (omega arith) (omega arith) f
