-- The key that a line names. Assumes nothing.
use Prim.Native.Nat.{ℕ, ◌+◌, ◌*◌, ◌≤◌, ◌<◌}
use mathlib.Core.Path.{◌≡◌, refl, sym}
use mathlib.Core.Bool.{true}
use mathlib.Core.List.{List}
use native.Mathlib.Omega.{arith}
use lib.Dec.{ltb}
use lib.ListN.{get_or}
use borrow.Author.Tests.{lt-ltb, le-ltb, ltb-true, ltb-false, eq-eqb, ne_eqb}
use Rattle.vocabulary.specs.Choice.{pick}
use Rattle.vocabulary.proofs.Choice.{cases, picks_first}
use Rattle.sheet.specs.Sheet.{Line}
use Rattle.std.specs.Prelude.{Some, None}
use Rattle.hex_digits.specs.Hex.{hex_value}
use Rattle.sheet.specs.Sheet.{keys, key_at, line_text, starts, line_of}
use Rattle.sheet.proofs.Apart.{says_overlay, says_colour}
use Rattle.sheet.proofs.Lines.{line_starts}
use Rattle.sheet_key.specs.Reader.{named}

pub named_first : (t : List ℕ) (due : ℕ) → due < 5 → due ≡ named t due
unfolding named
named_first t due h = sym (picks_first _ _ (lt-ltb due 5 h))

-- an entry's line names its table and its number
module _ (t : List ℕ) (due : ℕ) {a : ℕ} (d : 5 ≤ due) (first : a ≡ get_or t 0 0) where
  pub names_overlay : {b x : ℕ} → a ≡ 111 → b ≡ hex_value x → x ≡ get_or t 1 0 → 5 + b ≡ named t due
  unfolding named pick
  names_overlay h e f = rw (le-ltb due 5 d, sym first, eq-eqb a 111 h, e, f)

  pub names_colour : {b c x y : ℕ} → a ≡ 99 → b ≡ hex_value x → x ≡ get_or t 1 0 → c ≡ hex_value y → y ≡ get_or t 2 0
      → 9 + (b * 16 + c) ≡ named t due
  unfolding named pick
  names_colour h e f i j =
      rw (le-ltb due 5 d, sym first, ne_eqb a 111 (λ g. omega arith), eq-eqb a 99 h, e, f, i, j)

  pub names_none : (a ≡ 111 → ⊥) → (a ≡ 99 → ⊥) → keys ≡ named t due
  unfolding named pick
  names_none g h = rw (le-ltb due 5 d, sym first, ne_eqb a 111 g, ne_eqb a 99 h)

pub ruleset names = (named_first, names_overlay, names_colour, names_none)

-- An entry's line that stands at the start of a text is the one that its first bytes name.
module _ (k : ℕ) (t : List ℕ) (v due : ℕ) (d : 5 ≤ due) where
  named_o : 5 ≤ k → k < 9 → starts (line_text (key_at k) v) t ≡ true → named t due ≡ k
  unfolding named pick
  named_o g h s = let says = says_overlay k t v g h s in rw (le-ltb due 5 d, says.0) says.1

  named_c : 9 ≤ k → k < keys → starts (line_text (key_at k) v) t ≡ true → named t due ≡ k
  unfolding named pick
  named_c g h s = let says = says_colour k t v g h s in rw (le-ltb due 5 d, says.0) says.1

  named_is : 5 ≤ k → k < keys → line_of (key_at k) t ≡ Some v → named t due ≡ k
  named_is g h e =
      let s = line_starts (key_at k) t v e in
      cases (ltb k 9) (λ b. named_o g (ltb-true k 9 b) s) (λ b. named_c (ltb-false k 9 b) h s)

-- so every other key is missing there
module _ (k : ℕ) (t : List ℕ) (due : ℕ) (d : 5 ≤ due) (g : 5 ≤ k) (h : k < keys) (n : named t due ≡ k → ⊥) where
  other_by : (x : Line) → line_of (key_at k) t ≡ x → x ≡ None
  other_by (Some v) e = absurd (n (named_is k t v due d g h e))
  other_by None e = refl

  pub other_missing : line_of (key_at k) t ≡ None
  other_missing = other_by (line_of (key_at k) t) refl
