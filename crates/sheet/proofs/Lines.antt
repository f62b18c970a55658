-- A line at the start of a text: when it is there, and what it is. Assumes nothing.
use Prim.Native.Nat.{ℕ, ◌^◌, ◌≤◌, ◌<◌}
use mathlib.Core.Path.{◌≡◌, refl, ap}
use mathlib.Core.Bool.{Bool, true, false, ◌&&◌}
use mathlib.Core.List.{List, ◌∷◌, ◌++◌, append_assoc}
use native.Mathlib.Omega.{arith}
use lib.ListN.{length, drop, length-append}
use Rattle.vocabulary.specs.Choice.{pick}
use Rattle.vocabulary.proofs.Range.{both}
use Rattle.hex_digits.proofs.Number.{number_below, spells}
use Rattle.std.specs.Prelude.{Some, None}
use Rattle.sheet.specs.Sheet.{Key, front, width, takes, line_text, starts, spelt, line_of}
use Rattle.sheet.proofs.Starts.{starts_rest, starts_self}

has_by : (b : Bool) (v w : ℕ) → pick b (Some v) None ≡ Some w → (b ≡ true) × (w ≡ v)
unfolding pick
has_by true v w e = (refl, cc)
has_by false v w e = let z : ◌≡◌ {A = ℕ} 0 1 = cc in absurd (omega arith)

-- A line that is there: the text is the line of its value and a rest, and the key takes the value.
module _ (key : Key) (t : List ℕ) (v : ℕ) (e : line_of key t ≡ Some v) where
  parts : ((starts (line_text key (spelt key t)) t && takes key (spelt key t)) ≡ true) × (v ≡ spelt key t)
  unfolding line_of
  parts = has_by _ _ _ e

  pub line_starts : starts (line_text key v) t ≡ true
  line_starts = rw parts.1 (both (starts (line_text key (spelt key t)) t) _ parts.0).0

  pub line_is : line_text key v ++ drop (length (line_text key v)) t ≡ t
  line_is = starts_rest (line_text key v) t line_starts

  pub line_taken : takes key v ≡ true
  line_taken = rw parts.1 (both (starts (line_text key (spelt key t)) t) _ parts.0).1

  pub line_fits : length (line_text key v) ≤ length t
  line_fits = omega (arith, simp length-append at (ap length line_is))

-- and the value has no more digits than the key
pub line_below : (key : Key) (t : List ℕ) (v : ℕ) → line_of key t ≡ Some v → v < 16 ^ width key
line_below key t v e = rw (parts key t v e).1 (number_below (width key) (length (front key)) t)

-- A key's line is there, with its value, where the text is the line of a value that the key takes, and a rest.
module _ (key : Key) (v : ℕ) (x : List ℕ) (h : v < 16 ^ width key) where
  spelt_text : spelt key (line_text key v ++ x) ≡ v
  unfolding line_text
  spelt_text = simp append_assoc (spells (width key) v (front key) (10 ∷ x) h)

  pub line_there : takes key v ≡ true → line_of key (line_text key v ++ x) ≡ Some v
  unfolding line_of pick
  line_there a = rw (spelt_text, starts_self (line_text key v) x, a)
