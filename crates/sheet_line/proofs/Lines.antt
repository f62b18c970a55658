-- A key's line at the start of a text, by its tests, and the numbers of its parts. Assumes nothing.
use Prim.Native.Nat.{ℕ, ◌≤◌, ◌<◌}
use mathlib.Core.Path.{◌≡◌, sym}
use mathlib.Core.Bool.{Bool, true, false}
use mathlib.Core.List.{List}
use lib.ListN.{length}
use Rattle.vocabulary.specs.Choice.{pick}
use Rattle.hex_digits.specs.Hex.{hex, number}
use Rattle.std.specs.Prelude.{Some, None}
use Rattle.sheet.specs.Sheet.{key_at, front, width, takes, line_text, starts, spelt, line_of}
use Rattle.sheet.proofs.Texts.{key_o, key_c, width_chip, width_register, width_entry}

-- how much stands before a key's digits
module _ (k : ℕ) where
  pub front_chip : k ≡ 0 → 11 ≡ length (front (key_at k))
  unfolding key_at front pick
  front_chip e = rw e

  pub front_readmask : k ≡ 1 → 9 ≡ length (front (key_at k))
  unfolding key_at front pick
  front_readmask e = rw e

  pub front_blinkmask : k ≡ 2 → 10 ≡ length (front (key_at k))
  unfolding key_at front pick
  front_blinkmask e = rw e

  pub front_overlay : k ≡ 3 → 8 ≡ length (front (key_at k))
  unfolding key_at front pick
  front_overlay e = rw e

  pub front_timing : k ≡ 4 → 7 ≡ length (front (key_at k))
  unfolding key_at front pick
  front_timing e = rw e

  pub front_o : 5 ≤ k → k < 9 → 3 ≡ length (front (key_at k))
  unfolding front hex
  front_o g h = rw (key_o k g h)

  pub front_c : 9 ≤ k → 4 ≡ length (front (key_at k))
  unfolding front hex
  front_c h = rw (key_c k h)

pub ruleset fronts = (front_chip, front_readmask, front_blinkmask, front_overlay, front_timing, front_o, front_c)

-- how many digits a key has
pub ruleset widths = (width_chip, width_register, width_entry)

-- what was read is the line's value, and the line is there by two tests
module _ (k : ℕ) (t : List ℕ) {v w i : ℕ} {word : List ℕ} {s : Bool} (read : v ≡ number w i t)
    (wide : w ≡ width (key_at k)) (from : i ≡ length (front (key_at k))) (same : word ≡ line_text (key_at k) v)
    (tried : s ≡ starts word t) where
  is : v ≡ spelt (key_at k) t
  is = rw (read, wide, from)

  pub line_other : s ≡ false → None ≡ line_of (key_at k) t
  unfolding line_of pick
  line_other f = rw (sym is, sym same, sym tried, f)

  module _ {b : Bool} (takes_it : b ≡ takes (key_at k) v) (f : s ≡ true) where
    pub line_has : b ≡ true → Some v ≡ line_of (key_at k) t
    unfolding line_of pick
    line_has g = rw (sym is, sym same, sym tried, f, sym takes_it, g)

    pub line_not_taken : b ≡ false → None ≡ line_of (key_at k) t
    unfolding line_of pick
    line_not_taken g = rw (sym is, sym same, sym tried, f, sym takes_it, g)

pub ruleset lines = (line_other, line_has, line_not_taken)
