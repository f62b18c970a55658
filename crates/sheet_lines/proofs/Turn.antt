-- A chip's text into a buffer, line by line. Assumes nothing.
use Prim.Native.Nat.{ℕ, ◌+◌, ◌≤◌, ◌<◌}
use mathlib.Core.Path.{◌≡◌}
use mathlib.Core.List.{List, ◌++◌, map}
use native.Mathlib.Numerals.{add-one}
use native.Mathlib.Omega.{arith}
use lib.ListN.{length, get_or, drop, drop_of_length-le}
use lib.Seq.{drop-cons}
use Rattle.hd153108.specs.Hd153108.{Chip}
use Rattle.std.specs.Prelude.{Some}
use Rattle.sheet.specs.Sheet.{keys, key_at, line_text, values, text_from, text_of, pasted, Wrote}
use Rattle.sheet.proofs.Going.{Going, begins, fits, goes_on, ends}
use Rattle.sheet_written.specs.Writer.{Writable}
use Rattle.sheet_written.proofs.Values.{length_values, length_text}

-- the text from a key on
abbrev pub left : Chip → ℕ → List ℕ
left a k = text_from k (map Some (drop k (values a)))

module _ (a : Chip) (w : Writable a) where
  all : length (values a) ≡ keys
  all = length_values a w.overlays w.colours

  pub first_line : {out : List ℕ} → 2134 ≤ length out → Going (text_of a) out out 0 (left a 0)
  first_line {out} h = begins (text_of a) out (omega (arith, length_text a w.overlays w.colours))

  module _ {start out : List ℕ} {at k : ℕ} (g : Going (text_of a) start out at (left a k)) where
    pub last_line : keys ≤ k → out ≡ pasted start 0 (text_of a)
    unfolding text_from
    last_line h =
        let far : length (values a) ≤ k = omega (arith, all) in
        (ends (text_of a) start out at _ g (rw (drop_of_length-le (values a) far))).1

    module _ {v : ℕ} (is : v ≡ get_or (values a) k 0) (more : k < keys) where
      one_more : left a k ≡ line_text (key_at k) v ++ left a (k + 1)
      unfolding text_from
      one_more = rw (is, drop-cons (values a) k 0 (omega (arith, all)), add-one)

      pub line_fits : at + length (line_text (key_at k) v) ≤ length out
      line_fits = fits (text_of a) start out at _ g (line_text (key_at k) v) (left a (k + 1)) one_more

      pub next_line : {next : List ℕ} {r : ℕ} → Wrote out at (line_text (key_at k) v) r next
          → Going (text_of a) start next r (left a (k + 1))
      next_line wrote = goes_on (text_of a) start out at _ g (line_text (key_at k) v) _ one_more wrote
