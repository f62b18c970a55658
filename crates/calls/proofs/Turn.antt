-- A table's calls into a buffer, entry by entry. Assumes nothing.
use Prim.Native.Nat.{ℕ, ◌+◌, ◌-◌, ◌≤◌, ◌<◌}
use mathlib.Core.Path.{◌≡◌}
use mathlib.Core.Bool.{Bool, false}
use mathlib.Core.List.{List, ◌++◌}
use native.Mathlib.Omega.{arith}
use native.Mathlib.Numerals.{add-one}
use lib.ListN.{length, get_or, drop, drop_of_length-le}
use lib.Seq.{drop-cons}
use borrow.Rule.Slice.PartMut.{put_mid, mid_of}
use Rattle.std.specs.Prelude.{None, is_some}
use Rattle.sheet.specs.Sheet.{Line, Wrote}
use Rattle.sheet.proofs.Paste.{lent_on, length_lent}
use Rattle.sheet.proofs.Going.{Going, fits, goes_on, ends}
use Rattle.calls.specs.Calls.{entry_calls, table_calls, call_bytes}
use Rattle.calls.proofs.Stored.{bytes_append}

-- the bytes of the calls from an entry on
abbrev pub left : ℕ → List Line → ℕ → Bool → List ℕ
left s lines e f = call_bytes (table_calls s e f (drop e lines))

-- and those of the entry itself
abbrev here : ℕ → List Line → ℕ → Bool → List ℕ
here s lines e f = call_bytes (entry_calls s e f (get_or lines e None))

module _ (s : ℕ) (lines : List Line) (start out : List ℕ) (at e : ℕ) (f : Bool)
    (g : Going (left s lines 0 false) start out at (left s lines e f)) where
  pub last_entry : length lines ≤ e → Wrote start 0 (left s lines 0 false) at out
  unfolding table_calls call_bytes
  last_entry h = ends _ start out at _ g (rw (drop_of_length-le lines h))

  module _ (more : e < length lines) where
    one_more : left s lines e f ≡ here s lines e f ++ left s lines (e + 1) (is_some (get_or lines e None))
    unfolding table_calls
    one_more =
        rw (drop-cons lines e None more, add-one)
        (bytes_append (entry_calls s e f (get_or lines e None)) _)

    pub entry_ends : at + length (here s lines e f) ≤ length out
    entry_ends = fits _ start out at _ g (here s lines e f) _ one_more

    entry_inside : at ≤ length out
    entry_inside = omega (arith, entry_ends)

    pub entry_fits : length (here s lines e f) ≤ length (mid_of at (length out - at) out)
    entry_fits = omega (arith, entry_ends, length_lent out at entry_inside)

    pub next_entry : {last : List ℕ} {n : ℕ} → Wrote (mid_of at (length out - at) out) 0 (here s lines e f) n last
        → Going (left s lines 0 false) start (put_mid at (length out - at) out last) (at + n)
        (left s lines (e + 1) (is_some (get_or lines e None)))
    next_entry {last} wrote =
        goes_on _ start out at _ g (here s lines e f) _ one_more
        (omega (arith, wrote.0), lent_on out at entry_inside (here s lines e f) last wrote.1)
