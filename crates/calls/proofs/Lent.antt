-- Calls behind other calls: an entry's, and those in the rest of a buffer that is lent on. Assumes nothing.
use Prim.Native.Nat.{ℕ, ◌+◌, ◌-◌, ◌≤◌}
use mathlib.Core.Path.{◌≡◌, sym, ap, ◌∙◌}
use mathlib.Core.Bool.{Bool, false}
use mathlib.Core.List.{List, ◌++◌}
use native.Mathlib.Omega.{arith}
use lib.ListN.{length, take, drop, length-append, length-drop}
use lib.Seq.{take_all}
use borrow.Rule.Slice.PartMut.{put_mid, mid_of}
use Rattle.std.specs.Prelude.{Some, None}
use Rattle.sheet.specs.Sheet.{Line, pasted, Wrote, registers_of, overlays_of, colours_of}
use Rattle.sheet.proofs.Paste.{pasted_more, length_pasted, lent_on, length_lent}
use Rattle.calls.specs.Calls.{register_calls, address_calls, colour_calls, entry_calls, table_calls, tables_calls}
use Rattle.calls.specs.Calls.{calls_of, call_bytes}
use Rattle.calls.specs.Kept.{Kept}
use Rattle.calls.proofs.Stored.{bytes_append, nothing, length_registers}

-- A word in two parts: the first is written, and the second into the rest behind it.
module _ (d P Q W : List ℕ) (split : W ≡ P ++ Q) (fits : length W ≤ length d) where
  sum : length P + length Q ≤ length d
  sum = omega (arith, ap length split ∙ length-append P Q)

  module _ {e : List ℕ} {n : ℕ} (wrote : Wrote d 0 P n e) where
    same : length e ≡ length d
    same = ap length wrote.1 ∙ length_pasted d 0 P (omega (arith, sum))

    inside : n ≤ length e
    inside = omega (arith, sum, same, wrote.0)

    rest_room : length Q ≤ length (mid_of n (length e - n) e)
    rest_room = omega (arith, sum, same, wrote.0, length_lent e n inside)

    behind : {last : List ℕ} → last ≡ pasted (mid_of n (length e - n) e) 0 Q
        → put_mid n (length e - n) e last ≡ pasted d 0 W
    behind {last} w =
        lent_on e n inside Q last w
        ∙ rw (split, wrote.0, wrote.1) (sym (pasted_more d 0 P (omega (arith, sum)) Q))

    -- both are written, in as many bytes as both have
    both : {last : List ℕ} {m : ℕ} → Wrote (mid_of n (length e - n) e) 0 Q m last
        → Wrote d 0 W (n + m) (put_mid n (length e - n) e last)
    both w = (omega (arith, ap length split ∙ length-append P Q, wrote.0, w.0), behind w.1)

-- an entry that is missing has no call
pub entry_none : (s e : ℕ) (f : Bool) (out : List ℕ) → Wrote out 0 (call_bytes (entry_calls s e f None)) 0 out
unfolding entry_calls call_bytes
entry_none s e f out = nothing out

-- one that is there: its address write, and its colour behind
module _ (s e : ℕ) (f : Bool) (x : ℕ) (out : List ℕ)
    (fits : length (call_bytes (entry_calls s e f (Some x))) ≤ length out) where
  two : call_bytes (entry_calls s e f (Some x)) ≡ call_bytes (address_calls f e) ++ call_bytes (colour_calls s x)
  unfolding entry_calls
  two = bytes_append (address_calls f e) (colour_calls s x)

  pub address_fits : length (call_bytes (address_calls f e)) ≤ length out
  address_fits = omega (arith, sum out (call_bytes (address_calls f e)) _ _ two fits)

  module _ {out1 : List ℕ} {n : ℕ} (w : Wrote out 0 (call_bytes (address_calls f e)) n out1) where
    pub address_inside : n ≤ length out1
    address_inside = inside out (call_bytes (address_calls f e)) (call_bytes (colour_calls s x)) _ two fits w

    pub colour_fits : 6 ≤ length (mid_of n (length out1 - n) out1)
    unfolding call_bytes
    colour_fits = rest_room out (call_bytes (address_calls f e)) (call_bytes (colour_calls s x)) _ two fits w

    pub entry_wrote : {last : List ℕ} {m : ℕ}
        → Wrote (mid_of n (length out1 - n) out1) 0 (call_bytes (colour_calls s x)) m last
        → Wrote out 0 (call_bytes (entry_calls s e f (Some x))) (n + m) (put_mid n (length out1 - n) out1 last)
    entry_wrote v = both out (call_bytes (address_calls f e)) (call_bytes (colour_calls s x)) _ two fits w v

-- the colours, as the part behind the overlays
pub colours_kept : (lines : List Line) → take (length lines - 9) (drop 9 lines) ≡ colours_of lines
colours_kept lines = take_all (length lines - 9) (drop 9 lines) (simp length-drop (omega arith))

-- the overlays' calls and the table's, and the registers' before them
pub tables_split : (lines : List Line) → call_bytes (tables_calls lines)
    ≡ call_bytes (table_calls 3 0 false (overlays_of lines))
    ++ call_bytes (table_calls 1 0 false (take (length lines - 9) (drop 9 lines)))
tables_split lines = rw (colours_kept lines) (bytes_append (table_calls 3 0 false _) _)

pub calls_split : (l : List Line) → call_bytes (calls_of l)
    ≡ call_bytes (register_calls 4 (registers_of l)) ++ call_bytes (tables_calls l)
unfolding calls_of
calls_split l = bytes_append (register_calls 4 (registers_of l)) (tables_calls l)

module _ (lines : List Line) (out : List ℕ) (fits : length (call_bytes (tables_calls lines)) ≤ length out) where
  abbrev first : List ℕ
  first = call_bytes (table_calls 3 0 false (overlays_of lines))

  abbrev second : List ℕ
  second = call_bytes (table_calls 1 0 false (take (length lines - 9) (drop 9 lines)))

  pub overlays_fit : length first ≤ length out
  overlays_fit = omega (arith, sum out first second _ (tables_split lines) fits)

  module _ {e : List ℕ} {n : ℕ} (wrote : Wrote out 0 first n e) where
    pub tables_inside : n ≤ length e
    tables_inside = inside out first second _ (tables_split lines) fits wrote

    pub tables_room : length second ≤ length (mid_of n (length e - n) e)
    tables_room = rest_room out first second _ (tables_split lines) fits wrote

    pub tables_behind : {last : List ℕ} → last ≡ pasted (mid_of n (length e - n) e) 0 second
        → put_mid n (length e - n) e last ≡ pasted out 0 (call_bytes (tables_calls lines))
    tables_behind w = behind out first second _ (tables_split lines) fits wrote w

module _ (lines : List Line) (out : List ℕ) (fits : length (call_bytes (calls_of lines)) ≤ length out) where
  abbrev registers : List ℕ
  registers = call_bytes (register_calls 4 (registers_of lines))

  abbrev tables : List ℕ
  tables = call_bytes (tables_calls lines)

  pub registers_fit : Kept lines → 8 ≤ length out
  registers_fit k = omega (arith, length_registers lines k, sum out registers tables _ (calls_split lines) fits)

  module _ {e : List ℕ} {n : ℕ} (wrote : Wrote out 0 registers n e) where
    pub calls_inside : n ≤ length e
    calls_inside = inside out registers tables _ (calls_split lines) fits wrote

    pub calls_room : length tables ≤ length (mid_of n (length e - n) e)
    calls_room = rest_room out registers tables _ (calls_split lines) fits wrote

    pub calls_behind : {last : List ℕ} → last ≡ pasted (mid_of n (length e - n) e) 0 tables
        → put_mid n (length e - n) e last ≡ pasted out 0 (call_bytes (calls_of lines))
    calls_behind w = behind out registers tables _ (calls_split lines) fits wrote w
