-- The way back: a chip's sheet, loaded on any other chip in range, leaves what the chip has. Assumes nothing.
use Prim.Native.Nat.{ℕ, ◌+◌, ◌*◌, ◌/◌, ◌%◌, ◌<◌}
use mathlib.Core.Path.{◌≡◌, sym, ap, ◌∙◌}
use mathlib.Core.List.{List, ◌++◌, map, map-append}
use mathlib.Core.Bool.{false}
use native.Mathlib.Omega.{arith}
use lib.ListN.{length, get_or, take, drop, length-map}
use lib.Seq.{ext_get_or, take_at, drop_at}
use Rattle.hd153108.specs.Hd153108.{Chip, Table, colour, overlay, size, table_of, colour_at, InRange}
use Rattle.hd153108.proofs.InRange.{in_range_lem, table_length}
use Rattle.hd153108.proofs.Data.{byte_at_lem}
use Rattle.sheet.specs.Sheet.{Line}
use Rattle.std.specs.Prelude.{Some, None}
use Rattle.sheet.specs.Sheet.{sheet_of, good, colours_in, values, chip_lines, text_of, over_fifteen_in}
use Rattle.sheet_written.specs.Writer.{Writable}
use Rattle.sheet_written.proofs.Values.{length_colours}
use Rattle.sheet_written.proofs.Round.{round}
use Rattle.theorem_load.specs.Load.{Writing, writing, entries_of, filled, Leaves, LoadsSheets, Same, LoadsBack}
use Rattle.theorem_load.proofs.Colours.{listed}
use Rattle.theorem_load.proofs.Load.{load}

-- tables with equal entries are equal
byte_of : (t : List ℕ) (i : ℕ) → get_or t i 0 ≡ get_or (colour_at (i / 3) t) (i % 3) 0
byte_of t i =
    let e : 3 * (i / 3) + i % 3 ≡ i = omega arith in
    sym (byte_at_lem t (i / 3) (i % 3) (omega arith) ∙ rw e)

same_entries : (n : ℕ) (s t : List ℕ) → length s ≡ 3 * n → length t ≡ 3 * n
    → ((e : ℕ) → e < n → colour_at e s ≡ colour_at e t) → s ≡ t
same_entries n s t ls lt h =
    ext_get_or 0 s t (ls ∙ sym lt)
    (λ i l.
    byte_of s i
    ∙ (ap (λ (x : List ℕ). get_or x (i % 3) 0) (h (i / 3) (omega arith)) ∙ sym (byte_of t i)))

-- ---- a chip's lines

module _ (a : Chip) (g : InRange a) where
  listing : Table → List Line
  listing t = map Some (colours_in (table_of t a))

  listing_length : (t : Table) → length (listing t) ≡ size t
  unfolding listing
  listing_length t =
      length-map (colours_in (table_of t a)) Some ∙ length_colours (size t) (table_of t a) (table_length t a g)

  -- the overlays' lines come first, then the colours'
  listings : map Some (colours_in a.overlays ++ colours_in a.colours) ≡ listing overlay ++ listing colour
  unfolding listing
  listings = map-append Some (colours_in a.overlays) (colours_in a.colours)

  chip_entries : (t : Table) → entries_of t (chip_lines a) ≡ listing t
  unfolding values
  chip_entries colour = ap (drop 4) listings ∙ drop_at (listing overlay) (listing colour) 4 (listing_length overlay)
  chip_entries overlay = ap (take 4) listings ∙ take_at (listing overlay) (listing colour) 4 (listing_length overlay)

-- ---- what a chip's lines leave is what the chip has

same_tables : (a b : Chip) → InRange a → InRange b
    → ((t : Table) (e : ℕ) → e < size t → colour_at e (table_of t a) ≡ colour_at e (table_of t b))
    → (t : Table) → table_of t a ≡ table_of t b
same_tables a b g h f t =
    same_entries (size t) (table_of t a) (table_of t b) (table_length t a g) (table_length t b h) (f t)

pub writable_in_range : (a : Chip) → Writable a → InRange a
writable_in_range a w = in_range_lem a (w.colours, (w.overlays, tt)) w.state

module _ (a b after : Chip) (w : Writable a) (l : Leaves (chip_lines a) b after) where
  range : InRange a
  range = writable_in_range a w

  low_table : (t : Table) → over_fifteen_in (table_of t a) ≡ false
  low_table colour = w.low_colours
  low_table overlay = w.low_overlays

  same_entry : (t : Table) (e : ℕ) → e < size t → colour_at e (table_of t a) ≡ colour_at e (table_of t after)
  unfolding listing
  same_entry t e h =
      let n = table_length t a range in
      sym (l.entries t e
      ∙ (ap (λ (x : List Line). filled (get_or x e None) (colour_at e (table_of t b))) (chip_entries a range t)
      ∙ listed (table_of t a) e _ (low_table t) (omega arith)))

  pub returned : Same a after
  unfolding values
  returned =
      let tables = same_tables a after range l.in_range same_entry in
      record { registers = sym l.registers; colours = tables colour; overlays = tables overlay }

-- What loads every sheet loads back.
pub load_returns : (w : Writing) → LoadsSheets w → LoadsBack w
load_returns w loads a b p g =
    let e : sheet_of (text_of a) ≡ good (chip_lines a) = round a p in
    let m = loads (text_of a) (chip_lines a) b e g in
    record { reads = rw e; accepted = rw e m.accepted; same = rw e (returned a b _ p m.leaves) }

-- Document 01, demand 2: "A's colours and registers, where no table byte is over 15, become a sheet that loads back
-- equal."
pub back : LoadsBack writing
back = load_returns writing load

-- What a load leaves is determined: registers, colours and overlays.
pub leaves_determined : (lines : List Line) (c a b : Chip) → Leaves lines c a → Leaves lines c b → Same a b
leaves_determined lines c a b l m =
    let tables = same_tables a b l.in_range m.in_range (λ t e h. l.entries t e ∙ sym (m.entries t e)) in
    record { registers = l.registers ∙ sym m.registers; colours = tables colour; overlays = tables overlay }
