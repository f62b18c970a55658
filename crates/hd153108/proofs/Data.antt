-- Laws of a table's entries and of data writes, of either table alike. Assumes nothing.
use Prim.Native.Nat.{ℕ, ◌+◌, ◌*◌, ◌<◌}
use native.Mathlib.Omega.{arith}
use mathlib.Core.Path.{◌≡◌, refl, ◌∙◌}
use mathlib.Core.List.{List}
use lib.ListN.{get_or, drop}
use lib.Seq.{get_or-take, get_or-drop}
use Rattle.hd153108.specs.Hd153108.{Chip, Table, colour, overlay, entry_at, table_of, with_table, with_state}
use Rattle.hd153108.specs.Hd153108.{port, next, stepped, nibble, latched, stored, data_write, colour_at}
use Rattle.vocabulary.specs.Component.{put}
use Rattle.hd153108.proofs.Access.{is_red, is_green, is_blue}

-- the bytes of an entry
pub byte_at_lem : (t : List ℕ) (e i : ℕ) → i < 3 → get_or (colour_at e t) i 0 ≡ get_or t (3 * e + i) 0
byte_at_lem t e i h = get_or-take 3 (drop (3 * e) t) i 0 h ∙ get_or-drop (3 * e) t i 0

-- the chip with another address, pointer, latched red and latched green
abbrev pub at : Chip → ℕ → ℕ → ℕ → ℕ → Chip
at c a p r g = with_state (port c.state a p r g) c

pub table_at : (t : Table) (c : Chip) (a p r g : ℕ) → table_of t (at c a p r g) ≡ table_of t c
table_at colour c a p r g = refl
table_at overlay c a p r g = refl

-- a red write latches, and stores nothing
pub red_write : (t : Table) (byte : ℕ) (c : Chip) → c.state.pointer ≡ 0
    → data_write t byte c ≡ at c c.state.address 1 (nibble byte) c.state.green
unfolding data_write stepped latched stored
red_write colour byte c e = rw (is_red c.state.pointer e)
red_write overlay byte c e = rw (is_red c.state.pointer e)

-- a green write does the same
pub green_write : (t : Table) (byte : ℕ) (c : Chip) → c.state.pointer ≡ 1
    → data_write t byte c ≡ at c c.state.address 2 c.state.red (nibble byte)
unfolding data_write stepped latched stored
green_write colour byte c e = rw (is_green c.state.pointer e)
green_write overlay byte c e = rw (is_green c.state.pointer e)

-- a blue write stores the latches and itself, and the address is the next
pub blue_write : (t : Table) (byte : ℕ) (c : Chip) → c.state.pointer ≡ 2
    → data_write t byte c
    ≡ with_table t (put (entry_at t c.state.address) c.state.red c.state.green (nibble byte) (table_of t c))
    (at c (next t c.state.address) 0 c.state.red c.state.green)
unfolding data_write stepped latched stored
blue_write t byte c e = rw (is_blue c.state.pointer (λ z. omega arith) (λ z. omega arith))

-- One pair of latches: red and green may come by either select, and the table of the blue write stores them.
pub latches_shared : (t u v : Table) (r g b : ℕ) (c : Chip) → c.state.pointer ≡ 0
    → data_write v b (data_write u g (data_write t r c))
    ≡ with_table v (put (entry_at v c.state.address) (nibble r) (nibble g) (nibble b) (table_of v c))
    (at c (next v c.state.address) 0 (nibble r) (nibble g))
latches_shared t u v r g b c e =
    let red = at c c.state.address 1 (nibble r) c.state.green in
    let green = at c c.state.address 2 (nibble r) (nibble g) in
    rw (red_write t r c e, green_write u g red refl, blue_write v b green refl, table_at v c)
