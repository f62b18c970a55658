-- WHAT DOCUMENT 01 SAYS OF CHIP C, in its words and numbers, as rows: a call, and what it answers and leaves. It is
-- said of any `called`. Of Rgb640.antt it takes the names of the chip's parts and of its calls, and nothing that they
-- do: who ticks these rows against document 01 need not believe that file. The RGB640's palette port meets them
-- (`scope`), and a chip that meets them is that chip (`scope_determines`), refusals included.
use Rattle.std.specs.Prelude.{ℕ, ◌+◌, ◌*◌, ◌/◌, ◌%◌, ◌<◌, ◌≤◌, ◌≡◌, List, [], ◌∷◌, length, get_or, set}
use Rattle.vocabulary.specs.Line.{line}
use Rattle.vocabulary.specs.Outcome.{Outcome, accepting, refusing}
use Rattle.rgb640.specs.declared.Colour.{Colour}
use Rattle.rgb640.specs.declared.State.{State}
use Rattle.rgb640.specs.Rgb640.{Chip, Call, writes, reads, resets, looks}

-- ---- Which chips are good: refusals 1 and 9

-- "The lent table is 3,072 numbers"
pub record Sizes (c : Chip) : Type 0 where
  pub table : length c.table ≡ 3072

-- Ports 4 and 5 hold an index of two bytes; "C's latched and fetched components in 0..1,023, C's place in the order in
-- 0..2; register 0x000E may hold any byte"
pub record Ranges (s : State) : Type 0 where
  pub index : s.index < 65536
  pub place : s.place < 3
  pub red : s.red < 1024
  pub green : s.green < 1024
  pub fetched_red : s.fetched.red < 1024
  pub fetched_green : s.fetched.green < 1024
  pub fetched_blue : s.fetched.blue < 1024
  pub update : s.update < 256

pub record Good (c : Chip) : Type 0 where
  pub sizes : Sizes c
  pub ranges : Ranges c.state

-- which calls ask that: all but the reset, which reads nothing
abbrev pub Asks : Call → Type 0
Asks (writes port byte) = Unit
Asks (reads port) = Unit
Asks resets = ⊥
Asks (looks place) = Unit

-- ---- A chip with other numbers: index, place in the order and latches; the fetched entry; register 0x000E; the table

abbrev pub at : ℕ → ℕ → ℕ → ℕ → Chip → Chip
at i p r g c = record {
  state = record {
    index = i;
    red = r;
    green = g;
    fetched = c.state.fetched;
    place = p;
    update = c.state.update;
  };
  table = c.table;
}

abbrev pub fetching : Colour → Chip → Chip
fetching f c = record {
  state = record {
    index = c.state.index;
    red = c.state.red;
    green = c.state.green;
    fetched = f;
    place = c.state.place;
    update = c.state.update;
  };
  table = c.table;
}

abbrev pub updating : ℕ → Chip → Chip
updating u c = record {
  state = record {
    index = c.state.index;
    red = c.state.red;
    green = c.state.green;
    fetched = c.state.fetched;
    place = c.state.place;
    update = u;
  };
  table = c.table;
}

abbrev pub with_table : List ℕ → Chip → Chip
with_table t c = record { state = c.state; table = t }

-- ---- The table: entry e is its numbers 3e, 3e + 1 and 3e + 2

abbrev pub storing : ℕ → ℕ → ℕ → ℕ → List ℕ → List ℕ
storing e r g b t = set (set (set t (3 * e) r) (3 * e + 1) g) (3 * e + 2) b

-- "taken modulo 1,024 when read"
abbrev pub entry_of : ℕ → List ℕ → Colour
entry_of e t = record {
  red = get_or t (3 * e) 0 % 1024;
  green = get_or t (3 * e + 1) 0 % 1024;
  blue = get_or t (3 * e + 2) 0 % 1024;
}

-- "8 bits as 4v + floor(v/64) .. port 6 uses the 8-bit rule"
abbrev pub expanded : ℕ → ℕ
expanded v = 4 * v + v / 64

-- "0x4000 to 0x43FF": both of them too
abbrev pub FromTo : ℕ → ℕ → ℕ → Type 0
FromTo first last n = (first ≤ n) × (n ≤ last)

-- ---- Ports 4 and 5, the index

-- "Ports 4 and 5 hold the index's low and high byte and read back."
pub record Index (called : Call → Chip → Outcome Chip) (c : Chip) : Type 0 where
  -- "Writing port 4 does neither": it neither restarts nor fetches
  pub low_write : (b : ℕ) → b < 256
      → let s = c.state in
      called (writes 4 b) c ≡ accepting 0 0 (at (s.index / 256 * 256 + b) s.place s.red s.green c)
  -- "Writing port 5 restarts at red and keeps the latches; if the index is then 0x8000 to 0x83FF", entry e's, "that
  -- entry is fetched."
  pub high_write : (b : ℕ) → b < 256
      → let s = c.state in
      ¬ FromTo 0x8000 0x83FF (b * 256 + s.index % 256)
      → called (writes 5 b) c ≡ accepting 0 0 (at (b * 256 + s.index % 256) 0 s.red s.green c)
  pub high_write_fetches : (b e : ℕ) → b < 256 → e < 1024
      → let s = c.state in
      b * 256 + s.index % 256 ≡ 0x8000 + e
      → called (writes 5 b) c
      ≡ accepting 0 0 (fetching (entry_of e c.table) (at (0x8000 + e) 0 s.red s.green c))
  pub low_read : called (reads 4) c ≡ accepting (c.state.index % 256) 0 c
  pub high_read : called (reads 5) c ≡ accepting (c.state.index / 256) 0 c

-- ---- Port 6, data

-- At the index of entry e in write space: "The table is written at 0x4000 to 0x43FF: red and green are latched, the
-- third write stores all three at the index as it then stands." A fetched entry is a copy: no write here changes it.
-- "After the third access the order restarts, and where register 0x000E enables auto-increment (bit as its page in 001
-- says)", which is bit 1 for writes, at 0, "the offset steps modulo 1,024". "Without it the index" stays.
pub record Write (called : Call → Chip → Outcome Chip) (e : ℕ) (c : Chip) : Type 0 where
  pub red_write : (b : ℕ) → b < 256 → c.state.place ≡ 0
      → called (writes 6 b) c ≡ accepting 0 0 (at (0x4000 + e) 1 (expanded b) c.state.green c)
  pub green_write : (b : ℕ) → b < 256 → c.state.place ≡ 1
      → called (writes 6 b) c ≡ accepting 0 0 (at (0x4000 + e) 2 c.state.red (expanded b) c)
  pub blue_write_steps : (b : ℕ) → b < 256 → c.state.place ≡ 2 → line c.state.update 1 ≡ 0
      → let s = c.state in
      called (writes 6 b) c
      ≡ accepting 0 0
      (with_table (storing e s.red s.green (expanded b) c.table)
      (at (0x4000 + (e + 1) % 1024) 0 s.red s.green c))
  pub blue_write_stays : (b : ℕ) → b < 256 → c.state.place ≡ 2 → line c.state.update 1 ≡ 1
      → let s = c.state in
      called (writes 6 b) c
      ≡ accepting 0 0
      (with_table (storing e s.red s.green (expanded b) c.table) (at (0x4000 + e) 0 s.red s.green c))

-- At the index of entry e in read space: "It is read at 0x8000 to 0x83FF from the fetched entry, as component divided
-- by 4, floored." After the third, by bit 2 for reads, at 0, "the offset steps modulo 1,024 and, in read space, that
-- entry is fetched. Without it the index and the fetched entry stay."
pub record Read (called : Call → Chip → Outcome Chip) (e : ℕ) (c : Chip) : Type 0 where
  pub red_read : c.state.place ≡ 0
      → let s = c.state in
      called (reads 6) c ≡ accepting (s.fetched.red / 4) 0 (at (0x8000 + e) 1 s.red s.green c)
  pub green_read : c.state.place ≡ 1
      → let s = c.state in
      called (reads 6) c ≡ accepting (s.fetched.green / 4) 0 (at (0x8000 + e) 2 s.red s.green c)
  pub blue_read_steps : c.state.place ≡ 2 → line c.state.update 2 ≡ 0
      → let s = c.state in
      let next = (e + 1) % 1024 in
      called (reads 6) c
      ≡ accepting (s.fetched.blue / 4) 0
      (fetching (entry_of next c.table) (at (0x8000 + next) 0 s.red s.green c))
  pub blue_read_stays : c.state.place ≡ 2 → line c.state.update 2 ≡ 1
      → let s = c.state in
      called (reads 6) c ≡ accepting (s.fetched.blue / 4) 0 (at (0x8000 + e) 0 s.red s.green c)

-- ---- A look (P5): the state's places, from 0 on

abbrev pub places : State → List ℕ
places s =
    s.index ∷
    s.place ∷
    s.red ∷
    s.green ∷
    s.fetched.red ∷
    s.fetched.green ∷
    s.fetched.blue ∷
    s.update ∷
    []

-- ---- Every call of a good chip

pub record Accesses (called : Call → Chip → Outcome Chip) (c : Chip) : Type 0 where
  pub index : Index called c
  pub write : (e : ℕ) → e < 1024 → c.state.index ≡ 0x4000 + e → Write called e c
  pub read : (e : ℕ) → e < 1024 → c.state.index ≡ 0x8000 + e → Read called e c
  -- "Register 0x000E is one byte, read and written at its index; that moves nothing."
  pub update_write : (b : ℕ) → b < 256 → c.state.index ≡ 0x000E
      → called (writes 6 b) c ≡ accepting 0 0 (updating b c)
  pub update_read : c.state.index ≡ 0x000E → called (reads 6) c ≡ accepting c.state.update 0 c
  -- 4: "C data access at an index not named above, or against its direction"
  pub no_write : (b : ℕ) → b < 256 → ¬ (c.state.index ≡ 0x000E) → ¬ FromTo 0x4000 0x43FF c.state.index
      → called (writes 6 b) c ≡ refusing 4 0 c
  pub no_read : ¬ (c.state.index ≡ 0x000E) → ¬ FromTo 0x8000 0x83FF c.state.index
      → called (reads 6) c ≡ refusing 4 0 c
  -- 3: "C port not 4 to 6"; 9: an argument outside its range
  pub no_port_lem : (port b : ℕ) → ¬ FromTo 4 6 port → b < 256
      → (called (writes port b) c ≡ refusing 3 0 c) × (called (reads port) c ≡ refusing 3 0 c)
  pub no_byte : (port b : ℕ) → 256 ≤ b → called (writes port b) c ≡ refusing 9 0 c
  -- the places of a look; 3 for a place that isn't there
  pub look_state : (i : ℕ) → i < 8 → called (looks i) c ≡ accepting (get_or (places c.state) i 0) 0 c
  pub look_table : (i : ℕ) → i < 3072 → called (looks (0x10000 + i)) c ≡ accepting (get_or c.table i 0) 0 c
  pub look_nowhere : (place : ℕ) → 8 ≤ place → ¬ FromTo 0x10000 0x10BFF place
      → called (looks place) c ≡ refusing 3 0 c

-- ---- Every call of every chip

pub record Scope (called : Call → Chip → Outcome Chip) : Type 0 where
  -- 1: "a lent table hasn't its length"; 9: "a state outside its stated range"
  pub one : (k : Call) (c : Chip) → Asks k → ¬ Sizes c → called k c ≡ refusing 1 0 c
  pub nine : (k : Call) (c : Chip) → Asks k → Sizes c → ¬ Ranges c.state → called k c ≡ refusing 9 0 c
  -- "Reset zeroes the state and keeps the table."
  pub reset : (c : Chip)
      → called resets c
      ≡ accepting 0 0 (fetching (record { red = 0; green = 0; blue = 0 }) (updating 0 (at 0 0 0 0 c)))
  pub accesses : (c : Chip) → Good c → Accesses called c
