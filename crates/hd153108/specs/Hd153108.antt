-- The HD153108, chip A: source document 003, and document 01, "Chip A", where 003 leaves a choice ("ruling").
-- In 003's order: 1 Address Register, 2 Access to CLT/OLT, 3 Internal Registers, pixel selection (Table 4); then
-- reset, the ranges, when a call is refused, and the face, each call whole. A bit named bN in 003 is line N here.
--
-- How to read it (docs/NOTATION.md has more). Under a name stands its type, `f : A → B → C`, from an A and a B to a
-- C, and then what it is, a clause for each case. `s.red` is the part red of s, `record { .. }` a value by its
-- parts, and `data` names a type's values. `x ∷ y ∷ []` is a list, `l ++ m` one behind the other; `get_or l i d` is
-- element i of l, and d where there is none; `take n l` are its first n, `drop n l` the others. Numbers are 0, 1, 2
-- and so on without end; `a / b` is the quotient's floor, `a % b` the remainder, `2 ^ k` a power, `suc n` is n + 1,
-- `zero` 0. `line n k` is bit k of n, 0 or 1. A call's outcome is `accepting value count chip`, with what it leaves;
-- a refusal's row is `refusal when test`, and rows are tried in document 01's order. `abbrev`, `unfoldable`, `pub`
-- and `use` are about proofs and files: read past them. What stands under "Not the chip" says nothing of the
-- HD153108.
use Rattle.std.specs.Prelude.{ℕ, zero, suc, ◌+◌, ◌-◌, ◌*◌, ◌/◌, ◌%◌, ◌^◌, ◌<◌, ◌≡◌, Bool, true, false, List, [], ◌∷◌, ◌++◌, leb, length, get_or, take, drop}
use Rattle.std.specs.Int.Bits.{bit_and}
use Rattle.vocabulary.specs.Line.{line}
use Rattle.vocabulary.specs.Range.{Bound, below, equal, clear, fails}
use Rattle.vocabulary.specs.Refusal.{Row, ◌when◌, refusal_of}
use Rattle.vocabulary.specs.declared.Refusal.TheVariants.{LentLength, OutOfRange, NoAccess}
use Rattle.vocabulary.specs.Outcome.{Outcome, accepting, not_reached, answered}
use Rattle.vocabulary.specs.Component.{Component, red, green, blue, component_at, put, colour_word}
use Rattle.vocabulary.specs.Look.{Block, ◌has◌, ◌holds◌, found, look_refusals, looked}
use Rattle.vocabulary.specs.Face.{called_by}
use Rattle.hd153108.specs.declared.Clock.{Clock}
use Rattle.hd153108.specs.declared.State.{State}
use Rattle.hd153108.specs.declared.Answer.{Answer}

-- The chip: its state, and the two tables that it is lent, three bytes an entry, red first.
pub record Chip : Type 0 where
  pub state : State
  pub colours : List ℕ
  pub overlays : List ℕ

-- the Color Lookup Table (CLT) and the Overlay Table (OLT)
pub data Table : Type 0 where
  colour : Table
  overlay : Table

-- ---- Not the chip: a chip with another part, the rest as it was

abbrev pub chip : State → List ℕ → List ℕ → Chip
chip s colours overlays = record { state = s; colours = colours; overlays = overlays }

abbrev pub table_of : Table → Chip → List ℕ
table_of colour c = c.colours
table_of overlay c = c.overlays

abbrev pub with_table : Table → List ℕ → Chip → Chip
with_table colour t c = chip c.state t c.overlays
with_table overlay t c = chip c.state c.colours t

abbrev pub with_state : State → Chip → Chip
with_state s c = chip s c.colours c.overlays

-- the state with another address, pointer, latched red and latched green
abbrev pub port : State → ℕ → ℕ → ℕ → ℕ → State
port s a p r g = record {
  address = a;
  pointer = p;
  red = r;
  green = g;
  readmask = s.readmask;
  blinkmask = s.blinkmask;
  control = s.control;
  clock = s.clock;
}

-- the state with other registers
abbrev pub registers : State → ℕ → ℕ → ℕ → Clock → State
registers s read blink control k = record {
  address = s.address;
  pointer = s.pointer;
  red = s.red;
  green = s.green;
  readmask = read;
  blinkmask = blink;
  control = control;
  clock = k;
}

-- the chip with another blink clock
abbrev pub with_clock : Clock → Chip → Chip
with_clock k c = let s = c.state in with_state (registers s s.readmask s.blinkmask s.control k) c

-- ---- 1. Address Register

pub data Register : Type 0 where
  address_register : Register
  data_of : Table → Register
  reserved : Register
  read_mask : Register
  blink_mask : Register
  overlay_control : Register
  blink_timing : Register

-- Table 1.1, Register Mapping: selects 0 to 7
abbrev pub register_mapping : List Register
register_mapping =
    address_register ∷
    data_of colour ∷
    reserved ∷
    data_of overlay ∷
    read_mask ∷
    blink_mask ∷
    overlay_control ∷
    blink_timing ∷
    []

unfoldable pub register_at : ℕ → Register
register_at select = get_or register_mapping select reserved

-- Table 2: A0-A1 are the R.G.B pointer (`component_at`), and A2-A9 select the word, $00-$FF of the colours; of the
-- overlays the low two bits do (ruling)
abbrev pub entry_at : Table → ℕ → ℕ
entry_at colour address = address
entry_at overlay address = address % 4

-- how many entries a table has
abbrev pub size : Table → ℕ
size colour = 256
size overlay = 4

-- ---- 2. Access to CLT/OLT

-- "When addresses are written .. A0-A1 are initialized to select R"; the latches are kept (ruling)
abbrev pub addressed : ℕ → State → State
addressed address s = port s address 0 s.red s.green

-- "After access to B, A2-A9 increase by 1": modulo 256; for overlays only the low two bits step, modulo 4 (ruling)
abbrev pub next : Table → ℕ → ℕ
next colour address = (address + 1) % 256
next overlay address = address / 4 * 4 + (address + 1) % 4

-- Table 3: red to green to blue; after blue the pointer is red, and the address is the next. Reads and writes alike.
unfoldable pub stepped : Component → ℕ → State → State
stepped red after s = port s s.address 1 s.red s.green
stepped green after s = port s s.address 2 s.red s.green
stepped blue after s = port s after 0 s.red s.green

-- data writes use the low four bits (ruling)
abbrev pub nibble : ℕ → ℕ
nibble byte = byte % 16

-- "Written data to R and G are latched internally until the data is written to B": one pair of latches (ruling)
unfoldable pub latched : Component → ℕ → State → State
latched red byte s = port s s.address s.pointer (nibble byte) s.green
latched green byte s = port s s.address s.pointer s.red (nibble byte)
latched blue byte s = s

-- "write to R, G and B is taken simultaneously", at the blue write
unfoldable pub stored : Component → ℕ → ℕ → State → List ℕ → List ℕ
stored red entry byte s t = t
stored green entry byte s t = t
stored blue entry byte s t = put entry s.red s.green (nibble byte) t

unfoldable pub data_write : Table → ℕ → Chip → Chip
data_write t byte c =
    let s = c.state in
    let under = component_at s.pointer in
    with_table t (stored under (entry_at t s.address) byte s (table_of t c))
    (with_state (stepped under (next t s.address) (latched under byte s)) c)

-- a read answers the component under the pointer, as the lent byte stands
abbrev pub data_read : Table → Chip → ℕ
data_read t c = get_or (table_of t c) (3 * entry_at t c.state.address + c.state.pointer) 0

-- ---- 3. Internal Registers

-- 1 and 2. What one line reads: 0 where its read mask bit is 1; in the off time 0 where its blink mask bit is 0
-- (ruling); else as it is
unfoldable pub line_reads : Bool → ℕ → ℕ → ℕ → ℕ
line_reads off (suc read) blink x = 0
line_reads true zero zero x = 0
line_reads true zero (suc blink) x = x
line_reads false zero blink x = x

-- so w lines, the lowest last: line k is `line_reads` of the lines k (proofs/Masks.antt, `masked_by_line`)
unfoldable pub masked : ℕ → Bool → ℕ → ℕ → ℕ → ℕ
masked zero off read blink x = 0
masked (suc w) off read blink x =
    masked w off (read / 2) (blink / 2) (x / 2) * 2 + line_reads off (read % 2) (blink % 2) (x % 2)

-- 3. Overlay Control, Table 1.2: b0-b1 read mask and b2-b3 blink mask OLD0-OLD1, b6 enables CLT; b7, b5 and b4 are
-- reserved, ignored on write and read as 0 (ruling)
abbrev pub reserved_bits : ℕ
reserved_bits = 2 ^ 7 + 2 ^ 5 + 2 ^ 4

abbrev pub unreserved : ℕ → ℕ
unreserved byte = bit_and byte (255 - reserved_bits)

-- 4. Blink Timing, Tables 5.1 and 5.2: on for 4(n+1) ticks, n the low four bits; off for 4(m+1), m the high four
abbrev pub on_time : ℕ → ℕ
on_time timing = 4 * (timing % 16 + 1)

abbrev pub off_time : ℕ → ℕ
off_time timing = 4 * (timing / 16 + 1)

abbrev pub period : ℕ → ℕ
period timing = on_time timing + off_time timing

-- the blink clock: the register, and the position in its period, which starts at 0 (on)
abbrev pub clock : ℕ → ℕ → Clock
clock timing position = record { timing = timing; position = position }

unfoldable pub is_off : Clock → Bool
is_off k = leb (on_time k.timing) k.position

-- a timing write restarts it, with an equal value too (ruling)
abbrev pub restarted : ℕ → Clock
restarted timing = clock timing 0

-- each tick adds 1, modulo the period
abbrev pub ticked : Clock → Clock
ticked k = clock k.timing ((k.position + 1) % period k.timing)

-- ---- What an accepted access does to each register (Table 1.1, Table 3)

unfoldable pub written : Register → ℕ → Chip → Outcome Chip
written address_register byte c = accepting 0 0 (with_state (addressed byte c.state) c)
written (data_of t) byte c = accepting 0 0 (data_write t byte c)
written reserved byte c = not_reached c
written read_mask byte c =
    let s = c.state in accepting 0 0 (with_state (registers s byte s.blinkmask s.control s.clock) c)
written blink_mask byte c =
    let s = c.state in accepting 0 0 (with_state (registers s s.readmask byte s.control s.clock) c)
written overlay_control byte c =
    let s = c.state in
    accepting 0 0 (with_state (registers s s.readmask s.blinkmask (unreserved byte) s.clock) c)
written blink_timing byte c = accepting 0 0 (with_clock (restarted byte) c)

-- what a read answers and moves: an address read sets the pointer to red too (Table 3: 00 to A0-A1), a data read steps
-- it
unfoldable pub answers : Register → Chip → Outcome Chip
answers address_register c =
    let s = c.state in accepting s.address 0 (with_state (addressed s.address s) c)
answers (data_of t) c =
    let s = c.state in
    accepting (data_read t c) 0 (with_state (stepped (component_at s.pointer) (next t s.address) s) c)
answers reserved c = not_reached c
answers read_mask c = accepting c.state.readmask 0 c
answers blink_mask c = accepting c.state.blinkmask 0 c
answers overlay_control c = accepting c.state.control 0 c
answers blink_timing c = accepting c.state.clock.timing 0 c

-- ---- Pixel selection

-- Table 4: without enable the colours; with it, where b6 is 1 and the overlay number is 0, the colours too; otherwise
-- the overlays
unfoldable pub selected : ℕ → ℕ → ℕ → Table
selected zero b6 number = colour
selected (suc enable) zero number = overlay
selected (suc enable) (suc b6) zero = colour
selected (suc enable) (suc b6) (suc number) = overlay

-- the overlay number that selects: the given number's two lines, after read mask and blink (OLD0-OLD1, Table 1.2)
abbrev pub overlay_number : ℕ → State → ℕ
overlay_number number s = masked 2 (is_off s.clock) s.control (s.control / 4) number

-- the table of a pixel: that number is tested, not the number as given (request P3, over document 01)
abbrev pub shown_table : ℕ → ℕ → State → Table
shown_table enable number s = selected enable (line s.control 6) (overlay_number number s)

-- its entry: the masked byte's eight lines, or that number
unfoldable pub shown_entry : Table → ℕ → ℕ → State → ℕ
shown_entry colour number byte s = masked 8 (is_off s.clock) s.readmask s.blinkmask byte
shown_entry overlay number byte s = overlay_number number s

-- an entry's three bytes
abbrev pub colour_at : ℕ → List ℕ → List ℕ
colour_at entry t = take 3 (drop (3 * entry) t)

unfoldable pub shown : ℕ → ℕ → ℕ → Chip → List ℕ
shown enable number byte c =
    let t = shown_table enable number c.state in
    colour_at (shown_entry t number byte c.state) (table_of t c)

-- three bytes as one number; where there is none, 0
abbrev pub colour_of : List ℕ → ℕ
colour_of bytes = colour_word (get_or bytes 0 0) (get_or bytes 1 0) (get_or bytes 2 0)

-- ---- Reset

-- every number 0, the blink at the start of its on time
abbrev pub zeroed : State
zeroed = record {
  address = 0;
  pointer = 0;
  red = 0;
  green = 0;
  readmask = 0;
  blinkmask = 0;
  control = 0;
  clock = restarted 0;
}

-- ---- Ranges: what refusals 1 and 9 ask

-- what refusal 1 asks: both tables have their lengths
abbrev pub lengths_of : ℕ → ℕ → List Bound
lengths_of colours overlays = equal colours (3 * size colour) ∷ equal overlays (3 * size overlay) ∷ []

abbrev pub lengths : Chip → List Bound
lengths c = lengths_of (length c.colours) (length c.overlays)

abbrev pub short : Chip → Bool
short c = fails (lengths c)

-- what refusal 9 asks: the blink position lies below its period, ..
abbrev pub clock_ranges : Clock → List Bound
clock_ranges k = below k.timing 256 ∷ below k.position (period k.timing) ∷ []

-- .. an address of 8 bits, a pointer 0..2, latches of 4 bits, registers of 8 bits with no reserved bit set
abbrev pub state_ranges : State → List Bound
state_ranges s =
    below s.address 256 ∷
    below s.pointer 3 ∷
    below s.red 16 ∷
    below s.green 16 ∷
    below s.readmask 256 ∷
    below s.blinkmask 256 ∷
    below s.control 256 ∷
    clear s.control reserved_bits ∷
    clock_ranges s.clock

abbrev pub ranges : Chip → List Bound
ranges c = state_ranges c.state

abbrev pub outside : Chip → Bool
outside c = fails (ranges c)

-- ---- The places of a look (request P5): registers, pointer, latches and blink position, then each table byte

abbrev pub look_places : Chip → List Block
look_places c =
    let s = c.state in
    (0x0 has s.address) ∷
    (0x1 has s.pointer) ∷
    (0x2 has s.red) ∷
    (0x3 has s.green) ∷
    (0x4 has s.readmask) ∷
    (0x5 has s.blinkmask) ∷
    (0x6 has s.control) ∷
    (0x7 has s.clock.timing) ∷
    (0x8 has s.clock.position) ∷
    (0x100 holds c.overlays) ∷
    (0x1000 holds c.colours) ∷
    []

-- ---- When a call is refused

-- a select that has no register, or the reserved one
abbrev pub no_register : Register → Bool
no_register reserved = true
no_register address_register = false
no_register (data_of t) = false
no_register read_mask = false
no_register blink_mask = false
no_register overlay_control = false
no_register blink_timing = false

-- a write or a read, by what it is given besides its select
abbrev pub access_refusals : List Bound → ℕ → Chip → List Row
access_refusals given select c =
    (LentLength when short c) ∷
    (OutOfRange when fails (given ++ ranges c)) ∷
    (NoAccess when no_register (register_at select)) ∷
    []

abbrev pub write_refusals : ℕ → ℕ → Chip → List Row
write_refusals select byte c = access_refusals (below byte 256 ∷ []) select c

abbrev pub read_refusals : ℕ → Chip → List Row
read_refusals select c = access_refusals [] select c

-- a tick asks of the clock alone
abbrev pub tick_refusals : Clock → List Row
tick_refusals k = (OutOfRange when fails (clock_ranges k)) ∷ []

-- a pixel's overlay enable is 0 or 1, and its overlay number 0..3, with the enable off too
abbrev pub pixel_ranges : ℕ → ℕ → List Bound
pixel_ranges enable number = below enable 2 ∷ below number 4 ∷ []

abbrev pub pixel_refusals : ℕ → ℕ → Chip → List Row
pixel_refusals enable number c =
    (LentLength when short c) ∷ (OutOfRange when fails (pixel_ranges enable number ++ ranges c)) ∷ []

-- ---- The face

pub data Call : Type 0 where
  -- select and byte
  writes : ℕ → ℕ → Call
  -- select
  reads : ℕ → Call
  resets : Call
  ticks : Call
  -- overlay enable, overlay number and byte
  pixels : ℕ → ℕ → ℕ → Call
  -- place
  looks : ℕ → Call

-- a reset reads no part of the state, so it is never refused
abbrev pub refusals : Call → Chip → List Row
refusals (writes select byte) c = write_refusals select byte c
refusals (reads select) c = read_refusals select c
refusals resets c = []
refusals ticks c = tick_refusals c.state.clock
refusals (pixels enable number byte) c = pixel_refusals enable number c
refusals (looks place) c = look_refusals (short c) (outside c) (found (look_places c) place)

-- a reset keeps the tables, since it is lent none (ruling); a pixel answers the shown colour and changes nothing
abbrev pub does : Call → Chip → Outcome Chip
does (writes select byte) c = written (register_at select) byte c
does (reads select) c = answers (register_at select) c
does resets c = accepting 0 0 (with_state zeroed c)
does ticks c = accepting 0 0 (with_clock (ticked c.state.clock) c)
does (pixels enable number byte) c = accepting (colour_of (shown enable number byte c)) 0 c
does (looks place) c = looked (found (look_places c) place) c

abbrev pub called : Call → Chip → Outcome Chip
called k c = called_by refusals does k c

-- ---- Not the chip: the ranges as facts, calls by their kind, what the code is lent and answers

-- what `lengths` and `ranges` ask, as facts by name (proofs/InRange.antt: they say the same of a chip)
pub record InRange (c : Chip) : Type 0 where
  pub colours : length c.colours ≡ 3 * size colour
  pub overlays : length c.overlays ≡ 3 * size overlay
  pub address : c.state.address < 256
  pub pointer : c.state.pointer < 3
  pub red : c.state.red < 16
  pub green : c.state.green < 16
  pub readmask : c.state.readmask < 256
  pub blinkmask : c.state.blinkmask < 256
  pub control : c.state.control < 256
  pub nothing_reserved : bit_and c.state.control reserved_bits ≡ 0
  pub timing : c.state.clock.timing < 256
  pub position : c.state.clock.position < period c.state.clock.timing

-- which calls are pixels, and which are looks
abbrev pub is_pixel : Call → Bool
is_pixel (writes select byte) = false
is_pixel (reads select) = false
is_pixel resets = false
is_pixel ticks = false
is_pixel (pixels enable number byte) = true
is_pixel (looks place) = false

abbrev pub is_look : Call → Bool
is_look (writes select byte) = false
is_look (reads select) = false
is_look resets = false
is_look ticks = false
is_look (pixels enable number byte) = false
is_look (looks place) = true

-- an answer that refuses, and one that accepts
abbrev pub refuse : ℕ → State → Answer
refuse n s = record { refusal = n; value = 0; state = s }

abbrev pub accept : ℕ → State → Answer
accept value s = record { refusal = 0; value = value; state = s }

-- an answer and the lent tables as they are after the call, as an outcome
abbrev pub outcome : Answer → List ℕ → List ℕ → Outcome Chip
outcome a colours overlays = record {
  refusal = a.refusal;
  value = a.value;
  count = 0;
  line = 0;
  left = chip a.state colours overlays;
}

-- two calls by the part that the code is lent (proofs/Lent.antt: they are the chip's): a tick of a clock, ..
unfoldable pub tick : Clock → Outcome Clock
tick k = answered (refusal_of (tick_refusals k)) k (accepting 0 0 (ticked k))

abbrev pub clock_outcome : ℕ → Clock → Outcome Clock
clock_outcome refusal k = record { refusal = refusal; value = 0; count = 0; line = 0; left = k }

-- .. and a pixel that hands back the three bytes of the chosen table, and where it is refused no byte
unfoldable pub pixel_part : ℕ → ℕ → ℕ → Chip → Outcome (List ℕ)
pixel_part enable number byte c =
    answered (refusal_of (pixel_refusals enable number c)) [] (accepting 0 0 (shown enable number byte c))

-- the chip's outcomes of those two: with the clock put back into its chip, ..
abbrev pub put_back : Outcome Clock → Chip → Outcome Chip
put_back o c = record {
  refusal = o.refusal;
  value = o.value;
  count = o.count;
  line = o.line;
  left = with_clock o.left c;
}

-- .. and with the bytes told as a colour
abbrev pub told : Outcome (List ℕ) → Chip → Outcome Chip
told o c = record { refusal = o.refusal; value = colour_of o.left; count = o.count; line = o.line; left = c }

-- two chips with equal tables
pub record SameTables (c d : Chip) : Type 0 where
  pub colours : d.colours ≡ c.colours
  pub overlays : d.overlays ≡ c.overlays
