-- The MS622424, 8,192 colours behind a write queue: source document 004, in its order, and document 01, "Chip B".
-- 004's words are "FIFO" for the queue and "RGB counter" for the counter. "ruling" marks what 004 leaves open. A bit
-- named CBn or SBn in 004 is bit n here. How a caller keeps the chip, in which bytes, is not said here:
-- ms622424_places says it.
--
-- How to read it (docs/NOTATION.md has more). Under a name stands its type, `f : A → B → C`, from an A and a B to a
-- C, and then what it is, a clause for each case. `p.red` is the part red of p, `record { .. }` a value by its
-- parts, and `data` names a type's values. `x ∷ y ∷ []` is a list, `l ++ m` one behind the other; `get_or l i d` is
-- element i of l, and d where there is none. Numbers are 0, 1, 2 and so on without end; `a / b` is the quotient's
-- floor, `a % b` the remainder, `2 ^ k` a power, `suc n` is n + 1, `zero` 0. `line n k` is bit k of n, 0 or 1; `pick
-- test a b` is a where the test holds, else b. A call's outcome is `accepting value count chip`, with what it leaves;
-- a refusal's row is `refusal when test`, and rows are tried in document 01's order. `abbrev`, `unfoldable`, `pub`
-- and `use` are about proofs and files: read past them. What stands under "Not the chip" says nothing of the
-- MS622424.
use Rattle.std.specs.Prelude.{ℕ, zero, suc, ◌+◌, ◌*◌, ◌/◌, ◌%◌, ◌^◌, ◌<◌, min, max, ◌≡◌, Bool, true, false, not, ◌&&◌, List, [], ◌∷◌, ◌++◌, ltb, leb, eqb, length, get_or}
use Rattle.vocabulary.specs.Choice.{pick}
use Rattle.vocabulary.specs.Range.{Bound, below, equal, tested, fails}
use Rattle.vocabulary.specs.Refusal.{Row, ◌when◌}
use Rattle.vocabulary.specs.declared.Refusal.TheVariants.{LentLength, OutOfRange, NoAccess, ReadMode, StillWaiting}
use Rattle.vocabulary.specs.Outcome.{Outcome, accepting, unreached, not_reached}
use Rattle.vocabulary.specs.Component.{Component, red, green, blue, component_at, part, one_of, put, colour_word}
use Rattle.vocabulary.specs.Every.{every}
use Rattle.vocabulary.specs.Line.{line}
use Rattle.vocabulary.specs.Look.{Block, ◌has◌, ◌holds◌, found, look_refusals, looked}
use Rattle.vocabulary.specs.Face.{called_by}
use Rattle.ms622424.specs.declared.Port.{Port}
use Rattle.ms622424.specs.declared.Control.{Control}
use Rattle.ms622424.specs.declared.Ident.{Ident}

-- ---- The chip: registers, Write FIFO, color map

-- Write FIFO: "locations that contain a 13-bit address and a 24-bit color"
pub record Entry : Type 0 where
  pub address : ℕ
  pub red : ℕ
  pub green : ℕ
  pub blue : ℕ

-- the queue's places, a ring (request P7): how many are lent, and the first position, that of the oldest entry
pub record Lent : Type 0 where
  pub places : ℕ
  pub first : ℕ

pub record Chip : Type 0 where
  pub port : Port
  pub control : Control
  pub ident : Ident
  -- THE WAITING COLOURS, the oldest first
  pub waiting : List Entry
  -- 8,192 entries of three bytes, red first
  pub map : List ℕ
  -- (not the chip's: how the caller's 64 places stand)
  pub lent : Lent

-- ---- Not the chip: a chip with another part, the rest as it was

abbrev pub chip : Port → Control → Ident → List Entry → List ℕ → Lent → Chip
chip p d i waiting map lent = record {
  port = p;
  control = d;
  ident = i;
  waiting = waiting;
  map = map;
  lent = lent;
}

abbrev pub with_port : Port → Chip → Chip
with_port p c = chip p c.control c.ident c.waiting c.map c.lent

abbrev pub with_control : Control → Chip → Chip
with_control d c = chip c.port d c.ident c.waiting c.map c.lent

abbrev pub with_queue : List Entry → List ℕ → Chip → Chip
with_queue waiting map c = chip c.port c.control c.ident waiting map c.lent

abbrev pub with_first : ℕ → Chip → Chip
with_first n c =
    chip c.port c.control c.ident c.waiting c.map (record { places = c.lent.places; first = n })

abbrev pub port : ℕ → ℕ → ℕ → ℕ → Port
port address counter r g = record { address = address; counter = counter; red = r; green = g }

abbrev pub control : ℕ → ℕ → Control
control command readmode = record { command = command; readmode = readmode }

-- ---- Ranges: what refusals 1 and 9 ask

abbrev pub places : ℕ
places = 64

abbrev pub entries : ℕ
entries = 8192

-- the queue that every call is lent, and the map that most are lent with it
abbrev pub queue_lengths : Chip → List Bound
queue_lengths c = equal c.lent.places places ∷ []

abbrev pub lengths : Chip → List Bound
lengths c = equal c.lent.places places ∷ equal (length c.map) (3 * entries) ∷ []

abbrev pub short_queue : Chip → Bool
short_queue c = fails (queue_lengths c)

abbrev pub short : Chip → Bool
short c = fails (lengths c)

abbrev pub is_in_map : Entry → Bool
is_in_map e = ltb e.address entries

-- what a reset reads
abbrev pub ident_ranges : Ident → List Bound
ident_ranges i = below i.revision 8 ∷ below i.board 16 ∷ []

-- the first position is a place, no more than 64 colours wait, and every waiting address is one of the map's
abbrev pub queue_ranges : Chip → List Bound
queue_ranges c =
    below c.lent.first places ∷
    below (length c.waiting) (places + 1) ∷
    tested (every is_in_map c.waiting) ∷
    []

-- command bits 5 to 7 are zero; read mode is 0 or 1
abbrev pub ranges : Chip → List Bound
ranges c =
    below c.port.address entries ∷
    below c.port.counter 3 ∷
    below c.port.red 256 ∷
    below c.port.green 256 ∷
    below c.control.command (2 ^ 5) ∷
    below c.control.readmode 2 ∷
    (ident_ranges c.ident ++ queue_ranges c)

abbrev pub outside : Chip → Bool
outside c = fails (ranges c)

-- ---- MPU Access Modes: CONFIGSEL<2:0>

pub data Register : Type 0 where
  address_low : Register
  address_high : Register
  palette : Register
  command : Register
  status : Register
  buffer : Register
  revision : Register
  initialization : Register
  none : Register

abbrev pub access_modes : List Register
access_modes = address_low ∷ address_high ∷ palette ∷ command ∷ status ∷ buffer ∷ revision ∷ initialization ∷ []

unfoldable pub register_at : ℕ → Register
register_at select = get_or access_modes select none

-- RGB counter, "which color (red, green, or blue, in that order) is selected"
abbrev pub selected : Port → Component
selected p = component_at p.counter

-- a palette access moves the counter, and after blue the address, modulo 8,192 (ruling)
unfoldable pub stepped : Component → Port → Port
stepped red p = port p.address 1 p.red p.green
stepped green p = port p.address 2 p.red p.green
stepped blue p = port ((p.address + 1) % entries) 0 p.red p.green

-- ---- Write FIFO: completing, and the moves into the color map

-- the entry that a blue byte completes
abbrev pub completed : Port → ℕ → Entry
completed p byte = record { address = p.address; red = p.red; green = p.green; blue = byte }

-- the map with an entry stored, and with a list of them, the first one first
abbrev pub stored : Entry → List ℕ → List ℕ
stored e m = put e.address e.red e.green e.blue m

unfoldable pub all_stored : List Entry → List ℕ → List ℕ
all_stored [] m = m
all_stored (e ∷ es) m = all_stored es (stored e m)

-- "transfer register contents to Write FIFO": the entry goes to the queue's end
unfoldable pub complete : Entry → Chip → Chip
complete e c = with_queue (c.waiting ++ (e ∷ [])) c.map c

-- THE MOVES of blanking and of the forced transfer: how many, and the chip after them
pub record Moves : Type 0 where
  pub count : ℕ
  pub after : Chip

abbrev pub made : ℕ → Chip → Moves
made count after = record { count = count; after = after }

-- the first position steps by one, modulo 64, for each entry moved
abbrev pub next_first : ℕ → ℕ
next_first n = (n + 1) % places

-- each slot moves the oldest waiting entry, if one waits, into the map
unfoldable pub slotted : ℕ → List Entry → Chip → Moves
slotted zero es c = made 0 (with_queue es c.map c)
slotted (suc slots) [] c = made 0 (with_queue [] c.map c)
slotted (suc slots) (e ∷ es) c =
    let m = slotted slots es (with_queue es (stored e c.map) (with_first (next_first c.lent.first) c)) in
    made (m.count + 1) m.after

unfoldable pub moves : ℕ → Chip → Moves
moves slots c = slotted slots c.waiting c

-- "transfer 4 locations from the FIFO to the color map in order to make room for the incoming data"
unfoldable pub room_made : Chip → Moves
room_made c = pick (eqb (length c.waiting) places) (moves 4 c) (made 0 c)

-- ---- Truth Table, R/WB 0: a write

-- which registers can be written
unfoldable pub writable : Register → Bool
writable address_low = true
writable address_high = true
writable palette = true
writable command = true
writable status = false
writable buffer = false
writable revision = false
writable initialization = true
writable none = false

-- a byte for the palette: red and green go to the Color Buffer Register, blue completes
unfoldable pub taken : Component → ℕ → Chip → Chip
taken red byte c = let p = c.port in with_port (stepped red (port p.address p.counter byte p.green)) c
taken green byte c = let p = c.port in with_port (stepped green (port p.address p.counter p.red byte)) c
taken blue byte c = let p = c.port in with_port (stepped blue p) (complete (completed p byte) c)

-- what an accepted write does: value 0, and as its count the moves that made room
unfoldable pub written : Register → ℕ → Chip → Outcome Chip
-- the address registers reset the counter; of the high one the low five bits count (note 1)
written address_low byte c =
    let p = c.port in
    accepting 0 0 (with_port (port (p.address / 256 * 256 + byte) 0 p.red p.green) c)
written address_high byte c =
    let p = c.port in
    accepting 0 0 (with_port (port (byte % 2 ^ 5 * 256 + p.address % 256) 0 p.red p.green) c)
-- a full queue makes room first, whatever the counter
written palette byte c = let m = room_made c in accepting 0 m.count (taken (selected c.port) byte m.after)
-- command bits 5 to 7 are ignored (ruling)
written command byte c = accepting 0 0 (with_control (control (byte % 2 ^ 5) c.control.readmode) c)
written status byte c = not_reached c
written buffer byte c = not_reached c
written revision byte c = not_reached c
-- "Initialize color palette read"
written initialization byte c = accepting 0 0 (with_control (control c.control.command 1) c)
written none byte c = not_reached c

abbrev pub write_refusals : ℕ → ℕ → Chip → List Row
write_refusals select byte c =
    (LentLength when short c) ∷
    (OutOfRange when fails (below byte 256 ∷ ranges c)) ∷
    (NoAccess when not (writable (register_at select))) ∷
    (ReadMode when (eqb select 2 && eqb c.control.readmode 1)) ∷
    []

-- ---- Internal Registers

-- a flag of the status register at its bit: active low
abbrev pub active_low : ℕ → Bool → ℕ
active_low bit flag = pick flag 0 (2 ^ bit)

-- CB4: "at least half full or at least 7/8 full (eight or fewer empty locations left)"
unfoldable pub mark : Control → ℕ
mark d = pick (eqb (line d.command 4) 0) 32 56

-- SB0, SB1 the counter; SB2 empty; SB3 half or almost full; SB4 full; SB5 to SB7 are 0 (ruling); n entries wait
unfoldable pub status_of : ℕ → ℕ → Control → ℕ
status_of counter n d =
    counter + active_low 2 (eqb n 0) + active_low 3 (leb (mark d) n) + active_low 4 (eqb n places)

unfoldable pub status_byte : Chip → ℕ
status_byte c = status_of c.port.counter (length c.waiting) c.control

-- Color Buffer Register: red, then green; there is no blue, and its read at blue is refused
unfoldable pub buffer_byte : Component → Port → ℕ
buffer_byte red p = p.red
buffer_byte green p = p.green
buffer_byte blue p = unreached 0

-- its red read increments the counter, its green read does not
unfoldable pub buffer_stepped : Component → Port → Port
buffer_stepped red p = stepped red p
buffer_stepped green p = p
buffer_stepped blue p = unreached p

-- ---- Truth Table, R/WB 1: a read

-- which registers can be read: all, but the Color Buffer Register only at red and green
unfoldable pub readable : Register → Component → Bool
readable address_low k = true
readable address_high k = true
readable palette k = true
readable command k = true
readable status k = true
readable buffer red = true
readable buffer green = true
readable buffer blue = false
readable revision k = true
readable initialization k = true
readable none k = false

-- what an accepted read answers and moves; it reports no moves
unfoldable pub answers : Register → Chip → Outcome Chip
answers address_low c = accepting (c.port.address % 256) 0 c
answers address_high c = accepting (c.port.address / 256) 0 c
answers palette c =
    let p = c.port in
    accepting (get_or c.map (3 * p.address + p.counter) 0) 0 (with_port (stepped (selected p) p) c)
answers command c = accepting c.control.command 0 c
answers status c = accepting (status_byte c) 0 c
answers buffer c =
    let k = selected c.port in
    accepting (buffer_byte k c.port) 0 (with_port (buffer_stepped k c.port) c)
answers revision c = accepting (16 * c.ident.board + c.ident.revision) 0 c
-- "Terminate color palette read"
answers initialization c = accepting 0 0 (with_control (control c.control.command 0) c)
answers none c = not_reached c

abbrev pub read_refusals : ℕ → Chip → List Row
read_refusals select c =
    (LentLength when short c) ∷
    (OutOfRange when outside c) ∷
    (NoAccess when not (readable (register_at select) (selected c.port))) ∷
    (ReadMode when (eqb select 2 && eqb c.control.readmode 0)) ∷
    (StillWaiting when (eqb select 2 && not (eqb (length c.waiting) 0))) ∷
    []

-- ---- CBLANKB: "it is therefore permissible to change data in the palette RAM"

-- each slot moves the oldest entry, if one waits; the count is of the moves (read mode or not: ruling)
abbrev pub blanked : ℕ → Chip → Outcome Chip
blanked slots c = let m = moves slots c in accepting 0 m.count m.after

abbrev pub blank_refusals : ℕ → Chip → List Row
blank_refusals slots c =
    (LentLength when short c) ∷ (OutOfRange when fails (below slots 65536 ∷ ranges c)) ∷ []

-- ---- PIXIN0–PIXIN23, PIX.RGB0–PIX.RGB1: a pixel

-- the byte of the pixel that a gun has: red in the low one
unfoldable pub pixel_byte : Component → ℕ → ℕ
pixel_byte k word = one_of k (word % 256) (word / 256 % 256) (word / 65536)

-- the entry whose byte a gun shows: the low 13 bits; or 11101, 11110 or 11111 before the gun's own 8
unfoldable pub entry_shown : ℕ → ℕ → Component → ℕ
entry_shown zero word k = word % entries
entry_shown (suc mode) word k = get_or (7424 ∷ 7680 ∷ 7936 ∷ []) mode 0 + pixel_byte k word

unfoldable pub gun_shown : ℕ → ℕ → List ℕ → Component → ℕ
gun_shown mode word m k = get_or m (3 * entry_shown mode word k + part k) 0

-- the value is the colour on the 24 output lines, POUT0–POUT23; a pixel changes nothing
abbrev pub shown : ℕ → ℕ → Chip → Outcome Chip
shown mode word c =
    let gun = gun_shown mode word c.map in
    accepting (colour_word (gun red) (gun green) (gun blue)) 0 c

abbrev pub pixel_refusals : ℕ → ℕ → Chip → List Row
pixel_refusals mode word c =
    (LentLength when short c) ∷ (OutOfRange when fails (below mode 4 ∷ below word (2 ^ 24) ∷ ranges c)) ∷ []

-- ---- PIPE.IN0–PIPE.IN3: the four timing signals

-- PIPE.OUT0 and 1 are ANDed with CB0 and CB1, PIPE.OUT2 and 3 ORed with CB2 and CB3
unfoldable pub pipe_out : ℕ → ℕ → ℕ
pipe_out cb s =
    min (line s 0) (line cb 0) +
    2 * min (line s 1) (line cb 1) +
    4 * max (line s 2) (line cb 2) +
    8 * max (line s 3) (line cb 3)

-- they are lent no map
abbrev pub signal_refusals : ℕ → Chip → List Row
signal_refusals s c = (LentLength when short_queue c) ∷ (OutOfRange when fails (below s 16 ∷ ranges c)) ∷ []

-- ---- RSB: reset

-- "resets command register bits CB2–CB7 and sets bits CB0–CB1"; queue empty, its first position 0; map, revision and
-- board number kept
abbrev pub fresh : Chip → Chip
fresh c = chip (port 0 0 0 0) (control 3 0) c.ident [] c.map (record { places = c.lent.places; first = 0 })

-- a reset is lent no map, and reads revision and board number alone
abbrev pub reset_refusals : Chip → List Row
reset_refusals c = (LentLength when short_queue c) ∷ (OutOfRange when fails (ident_ranges c.ident)) ∷ []

-- ---- The places of a look (request P5): the registers, how many colours wait, the queue's first position, and each
-- byte of the map as stored

abbrev pub look_places : Chip → List Block
look_places c =
    (0x0 has c.port.address) ∷
    (0x1 has c.port.counter) ∷
    (0x2 has c.port.red) ∷
    (0x3 has c.port.green) ∷
    (0x4 has c.control.command) ∷
    (0x5 has c.control.readmode) ∷
    (0x6 has c.ident.revision) ∷
    (0x7 has c.ident.board) ∷
    (0x8 has length c.waiting) ∷
    (0xC has c.lent.first) ∷
    (0x10000 holds c.map) ∷
    []

-- ---- The face: all calls, when each is refused, and what it does where it is accepted

pub data Call : Type 0 where
  writes : ℕ → ℕ → Call
  reads : ℕ → Call
  blanks : ℕ → Call
  pixels : ℕ → ℕ → Call
  signals : ℕ → Call
  resets : Call
  -- place
  looks : ℕ → Call

abbrev pub refusals : Call → Chip → List Row
refusals (writes select byte) c = write_refusals select byte c
refusals (reads select) c = read_refusals select c
refusals (blanks slots) c = blank_refusals slots c
refusals (pixels mode word) c = pixel_refusals mode word c
refusals (signals s) c = signal_refusals s c
refusals resets c = reset_refusals c
refusals (looks place) c = look_refusals (short c) (outside c) (found (look_places c) place)

abbrev pub does : Call → Chip → Outcome Chip
does (writes select byte) c = written (register_at select) byte c
does (reads select) c = answers (register_at select) c
does (blanks slots) c = blanked slots c
does (pixels mode word) c = shown mode word c
does (signals s) c = accepting (pipe_out c.control.command s) 0 c
does resets c = accepting 0 0 (fresh c)
does (looks place) c = looked (found (look_places c) place) c

abbrev pub called : Call → Chip → Outcome Chip
called k c = called_by refusals does k c

-- ---- Not the chip: calls by their kind, and the ranges as facts

-- which calls are pixels, signals, looks
abbrev pub is_pixel : Call → Bool
is_pixel (writes select byte) = false
is_pixel (reads select) = false
is_pixel (blanks slots) = false
is_pixel (pixels mode word) = true
is_pixel (signals s) = false
is_pixel resets = false
is_pixel (looks place) = false

abbrev pub is_signals : Call → Bool
is_signals (writes select byte) = false
is_signals (reads select) = false
is_signals (blanks slots) = false
is_signals (pixels mode word) = false
is_signals (signals s) = true
is_signals resets = false
is_signals (looks place) = false

abbrev pub is_look : Call → Bool
is_look (writes select byte) = false
is_look (reads select) = false
is_look (blanks slots) = false
is_look (pixels mode word) = false
is_look (signals s) = false
is_look resets = false
is_look (looks place) = true

-- what `lengths` and `ranges` ask, as facts by name (proofs/InRange.antt: they say the same of a chip)
pub record InRange (c : Chip) : Type 0 where
  pub address : c.port.address < entries
  pub counter : c.port.counter < 3
  pub red : c.port.red < 256
  pub green : c.port.green < 256
  pub command : c.control.command < 32
  pub readmode : c.control.readmode < 2
  pub revision : c.ident.revision < 8
  pub board : c.ident.board < 16
  pub first : c.lent.first < places
  pub few : length c.waiting < places + 1
  pub in_map : every is_in_map c.waiting ≡ true
  pub size : length c.map ≡ 3 * entries
  pub places : c.lent.places ≡ places
