-- WHAT DOCUMENT 01 SAYS OF CHIP B, in its order, words and numbers, as rows: a call, and what it answers and leaves;
-- and of its queue what request P7 says in place of document 01, "with a first position, 0 at reset".
-- It is said of any `called`. Of Ms622424.antt it takes the names of the chip's parts and of its calls, and nothing
-- that they do: who ticks these rows against document 01 need not believe that file. The MS622424 meets them
-- (`scope`), and a chip that meets them is the MS622424 (`scope_determines`), refusals included.
use Rattle.std.specs.Prelude.{ℕ, ◌+◌, ◌*◌, ◌/◌, ◌%◌, ◌^◌, ◌<◌, ◌≤◌, min, ◌≡◌, ◌&&◌, ◌||◌, List, [], ◌∷◌, ◌++◌, eqb, leb, length, get_or, set, take, drop}
use Rattle.vocabulary.specs.Choice.{pick}
use Rattle.vocabulary.specs.Line.{line}
use Rattle.vocabulary.specs.Outcome.{Outcome, accepting, refusing}
use Rattle.ms622424.specs.declared.Port.{Port}
use Rattle.ms622424.specs.declared.Control.{Control}
use Rattle.ms622424.specs.declared.Ident.{Ident}
use Rattle.ms622424.specs.Ms622424.{Chip, Entry, Lent, Call, writes, reads, blanks, pixels, signals, resets, looks}

-- ---- Which chips are good: refusals 1 and 9

-- "The lent map is 24,576 bytes"; the queue is lent too, in 64 places
pub record Sizes (c : Chip) : Type 0 where
  pub places : c.lent.places ≡ 64
  pub map : length c.map ≡ 24576

-- "revision (0..7), board number (0..15)"
pub record IdentRanges (i : Ident) : Type 0 where
  pub revision : i.revision < 8
  pub board : i.board < 16

-- every waiting entry's address is one of the map's
abbrev pub InMap : List Entry → Type 0
InMap [] = Unit
InMap (e ∷ es) = (e.address < 8192) × InMap es

-- "an address below 8,192, counter 0..2, red and green buffer, command register, read mode, .. and a queue of up to 64
-- entries"; 9: "reserved bits .. not zero" (command bits 5..7); P7: "Unused places may now hold anything", and the
-- first position is one of the 64
pub record Ranges (c : Chip) : Type 0 where
  pub address : c.port.address < 8192
  pub counter : c.port.counter < 3
  pub red : c.port.red < 256
  pub green : c.port.green < 256
  pub command : c.control.command < 32
  pub readmode : c.control.readmode < 2
  pub ident : IdentRanges c.ident
  pub few : length c.waiting ≤ 64
  pub in_map : InMap c.waiting
  pub first : c.lent.first < 64

pub record Good (c : Chip) : Type 0 where
  pub sizes : Sizes c
  pub ranges : Ranges c

-- what a call asks of the lent lengths: timing signals and reset are lent the queue and no map
abbrev pub Lends : Call → Chip → Type 0
Lends (writes select byte) c = Sizes c
Lends (reads select) c = Sizes c
Lends (blanks slots) c = Sizes c
Lends (pixels mode word) c = Sizes c
Lends (signals s) c = c.lent.places ≡ 64
Lends resets c = c.lent.places ≡ 64
Lends (looks place) c = Sizes c

-- and of the state: "A reset reads only the part of the state that it keeps, so there 9 covers just B's revision and
-- board number"
abbrev pub Asks : Call → Chip → Type 0
Asks (writes select byte) c = Ranges c
Asks (reads select) c = Ranges c
Asks (blanks slots) c = Ranges c
Asks (pixels mode word) c = Ranges c
Asks (signals s) c = Ranges c
Asks resets c = IdentRanges c.ident
Asks (looks place) c = Ranges c

-- ---- A chip with other numbers: address and counter; the buffer; command and read mode; the queue and the map, and
-- the queue's first position

abbrev pub parts : Port → Control → List Entry → List ℕ → Lent → Chip → Chip
parts port control waiting map lent c = record {
  port = port;
  control = control;
  ident = c.ident;
  waiting = waiting;
  map = map;
  lent = lent;
}

abbrev pub holding : Port → Chip → Chip
holding p c = parts p c.control c.waiting c.map c.lent c

abbrev pub at : ℕ → ℕ → Chip → Chip
at a n c = holding (record { address = a; counter = n; red = c.port.red; green = c.port.green }) c

abbrev pub buffering : ℕ → ℕ → Chip → Chip
buffering r g c = holding (record { address = c.port.address; counter = c.port.counter; red = r; green = g }) c

abbrev pub having : ℕ → ℕ → Chip → Chip
having command mode c =
    parts c.port (record { command = command; readmode = mode }) c.waiting c.map c.lent c

abbrev pub queued : List Entry → List ℕ → ℕ → Chip → Chip
queued waiting map first c =
    parts c.port c.control waiting map (record { places = c.lent.places; first = first }) c

abbrev pub emptied : Chip → Chip
emptied c = queued [] c.map 0 c

-- ---- The queue

-- "Completing puts address and three bytes at the queue's end"
abbrev pub completing : ℕ → ℕ → ℕ → ℕ → Chip → Chip
completing a r g b c =
    queued (c.waiting ++ (record { address = a; red = r; green = g; blue = b } ∷ [])) c.map c.lent.first c

-- an entry in the map, "red first"; entries one after another, the oldest first
abbrev pub storing : Entry → List ℕ → List ℕ
storing e m =
    set (set (set m (3 * e.address) e.red) (3 * e.address + 1) e.green) (3 * e.address + 2) e.blue

unfoldable pub transferring : List Entry → List ℕ → List ℕ
transferring [] m = m
transferring (e ∷ es) m = transferring es (storing e m)

-- the n oldest moved into the map; the first position steps by one, modulo 64, for each
abbrev pub moved : ℕ → Chip → Chip
moved n c =
    queued (drop n c.waiting) (transferring (take n c.waiting) c.map) ((c.lent.first + n) % 64) c

-- ---- Select 2

-- "red, green to buffer; blue completes"; that "sets the counter to 0 and steps the address modulo 8,192"; "Red and
-- green writes .. add 1 to the counter". The n oldest are moved first, and n is reported.
pub record Stores (called : Call → Chip → Outcome Chip) (n : ℕ) (c : Chip) : Type 0 where
  pub red_write : (b : ℕ) → b < 256 → c.port.counter ≡ 0
      → called (writes 2 b) c ≡ accepting 0 n (at c.port.address 1 (buffering b c.port.green (moved n c)))
  pub green_write : (b : ℕ) → b < 256 → c.port.counter ≡ 1
      → called (writes 2 b) c ≡ accepting 0 n (at c.port.address 2 (buffering c.port.red b (moved n c)))
  pub blue_write : (b : ℕ) → b < 256 → c.port.counter ≡ 2
      → let p = c.port in
      called (writes 2 b) c
      ≡ accepting 0 n (at ((p.address + 1) % 8192) 0 (completing p.address p.red p.green b (moved n c)))

-- "component of the map"; "A map read of blue steps likewise. Red and green .. map reads add 1 to the counter."
pub record Fetches (called : Call → Chip → Outcome Chip) (c : Chip) : Type 0 where
  pub red_read : c.port.counter ≡ 0
      → called (reads 2) c ≡ accepting (get_or c.map (3 * c.port.address) 0) 0 (at c.port.address 1 c)
  pub green_read : c.port.counter ≡ 1
      → called (reads 2) c ≡ accepting (get_or c.map (3 * c.port.address + 1) 0) 0 (at c.port.address 2 c)
  pub blue_read : c.port.counter ≡ 2
      → let a = c.port.address in
      called (reads 2) c ≡ accepting (get_or c.map (3 * a + 2) 0) 0 (at ((a + 1) % 8192) 0 c)

-- ---- Status, pixel, timing signals, looks

-- "bits 0, 1 the counter; bit 2 is 0 when the queue is empty; bit 3 is 0 when 32 or more wait (command bit 4 = 0) or
-- 56 or more (= 1); bit 4 is 0 when 64 wait; bits 5..7 are 0"
abbrev pub status : Chip → ℕ
status c =
    let n = length c.waiting in
    c.port.counter +
    4 * pick (eqb n 0) 0 1 +
    8 * pick (leb (pick (eqb (line c.control.command 4) 1) 56 32) n) 0 1 +
    16 * pick (eqb n 64) 0 1

-- the colour on the guns, each from an entry: red in the low byte
abbrev pub on_guns : ℕ → ℕ → ℕ → List ℕ → ℕ
on_guns r g b m = get_or m (3 * r) 0 + 256 * get_or m (3 * g + 1) 0 + 65536 * get_or m (3 * b + 2) 0

-- "each byte picks its own gun's byte at entry .. plus that byte"
abbrev pub Guns : (Call → Chip → Outcome Chip) → ℕ → ℕ → Chip → Type 0
Guns called mode entry c =
    (word : ℕ) → word < 2 ^ 24
    → called (pixels mode word) c
    ≡ accepting (on_guns (entry + word % 256) (entry + word / 256 % 256) (entry + word / 65536) c.map) 0 c

abbrev pub anded : ℕ → ℕ → ℕ
anded x y = pick (eqb x 1 && eqb y 1) 1 0

abbrev pub ored : ℕ → ℕ → ℕ
ored x y = pick (eqb x 1 || eqb y 1) 1 0

-- "the first two are ANDed with command bits 0, 1; the others ORed with bits 2, 3"
abbrev pub timing : ℕ → ℕ → ℕ
timing s command =
    anded (line s 0) (line command 0) +
    2 * anded (line s 1) (line command 1) +
    4 * ored (line s 2) (line command 2) +
    8 * ored (line s 3) (line command 3)

-- the state's places (P5), from 0 on: "queue entries are not places, their count is"
abbrev pub places : Chip → List ℕ
places c =
    c.port.address ∷
    c.port.counter ∷
    c.port.red ∷
    c.port.green ∷
    c.control.command ∷
    c.control.readmode ∷
    c.ident.revision ∷
    c.ident.board ∷
    length c.waiting ∷
    []

-- ---- Every call of a good chip that is lent its map

pub record Accesses (called : Call → Chip → Outcome Chip) (c : Chip) : Type 0 where
  -- Select 0: "address low, counter 0 | address low"
  pub low_write : (b : ℕ) → b < 256
      → called (writes 0 b) c ≡ accepting 0 0 (at (c.port.address / 256 * 256 + b) 0 c)
  pub low_read : called (reads 0) c ≡ accepting (c.port.address % 256) 0 c
  -- Select 1: "low 5 bits to address high, counter 0 | address high"
  pub high_write : (b : ℕ) → b < 256
      → called (writes 1 b) c ≡ accepting 0 0 (at (b % 32 * 256 + c.port.address % 256) 0 c)
  pub high_read : called (reads 1) c ≡ accepting (c.port.address / 256) 0 c
  -- Select 2: "Any accepted write to select 2 that finds 64 waiting first moves the four oldest into the map. The call
  -- reports 4, else 0." 5: "write to 2 in read mode, read of 2 outside it"; 6: "read of 2 with entries waiting"
  pub full : c.control.readmode ≡ 0 → length c.waiting ≡ 64 → Stores called 4 c
  pub roomy : c.control.readmode ≡ 0 → ¬ (length c.waiting ≡ 64) → Stores called 0 c
  pub no_store : (b : ℕ) → b < 256 → c.control.readmode ≡ 1 → called (writes 2 b) c ≡ refusing 5 0 c
  pub map_read : c.control.readmode ≡ 1 → length c.waiting ≡ 0 → Fetches called c
  pub outside_mode : c.control.readmode ≡ 0 → called (reads 2) c ≡ refusing 5 0 c
  pub still_waiting_lem : c.control.readmode ≡ 1 → ¬ (length c.waiting ≡ 0) → called (reads 2) c ≡ refusing 6 0 c
  -- Select 3: "command | command"; "Command bits 5..7 are ignored on write and read 0"
  pub command_write : (b : ℕ) → b < 256
      → called (writes 3 b) c ≡ accepting 0 0 (having (b % 32) c.control.readmode c)
  pub command_read : called (reads 3) c ≡ accepting c.control.command 0 c
  -- Select 4: "refused | status"
  pub status_read : called (reads 4) c ≡ accepting (status c) 0 c
  -- Select 5: "refused | buffer"; "at counter 0 answers red and moves the counter to 1; at 1 it answers green and the
  -- counter stays; at 2 it is refused"
  pub buffer_red : c.port.counter ≡ 0 → called (reads 5) c ≡ accepting c.port.red 0 (at c.port.address 1 c)
  pub buffer_green : c.port.counter ≡ 1 → called (reads 5) c ≡ accepting c.port.green 0 c
  pub buffer_blue : c.port.counter ≡ 2 → called (reads 5) c ≡ refusing 3 0 c
  -- Select 6: "refused | 16 × board + revision"
  pub revision_read : called (reads 6) c ≡ accepting (16 * c.ident.board + c.ident.revision) 0 c
  -- Select 7: "read mode on, data ignored | read mode off, answers 0"
  pub mode_on : (b : ℕ) → b < 256 → called (writes 7 b) c ≡ accepting 0 0 (having c.control.command 1 c)
  pub mode_off : called (reads 7) c ≡ accepting 0 0 (having c.control.command 0 c)
  -- Refusal 3: "select over 7, .. refused access" (writes to 4, 5, 6); 9, which is tried before: no byte
  pub no_write : (select b : ℕ) → 3 < select → select < 7 → b < 256 → called (writes select b) c ≡ refusing 3 0 c
  pub over_seven : (select b : ℕ) → 7 < select → b < 256
      → (called (writes select b) c ≡ refusing 3 0 c) × (called (reads select) c ≡ refusing 3 0 c)
  pub no_byte : (select b : ℕ) → 256 ≤ b → called (writes select b) c ≡ refusing 9 0 c
  -- "Blanking is given a number of slots, 0 to 65,535, moves the oldest entries and reports how many it moved: the
  -- smaller of slots and waiting."
  pub blank : (slots : ℕ) → slots < 65536
      → let n = min slots (length c.waiting) in
      called (blanks slots) c ≡ accepting 0 n (moved n c)
  pub no_blank : (slots : ℕ) → 65536 ≤ slots → called (blanks slots) c ≡ refusing 9 0 c
  -- "Pixel, 24 bits, red in the low byte. Mode 0: the low 13 bits are the entry. Modes 1, 2, 3: .. entry 7,424, 7,680
  -- or 7,936 plus that byte."
  pub mode_0 : (word : ℕ) → word < 2 ^ 24
      → let e = word % 2 ^ 13 in
      called (pixels 0 word) c ≡ accepting (on_guns e e e c.map) 0 c
  pub mode_1 : Guns called 1 7424 c
  pub mode_2 : Guns called 2 7680 c
  pub mode_3 : Guns called 3 7936 c
  pub no_pixel : (mode word : ℕ) → ¬ ((mode < 4) × (word < 2 ^ 24)) → called (pixels mode word) c ≡ refusing 9 0 c
  -- the places of a look: the state's, the queue's first position, and each byte of the map as stored; 3 for a place
  -- that isn't there
  pub look_state : (i : ℕ) → i < 9 → called (looks i) c ≡ accepting (get_or (places c) i 0) 0 c
  pub look_first : called (looks 0xC) c ≡ accepting c.lent.first 0 c
  pub look_map : (i : ℕ) → i < 24576 → called (looks (0x10000 + i)) c ≡ accepting (get_or c.map i 0) 0 c
  pub look_nowhere : (place : ℕ) → 9 ≤ place → ¬ (place ≡ 0xC) → ¬ ((0x10000 ≤ place) × (place < 0x16000))
      → called (looks place) c ≡ refusing 3 0 c

-- ---- Every call of every chip

pub record Scope (called : Call → Chip → Outcome Chip) : Type 0 where
  -- Refusal 1: "a lent table hasn't its length"; 9: "a state .. outside its stated range"
  pub one : (k : Call) (c : Chip) → ¬ Lends k c → called k c ≡ refusing 1 0 c
  pub nine : (k : Call) (c : Chip) → Lends k c → ¬ Asks k c → called k c ≡ refusing 9 0 c
  pub accesses : (c : Chip) → Good c → Accesses called c
  -- "Four timing signals"
  pub signal : (s : ℕ) (c : Chip) → c.lent.places ≡ 64 → Ranges c → s < 16
      → called (signals s) c ≡ accepting (timing s c.control.command) 0 c
  pub no_signal : (s : ℕ) (c : Chip) → c.lent.places ≡ 64 → Ranges c → 16 ≤ s
      → called (signals s) c ≡ refusing 9 0 c
  -- "queue empty, command 0x03, read mode off, address, counter and buffer 0; map, revision and board number kept";
  -- the first position is 0
  pub reset : (c : Chip) → c.lent.places ≡ 64 → IdentRanges c.ident
      → called resets c ≡ accepting 0 0 (at 0 0 (buffering 0 0 (having 0x03 0 (emptied c))))
