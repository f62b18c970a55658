-- WHAT DOCUMENT 01 SAYS OF CHIP A, in its order, words and numbers, as rows: a call, and what it answers and leaves.
-- It is said of any `called`. Of Hd153108.antt it takes the names of the chip's parts and of its calls, and nothing
-- that they do: who ticks these rows against document 01 need not believe that file. The HD153108 meets them
-- (`scope`), and any chip that meets them is the HD153108 (`scope_determines`), refusals included.
use Rattle.std.specs.Prelude.{ℕ, zero, suc, ◌+◌, ◌*◌, ◌/◌, ◌%◌, ◌^◌, ◌<◌, ◌≤◌, ◌≡◌, ◌&&◌, ◌||◌, List, [], ◌∷◌, eqb, leb, length, get_or, set}
use Rattle.vocabulary.specs.Choice.{pick}
use Rattle.vocabulary.specs.Line.{line}
use Rattle.vocabulary.specs.Outcome.{Outcome, accepting, refusing}
use Rattle.hd153108.specs.declared.Clock.{Clock}
use Rattle.hd153108.specs.declared.State.{State}
use Rattle.hd153108.specs.Hd153108.{Chip, Call, writes, reads, resets, ticks, pixels, looks}

-- ---- Which chips are good: refusals 1 and 9

-- "The lent tables are 768 bytes (colours) and 12 bytes (overlays)"
pub record Sizes (c : Chip) : Type 0 where
  pub colours : length c.colours ≡ 768
  pub overlays : length c.overlays ≡ 12

-- "on for 4(n+1) ticks, n the low four bits; off for 4(m+1), m the high four"
abbrev pub on_ticks : Clock → ℕ
on_ticks k = 4 * (k.timing % 16 + 1)

abbrev pub off_ticks : Clock → ℕ
off_ticks k = 4 * (k.timing / 16 + 1)

-- "blink position not below its period"
pub record ClockRanges (k : Clock) : Type 0 where
  pub timing : k.timing < 256
  pub position : k.position < on_ticks k + off_ticks k

-- "an address of 8 bits, a pointer 0..2, latched red and green, four registers and the blink position"; "A's latches
-- lie in 0..15"; reserved bits zero
pub record Ranges (s : State) : Type 0 where
  pub address : s.address < 256
  pub pointer : s.pointer < 3
  pub red : s.red < 16
  pub green : s.green < 16
  pub readmask : s.readmask < 256
  pub blinkmask : s.blinkmask < 256
  pub control : s.control < 256
  pub bit_7 : line s.control 7 ≡ 0
  pub bit_5 : line s.control 5 ≡ 0
  pub bit_4 : line s.control 4 ≡ 0
  pub clock : ClockRanges s.clock

pub record Good (c : Chip) : Type 0 where
  pub sizes : Sizes c
  pub ranges : Ranges c.state

-- which calls ask that: all but the reset, which reads nothing, and the tick, which is lent the clock alone
abbrev pub Asks : Call → Type 0
Asks (writes select byte) = Unit
Asks (reads select) = Unit
Asks resets = ⊥
Asks ticks = ⊥
Asks (pixels enable number byte) = Unit
Asks (looks place) = Unit

-- ---- A chip with other numbers: address, pointer and latches; the registers and the blink position; the tables

abbrev pub at : ℕ → ℕ → ℕ → ℕ → Chip → Chip
at a p r g c = record {
  state = record {
    address = a;
    pointer = p;
    red = r;
    green = g;
    readmask = c.state.readmask;
    blinkmask = c.state.blinkmask;
    control = c.state.control;
    clock = c.state.clock;
  };
  colours = c.colours;
  overlays = c.overlays;
}

abbrev pub having : ℕ → ℕ → ℕ → ℕ → ℕ → Chip → Chip
having read blink control timing position c = record {
  state = record {
    address = c.state.address;
    pointer = c.state.pointer;
    red = c.state.red;
    green = c.state.green;
    readmask = read;
    blinkmask = blink;
    control = control;
    clock = record { timing = timing; position = position };
  };
  colours = c.colours;
  overlays = c.overlays;
}

abbrev pub with_colours : List ℕ → Chip → Chip
with_colours t c = record { state = c.state; colours = t; overlays = c.overlays }

abbrev pub with_overlays : List ℕ → Chip → Chip
with_overlays t c = record { state = c.state; colours = c.colours; overlays = t }

-- "three bytes an entry, red first"
abbrev pub storing : ℕ → ℕ → ℕ → ℕ → List ℕ → List ℕ
storing e r g b t = set (set (set t (3 * e) r) (3 * e + 1) g) (3 * e + 2) b

-- ---- The tables' data

-- A table's data, by its select, an address's entry, the address after blue, and its bytes. "Data writes use the low
-- four bits. Red and green are latched; a blue write stores the latches and the blue. A data read answers the
-- component under the pointer as the lent byte stands. Reads and writes move the pointer alike. After blue the pointer
-- is red and the address steps."
pub record Data (called : Call → Chip → Outcome Chip) (select : ℕ) (entry next : ℕ → ℕ) (bytes : Chip → List ℕ)
    (with : List ℕ → Chip → Chip) (c : Chip) : Type 0 where
  pub red_write : (b : ℕ) → b < 256 → c.state.pointer ≡ 0
      → called (writes select b) c ≡ accepting 0 0 (at c.state.address 1 (b % 16) c.state.green c)
  pub green_write : (b : ℕ) → b < 256 → c.state.pointer ≡ 1
      → called (writes select b) c ≡ accepting 0 0 (at c.state.address 2 c.state.red (b % 16) c)
  pub blue_write : (b : ℕ) → b < 256 → c.state.pointer ≡ 2
      → let s = c.state in
      called (writes select b) c
      ≡ accepting 0 0
      (with (storing (entry s.address) s.red s.green (b % 16) (bytes c))
      (at (next s.address) 0 s.red s.green c))
  pub red_read : c.state.pointer ≡ 0
      → let s = c.state in
      called (reads select) c
      ≡ accepting (get_or (bytes c) (3 * entry s.address) 0) 0 (at s.address 1 s.red s.green c)
  pub green_read : c.state.pointer ≡ 1
      → let s = c.state in
      called (reads select) c
      ≡ accepting (get_or (bytes c) (3 * entry s.address + 1) 0) 0 (at s.address 2 s.red s.green c)
  pub blue_read : c.state.pointer ≡ 2
      → let s = c.state in
      called (reads select) c
      ≡ accepting (get_or (bytes c) (3 * entry s.address + 2) 0) 0 (at (next s.address) 0 s.red s.green c)

-- ---- The registers

-- a register, by its select: what a read answers, moving nothing, and what a write of a byte leaves
pub record Register (called : Call → Chip → Outcome Chip) (select : ℕ) (told : ℕ) (set : ℕ → Chip) (c : Chip) : Type 0
  where
    pub write : (b : ℕ) → b < 256 → called (writes select b) c ≡ accepting 0 0 (set b)
    pub read : called (reads select) c ≡ accepting told 0 c

-- "Overlay control bits 7, 5 and 4 are ignored on write": bits 0 to 3 and 6 are kept
abbrev pub control_of : ℕ → ℕ
control_of b = line b 0 + 2 * line b 1 + 4 * line b 2 + 8 * line b 3 + 64 * line b 6

-- ---- The pixel

-- "A line whose read mask bit is 1 reads 0; in the off time a line whose blink mask bit is 0 reads 0"
abbrev pub seen : State → ℕ → ℕ → ℕ → ℕ
seen s read blink x = pick (eqb read 1 || (leb (on_ticks s.clock) s.clock.position && eqb blink 0)) 0 x

-- the number of n lines
unfoldable pub of_lines : ℕ → (ℕ → ℕ) → ℕ
of_lines zero l = 0
of_lines (suc n) l = of_lines n l + 2 ^ n * l n

abbrev pub byte_seen : ℕ → State → ℕ
byte_seen byte s = of_lines 8 (λ k. seen s (line s.readmask k) (line s.blinkmask k) (line byte k))

-- "Overlay control bits 0, 1 mask and bits 2, 3 blink mask the overlay lines alike."
abbrev pub number_seen : ℕ → State → ℕ
number_seen number s = of_lines 2 (λ k. seen s (line s.control k) (line s.control (k + 2)) (line number k))

-- red in the low byte
abbrev pub colour_at : ℕ → List ℕ → ℕ
colour_at e t = get_or t (3 * e) 0 + 256 * get_or t (3 * e + 1) 0 + 65536 * get_or t (3 * e + 2) 0

-- "Without enable, the colour at the masked byte shows. With enable, if bit 6 is 1 and the overlay number" (as masked:
-- request P3) "is 0, the colour shows too; otherwise the masked overlay number's entry."
abbrev pub shown : ℕ → ℕ → ℕ → Chip → ℕ
shown enable number byte c =
    let s = c.state in
    pick (eqb enable 0 || (eqb (line s.control 6) 1 && eqb (number_seen number s) 0))
    (colour_at (byte_seen byte s) c.colours) (colour_at (number_seen number s) c.overlays)

-- ---- A look (P5): the state's places, from 0 on

abbrev pub places : State → List ℕ
places s =
    s.address ∷
    s.pointer ∷
    s.red ∷
    s.green ∷
    s.readmask ∷
    s.blinkmask ∷
    s.control ∷
    s.clock.timing ∷
    s.clock.position ∷
    []

-- ---- Every call of a good chip

pub record Accesses (called : Call → Chip → Outcome Chip) (c : Chip) : Type 0 where
  -- "Select 0: a write sets the address and the pointer to red; a read answers the address and also sets the pointer
  -- to red." An address write keeps the latches.
  pub address_write : (b : ℕ) → b < 256
      → called (writes 0 b) c ≡ accepting 0 0 (at b 0 c.state.red c.state.green c)
  pub address_read : let s = c.state in
      called (reads 0) c ≡ accepting s.address 0 (at s.address 0 s.red s.green c)
  -- "Select 1: colour data. Select 3: overlay data." The address steps "modulo 256 for colours; for overlays only its
  -- low two bits step, modulo 4. The overlay entry is the address's low two bits."
  pub colours : Data called 1 (λ a. a) (λ a. (a + 1) % 256) (λ d. d.colours) with_colours c
  pub overlays : Data called 3 (λ a. a % 4) (λ a. a / 4 * 4 + (a + 1) % 4) (λ d. d.overlays) with_overlays c
  -- "Selects 4, 5, 6, 7: read mask, blink mask, overlay control, blink timing, read and written." A timing write
  -- restarts the blink.
  pub readmask : let s = c.state in let k = s.clock in
      Register called 4 s.readmask (λ b. having b s.blinkmask s.control k.timing k.position c) c
  pub blinkmask : let s = c.state in let k = s.clock in
      Register called 5 s.blinkmask (λ b. having s.readmask b s.control k.timing k.position c) c
  pub control : let s = c.state in let k = s.clock in
      Register called 6 s.control
      (λ b. having s.readmask s.blinkmask (control_of b) k.timing k.position c) c
  pub timing : let s = c.state in
      Register called 7 s.clock.timing (λ b. having s.readmask s.blinkmask s.control b 0 c) c
  -- 3: "select over 7, reserved"; 9: an argument outside its range
  pub reserved : (b : ℕ) → b < 256 → (called (writes 2 b) c ≡ refusing 3 0 c) × (called (reads 2) c ≡ refusing 3 0 c)
  pub over_seven : (select b : ℕ) → 7 < select → b < 256
      → (called (writes select b) c ≡ refusing 3 0 c) × (called (reads select) c ≡ refusing 3 0 c)
  pub no_byte : (select b : ℕ) → 256 ≤ b → called (writes select b) c ≡ refusing 9 0 c
  -- "A pixel has an overlay enable, an overlay number 0..3 and a byte."
  pub pixel : (enable number byte : ℕ) → enable < 2 → number < 4
      → called (pixels enable number byte) c ≡ accepting (shown enable number byte c) 0 c
  pub no_pixel : (enable number byte : ℕ) → ¬ ((enable < 2) × (number < 4))
      → called (pixels enable number byte) c ≡ refusing 9 0 c
  -- the places of a look; 3 for a place that isn't there
  pub look_state : (i : ℕ) → i < 9 → called (looks i) c ≡ accepting (get_or (places c.state) i 0) 0 c
  pub look_overlay : (i : ℕ) → i < 12 → called (looks (0x100 + i)) c ≡ accepting (get_or c.overlays i 0) 0 c
  pub look_colour : (i : ℕ) → i < 768 → called (looks (0x1000 + i)) c ≡ accepting (get_or c.colours i 0) 0 c
  pub look_nowhere : (place : ℕ) → 9 ≤ place → ¬ ((0x100 ≤ place) × (place < 0x10C))
      → ¬ ((0x1000 ≤ place) × (place < 0x1300)) → called (looks place) c ≡ refusing 3 0 c

-- ---- Every call of every chip

pub record Scope (called : Call → Chip → Outcome Chip) : Type 0 where
  -- 1: "a lent table hasn't its length"; 9: "a state outside its stated range, reserved bits not zero, blink position
  -- not below its period"
  pub one : (k : Call) (c : Chip) → Asks k → ¬ Sizes c → called k c ≡ refusing 1 0 c
  pub nine : (k : Call) (c : Chip) → Asks k → Sizes c → ¬ Ranges c.state → called k c ≡ refusing 9 0 c
  -- "each tick adds 1 modulo the period"; the tick reads the clock alone
  pub tick : (c : Chip) → ClockRanges c.state.clock
      → let s = c.state in let k = s.clock in
      called ticks c
      ≡ accepting 0 0
      (having s.readmask s.blinkmask s.control k.timing ((k.position + 1) % (on_ticks k + off_ticks k)) c)
  pub no_tick : (c : Chip) → ¬ ClockRanges c.state.clock → called ticks c ≡ refusing 9 0 c
  -- "Reset zeroes the state, keeps the tables."
  pub reset : (c : Chip) → called resets c ≡ accepting 0 0 (at 0 0 0 0 (having 0 0 0 0 0 c))
  pub accesses : (c : Chip) → Good c → Accesses called c
