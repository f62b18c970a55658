-- THE QUEUE CAN'T BE SEEN: what demand 3 says, over the definitions that the MS622424's calls promise (Ms622424.antt)
-- and over runs of any calls (Run.antt of the vocabulary); as an equation of maps, and byte by byte without the chip's
-- own storing. Looks may stand anywhere in a run: one completes nothing, and is no read of the table, since it answers
-- from the map as stored (request P5).
use Rattle.std.specs.Prelude.{ℕ, ◌+◌, ◌*◌, ◌/◌, ◌%◌, ◌<◌, ◌≡◌, Bool, true, false, not, ◌&&◌, List, [], ◌∷◌, ltb, eqb, length, get_or}
use Rattle.vocabulary.specs.Choice.{pick}
use Rattle.vocabulary.specs.Component.{Component, red, green, blue, component_at, part, one_of, colour_word}
use Rattle.vocabulary.specs.Every.{every}
use Rattle.vocabulary.specs.Run.{after, gathered, Along, Accepted, where_accepted}
use Rattle.ms622424.specs.declared.Port.{Port}
use Rattle.ms622424.specs.Ms622424.{Chip, Entry, entries, all_stored, gun_shown}
use Rattle.ms622424.specs.Ms622424.{Call, writes, reads, blanks, pixels, signals, resets, looks, called}

-- ---- A run without an accepted reset

abbrev pub is_reset : Call → Bool
is_reset (writes select byte) = false
is_reset (reads select) = false
is_reset (blanks slots) = false
is_reset (pixels mode word) = false
is_reset (signals s) = false
is_reset resets = true
is_reset (looks place) = false

-- none of the calls is a reset that is accepted on the chip that it is made on
abbrev pub NoReset : List Call → Chip → Type 0
NoReset calls c = Along called (λ (k : Call) (d : Chip). ¬ ((is_reset k ≡ true) × Accepted called k d)) calls c

-- ---- Completed colours: by the chip before a call, the call and its acceptance

-- a write to select 2 with the counter at blue completes the address, the buffer's two bytes and its own ..
unfoldable pub completes : Call → Chip → List Entry
completes (writes select byte) c =
    pick (eqb select 2 && eqb c.port.counter 2)
    (record { address = c.port.address; red = c.port.red; green = c.port.green; blue = byte } ∷ []) []
completes (reads select) c = []
completes (blanks slots) c = []
completes (pixels mode word) c = []
completes (signals s) c = []
completes resets c = []
completes (looks place) c = []

-- .. if it is accepted; all of a run, in the order of its calls
abbrev pub completed_by : Call → Chip → List Entry
completed_by k c = where_accepted called completes k c

abbrev pub completed_in : List Call → Chip → List Entry
completed_in calls c = gathered called completed_by calls c

-- ---- The two maps

-- the map with the waiting colours written into it, oldest first
unfoldable pub settled : Chip → List ℕ
settled c = all_stored c.waiting c.map

-- the starting map with every completed colour written at once
unfoldable pub immediate : List Call → Chip → List ℕ
immediate calls start = all_stored (completed_in calls start) start.map

-- ---- The same byte by byte, said without storing: no definition by which the chip stores stands in it

-- at an address and a gun the byte of the LAST of some colours that has the address; if none has it, the byte before
unfoldable pub last_for : ℕ → Component → List Entry → ℕ → ℕ
last_for a k [] byte = byte
last_for a k (e ∷ es) byte = last_for a k es (pick (eqb e.address a) (one_of k e.red e.green e.blue) byte)

-- of a map, three bytes an entry, red first, and of colours that came after it
abbrev pub byte_at : ℕ → Component → List Entry → List ℕ → ℕ
byte_at a k es m = last_for a k es (get_or m (3 * a + part k) 0)

-- ---- What a map shows and answers

-- a gun's own byte of 24 bits, red in the low one; numbers that are bytes
unfoldable pub byte_of : Component → ℕ → ℕ
byte_of k n = one_of k (n % 256) (n / 256 % 256) (n / 65536 % 256)

abbrev pub are_bytes : List ℕ → Bool
are_bytes bytes = every (λ (n : ℕ). ltb n 256) bytes

-- the entry whose byte a gun shows: in mode 0 the low 13 bits; in modes 1, 2, 3 its own byte from 7,424, 7,680, 7,936
unfoldable pub gun_entry : ℕ → ℕ → Component → ℕ
gun_entry mode word k = pick (eqb mode 0) (word % entries) (7168 + 256 * mode + byte_of k word)

-- a pixel: one byte of the map for each gun
unfoldable pub colour_shown : ℕ → ℕ → List ℕ → ℕ
colour_shown mode word m =
    colour_word (gun_shown mode word m red) (gun_shown mode word m green) (gun_shown mode word m blue)

-- no gun's byte is of an entry whose address waits (in mode 0 the guns read one entry, in the others one each)
unfoldable pub ReadsNoWaiting : ℕ → ℕ → Chip → Type 0
ReadsNoWaiting mode word c =
    (k : Component) → every (λ (e : Entry). not (eqb e.address (gun_entry mode word k))) c.waiting ≡ true

-- the table's read: the component under address and counter
unfoldable pub component : Port → List ℕ → ℕ
component p m = get_or m (3 * p.address + p.counter) 0

-- ---- Demand 3

-- of the chip now, after some calls from a start
pub record Unseen (start : Chip) (calls : List Call) (now : Chip) : Type 0 where
  -- the map with the waiting colours equals the immediate map; ..
  pub map_settles : settled now ≡ immediate calls start
  -- .. that is, its length stays, and at every address and gun the last waiting colour, else the map now, has the byte
  -- that the last completed colour, else the starting map, has
  pub length_stays : length now.map ≡ length start.map
  pub last_settles : (a : ℕ) (k : Component) → a < entries
      → byte_at a k now.waiting now.map ≡ byte_at a k (completed_in calls start) start.map
  -- a pixel that reads no waiting address shows what the immediate map shows: its value, and where the starting map
  -- is of bytes each gun's byte of it
  pub pixel_shows : (mode word : ℕ) → Accepted called (pixels mode word) now → ReadsNoWaiting mode word now
      → (called (pixels mode word) now).value ≡ colour_shown mode word (immediate calls start)
  pub pixel_guns : (mode word : ℕ) → Accepted called (pixels mode word) now → ReadsNoWaiting mode word now
      → are_bytes start.map ≡ true → (k : Component)
      → byte_of k (called (pixels mode word) now).value
      ≡ byte_at (gun_entry mode word k) k (completed_in calls start) start.map
  -- a read of the table answers from it
  pub read_answers : Accepted called (reads 2) now
      → (called (reads 2) now).value ≡ component now.port (immediate calls start)
  pub read_last : Accepted called (reads 2) now
      → (called (reads 2) now).value
      ≡ byte_at now.port.address (component_at now.port.counter) (completed_in calls start) start.map

-- start just after an accepted reset, of any chip, and make any calls without another accepted reset
abbrev pub QueueUnseen : Type 0
QueueUnseen =
    (before : Chip) (reset : Call) (calls : List Call) → is_reset reset ≡ true → Accepted called reset before
    → let start = (called reset before).left in
    NoReset calls start → Unseen start calls (after called calls start)
