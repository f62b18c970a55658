-- Chip C, the palette port of the RGB640: source document 001, sections 9.1, 9.3, 9.4.1, 9.6 and 10.15 with Tables 22
-- to 26, 29 and 30, and document 01, "Chip C". "Ruling" marks what they leave open.
-- From the top: the ports, the index and its auto-increment, the palette, the order of transfers, the spaces of the
-- index, what a write does, what a read answers, the reset, what a call asks, and the face.
--
-- How to read it (docs/NOTATION.md has more). Under a name stands its type, `f : A → B → C`, from an A and a B to a
-- C, and then what it is, a clause for each case. `s.red` is the part red of s, `record { .. }` a value by its
-- parts, and `data` names a type's values. `x ∷ y ∷ []` is a list, `l ++ m` one behind the other; `get_or l i d` is
-- element i of l, and d where there is none. `(a, b)` is a pair, `p.0` and `p.1` its parts; `λ x. ..` is a rule for
-- x. Numbers are 0, 1, 2 and so on without end; `a / b` is the quotient's floor, `a % b` the remainder. `line n k` is
-- bit k of n, 0 or 1; `pick test a b` is a where the test holds, else b. A call's outcome is `accepting value count
-- chip`, with what it leaves; a refusal's row is `refusal when test`, and rows are tried in document 01's order.
-- `abbrev`, `unfoldable`, `pub` and `use` are about proofs and files: read past them. What stands under "Not the
-- chip" says nothing of the RGB640.
use Rattle.std.specs.Prelude.{ℕ, ◌+◌, ◌-◌, ◌*◌, ◌/◌, ◌%◌, ◌<◌, ◌≡◌, Bool, true, false, ◌&&◌, List, [], ◌∷◌, ◌++◌, ltb, eqb, length, get_or}
use Rattle.vocabulary.specs.Choice.{pick}
use Rattle.vocabulary.specs.Line.{line}
use Rattle.vocabulary.specs.Range.{Bound, below, equal, within, meets, fails}
use Rattle.vocabulary.specs.Refusal.{Row, ◌when◌, refusal_of, standing}
use Rattle.vocabulary.specs.declared.Refusal.TheVariants.{LentLength, OutOfRange, NoAccess, NoIndex}
use Rattle.vocabulary.specs.Outcome.{Outcome, accepting, unreached}
use Rattle.vocabulary.specs.Component.{Component, red, green, blue, one_of, put}
use Rattle.vocabulary.specs.Look.{Block, ◌has◌, ◌holds◌, found, look_refusals, looked}
use Rattle.vocabulary.specs.Face.{called_by}
use Rattle.expand.specs.Expand.{ten}
use Rattle.rgb640.specs.declared.Colour.{Colour}
use Rattle.rgb640.specs.declared.State.{State}
use Rattle.rgb640.specs.declared.Answer.{Answer}

-- ---- The state, and the table that is lent beside it
pub record Chip : Type 0 where
  pub state : State
  pub table : List ℕ

-- ---- Not the chip: a state with another part, the rest as it was
abbrev pub chip : State → List ℕ → Chip
chip s t = record { state = s; table = t }

-- index, place in the order, latched red and green, the fetched entry, register 0x000E
abbrev pub state : ℕ → ℕ → ℕ → ℕ → Colour → ℕ → State
state i p r g f u = record { index = i; red = r; green = g; fetched = f; place = p; update = u }

abbrev pub colour : ℕ → ℕ → ℕ → Colour
colour r g b = record { red = r; green = g; blue = b }

-- a state with another index and place; other latches; another fetched entry; another byte in register 0x000E
abbrev pub at : State → ℕ → ℕ → State
at s i p = state i p s.red s.green s.fetched s.update

abbrev pub latching : State → ℕ → ℕ → State
latching s r g = state s.index s.place r g s.fetched s.update

abbrev pub fetching : State → Colour → State
fetching s f = state s.index s.place s.red s.green f s.update

abbrev pub updating : State → ℕ → State
updating s u = state s.index s.place s.red s.green s.fetched u

-- ---- The ports (section 9.1, Table 22)
-- of the eight, those of the index scheme: its low byte, its high byte, and data
pub data Register : Type 0 where
  index_low : Register
  index_high : Register
  index_data : Register
  not_served : Register

unfoldable pub register_at : ℕ → Register
register_at port =
    get_or
    (not_served ∷ not_served ∷ not_served ∷ not_served ∷ index_low ∷ index_high ∷ index_data ∷ [])
    port not_served

-- ---- The index and its auto-increment (sections 9.3 and 10.15)
pub data Direction : Type 0 where
  writing : Direction
  reading : Direction

-- register 0x000E: bit 1 (WRAI) is for writes and bit 2 (RDAI) for reads; 0 enables auto-increment
abbrev pub increments : Direction → ℕ → Bool
increments writing update = eqb (line update 1) 0
increments reading update = eqb (line update 2) 0

-- ---- The palette (section 9.4)
-- sections 9.4.1.1 and 9.4.1.2: the location's offset into the palette
abbrev pub offset : ℕ → ℕ
offset index = index % 1024

-- the offset's step, modulo 1,024 (ruling)
abbrev pub next : ℕ → ℕ
next index = index - offset index + (offset index + 1) % 1024

-- an entry of the lent table, its numbers taken modulo 1,024
unfoldable pub entry : ℕ → List ℕ → Colour
entry e t = colour (get_or t (3 * e) 0 % 1024) (get_or t (3 * e + 1) 0 % 1024) (get_or t (3 * e + 2) 0 % 1024)

-- what setting the index does besides, by its space: nothing, or its entry is fetched (section 9.4.1.2)
abbrev pub fetches_nothing : List ℕ → State → State
fetches_nothing t s = s

abbrev pub fetches_entry : List ℕ → State → State
fetches_entry t s = fetching s (entry (offset s.index) t)

-- ---- The order of transfers (section 9.4.1, Table 26)
-- A transfer: the colour under way with its byte taken in, and the byte that it tells of a fetched colour.
pub record Transfer : Type 0 where
  pub takes : ℕ → Colour → Colour
  pub tells : Colour → ℕ

-- a colour with another component
abbrev pub replacing : Component → ℕ → Colour → Colour
replacing red v f = colour v f.green f.blue
replacing green v f = colour f.red v f.blue
replacing blue v f = colour f.red f.green v

-- eight bits of a component: written they are linearized to ten (section 9.4.1.1, the 8-bit rows of Tables 23 to 25),
-- and read they are the ten divided by 4, floored (ruling)
abbrev pub eight_bits : Component → Transfer
eight_bits k = record {
  takes = λ b f. replacing k (ten 8 b) f;
  tells = λ f. one_of k f.red f.green f.blue / 4;
}

-- Table 26: the order of three bytes
abbrev pub three_bytes : List Transfer
three_bytes = eight_bits red ∷ eight_bits green ∷ eight_bits blue ∷ []

-- All that follows is of any order. The place counts along its list; a state in range has no place beyond it.
unfoldable pub transfer_at : List Transfer → ℕ → Transfer
transfer_at order place = get_or order place (eight_bits blue)

-- another transfer follows
abbrev pub follows : List Transfer → ℕ → Bool
follows order place = ltb (place + 1) (length order)

-- After the last transfer the order restarts. Where register 0x000E enables it the offset steps, and what an index of
-- that space fetches is fetched; where it does not, the index and the fetched entry stay.
unfoldable pub restarted : Direction → (State → State) → State → State
restarted d fetch s = pick (increments d s.update) (fetch (at s (next s.index) 0)) (at s s.index 0)

unfoldable pub stepped : List Transfer → Direction → (State → State) → State → State
stepped order d fetch s =
    pick (follows order s.place) (at s s.index (s.place + 1)) (restarted d fetch s)

-- a written byte is latched, and the last transfer stores the colour at the index as it then stands
unfoldable pub taken : List Transfer → ℕ → Chip → Chip
taken order b c =
    let s = c.state in
    let f = (transfer_at order s.place).takes b (colour s.red s.green 0) in
    pick (follows order s.place) (chip (latching s f.red f.green) c.table)
    (chip s (put (offset s.index) f.red f.green f.blue c.table))

unfoldable pub palette_taken : List Transfer → ℕ → Chip → Chip
palette_taken order b c =
    let n = taken order b c in
    chip (stepped order writing (fetches_nothing n.table) n.state) n.table

-- a read byte is told of the fetched entry: the byte, and the state that it leaves
unfoldable pub palette_told : List Transfer → Chip → ℕ × State
palette_told order c =
    let s = c.state in
    ((transfer_at order s.place).tells s.fetched, stepped order reading (fetches_entry c.table) s)

-- ---- The spaces of the index (section 9.6, Tables 29 and 30)
-- what a data access does, or that the space is not served in its direction
pub data Service (A : Type 0) : Type 0 where
  serves : A → Service A
  against : Service A

-- A space is a row: its first index and how many, what a data write does there, what a data read answers and the state
-- that it leaves, and what setting the index there fetches.
pub record Space : Type 0 where
  pub first : ℕ
  pub count : ℕ
  pub on_write : Service (ℕ → Chip → Chip)
  pub on_read : Service (Chip → ℕ × State)
  pub on_index : List ℕ → State → State

abbrev pub space : ℕ → ℕ → Service (ℕ → Chip → Chip) → Service (Chip → ℕ × State) → (List ℕ → State → State) → Space
space i n w r f = record { first = i; count = n; on_write = w; on_read = r; on_index = f }

-- Table 29, 0x000E, update control: one byte, read and written; that moves nothing (ruling)
abbrev pub update_taken : ℕ → Chip → Chip
update_taken b c = chip (updating c.state b) c.table

abbrev pub update_told : Chip → ℕ × State
update_told c = (c.state.update, c.state)

unfoldable pub update_control : Space
update_control = space 0x000E 1 (serves update_taken) (serves update_told) fetches_nothing

-- Table 30, 0x4000 to 0x43FF, main colour palette write, and 0x8000 to 0x83FF, main colour palette read
unfoldable pub palette_write : Space
palette_write = space 0x4000 1024 (serves (palette_taken three_bytes)) against fetches_nothing

unfoldable pub palette_read : Space
palette_read = space 0x8000 1024 against (serves (palette_told three_bytes)) fetches_entry

abbrev pub spaces : List Space
spaces = update_control ∷ palette_write ∷ palette_read ∷ []

-- an index in no row is nowhere
unfoldable pub nowhere : Space
nowhere = space 0 0 against against fetches_nothing

abbrev pub among : List Space → ℕ → Space
among [] i = nowhere
among (row ∷ rows) i = pick (meets (within row.first row.count i)) row (among rows i)

unfoldable pub space_of : ℕ → Space
space_of index = among spaces index

abbrev pub prefetched : List ℕ → State → State
prefetched t s = (space_of s.index).on_index t s

-- ---- What a write does
-- what a service makes of an access, and what stands for one that is refused
unfoldable pub served : {A B : Type 0} → Service A → (A → B) → B → B
served (serves f) effect refused = effect f
served against effect refused = unreached refused

-- port 6, by the space that the index lies in
abbrev pub data_written : Space → ℕ → Chip → Chip
data_written space b c = served space.on_write (λ effect. effect b c) c

-- port 4 sets the low byte alone; port 5 the high byte, restarts the order, keeps the latches and fetches (9.4.1)
unfoldable pub wrote : Register → ℕ → Chip → Chip
wrote index_low b c = let s = c.state in chip (at s (s.index / 256 * 256 + b) s.place) c.table
wrote index_high b c =
    let s = c.state in
    chip (prefetched c.table (at s (b * 256 + s.index % 256) 0)) c.table
wrote index_data b c = data_written (space_of c.state.index) b c
wrote not_served b c = unreached c

abbrev pub written : Register → ℕ → Chip → Outcome Chip
written register b c = accepting 0 0 (wrote register b c)

-- ---- What a read answers, and what it leaves
abbrev pub data_read : Space → Chip → ℕ × State
data_read space c = served space.on_read (λ tell. tell c) (0, c.state)

-- ports 4 and 5 read back the index's bytes and move nothing
unfoldable pub told : Register → Chip → ℕ × State
told index_low c = (c.state.index % 256, c.state)
told index_high c = (c.state.index / 256, c.state)
told index_data c = data_read (space_of c.state.index) c
told not_served c = unreached (0, c.state)

-- no read changes the table
abbrev pub answers : Register → Chip → Outcome Chip
answers register c = accepting (told register c).0 0 (chip (told register c).1 c.table)

-- ---- The reset zeroes the state and keeps the table (ruling)
abbrev pub zeroed : State
zeroed = state 0 0 0 0 (colour 0 0 0) 0

-- ---- The places of a look (request P5): the state, register 0x000E in it, then each number of the table as lent
abbrev pub look_places : Chip → List Block
look_places c =
    let s = c.state in
    (0x0 has s.index) ∷
    (0x1 has s.place) ∷
    (0x2 has s.red) ∷
    (0x3 has s.green) ∷
    (0x4 has s.fetched.red) ∷
    (0x5 has s.fetched.green) ∷
    (0x6 has s.fetched.blue) ∷
    (0x7 has s.update) ∷
    (0x10000 holds c.table) ∷
    []

-- ---- What a call asks (document 01)
-- 1: 1,024 entries of three numbers
abbrev pub whole : ℕ → List Bound
whole size = equal size 3072 ∷ []

-- 9: an index of 16 bits, a place in the order, components below 1,024, any byte in register 0x000E
abbrev pub state_ranges : State → List Bound
state_ranges s =
    below s.index 65536 ∷
    below s.place (length three_bytes) ∷
    below s.red 1024 ∷
    below s.green 1024 ∷
    below s.fetched.red 1024 ∷
    below s.fetched.green 1024 ∷
    below s.fetched.blue 1024 ∷
    below s.update 256 ∷
    []

abbrev pub lengths : Chip → List Bound
lengths c = whole (length c.table)

abbrev pub ranges : Chip → List Bound
ranges c = state_ranges c.state

abbrev pub short : Chip → Bool
short c = fails (lengths c)

abbrev pub outside : Chip → Bool
outside c = fails (ranges c)

-- 3: the port is not 4 to 6
abbrev pub no_port : Register → Bool
no_port not_served = true
no_port index_low = false
no_port index_high = false
no_port index_data = false

-- 4: a data access at an index that is nowhere, or against its space's direction
abbrev pub is_data : Register → Bool
is_data index_data = true
is_data index_low = false
is_data index_high = false
is_data not_served = false

abbrev pub is_against : {A : Type 0} → Service A → Bool
is_against (serves f) = false
is_against against = true

-- an access of a port: what it is given besides, and whether the index's space is against its direction
abbrev pub access_refusals : List Bound → Register → Bool → Chip → List Row
access_refusals given register wrong c =
    (LentLength when short c) ∷
    (OutOfRange when fails (given ++ ranges c)) ∷
    (NoAccess when no_port register) ∷
    (NoIndex when is_data register && wrong) ∷
    []

abbrev pub write_refusals : ℕ → ℕ → Chip → List Row
write_refusals port byte c =
    access_refusals (below byte 256 ∷ []) (register_at port) (is_against (space_of c.state.index).on_write) c

abbrev pub read_refusals : ℕ → Chip → List Row
read_refusals port c = access_refusals [] (register_at port) (is_against (space_of c.state.index).on_read) c

-- a reset reads nothing and is never refused
abbrev pub reset_refusals : List Row
reset_refusals = []

-- ---- The face
pub data Call : Type 0 where
  -- port and byte
  writes : ℕ → ℕ → Call
  -- port
  reads : ℕ → Call
  resets : Call
  -- place
  looks : ℕ → Call

abbrev pub refusals : Call → Chip → List Row
refusals (writes port byte) c = write_refusals port byte c
refusals (reads port) c = read_refusals port c
refusals resets c = reset_refusals
refusals (looks place) c = look_refusals (short c) (outside c) (found (look_places c) place)

abbrev pub does : Call → Chip → Outcome Chip
does (writes port byte) c = written (register_at port) byte c
does (reads port) c = answers (register_at port) c
does resets c = accepting 0 0 (chip zeroed c.table)
does (looks place) c = looked (found (look_places c) place) c

abbrev pub called : Call → Chip → Outcome Chip
called k c = called_by refusals does k c

-- ---- Not the chip: calls by their kind, the ranges as facts, what the code answers
-- which calls are reads of ports 4 and 5, and which are looks
abbrev pub is_index : Register → Bool
is_index index_low = true
is_index index_high = true
is_index index_data = false
is_index not_served = false

abbrev pub is_index_read : Call → Bool
is_index_read (writes port b) = false
is_index_read (reads port) = is_index (register_at port)
is_index_read resets = false
is_index_read (looks place) = false

abbrev pub is_look : Call → Bool
is_look (writes port byte) = false
is_look (reads port) = false
is_look resets = false
is_look (looks place) = true

-- what `lengths` and `ranges` ask, as facts by name (proofs/InRange.antt: they say the same of a chip)
pub record InRange (c : Chip) : Type 0 where
  pub table_whole : length c.table ≡ 3072
  pub index_low_lem : c.state.index < 65536
  pub place_low : c.state.place < length three_bytes
  pub red_low : c.state.red < 1024
  pub green_low : c.state.green < 1024
  pub fetched_red_low : c.state.fetched.red < 1024
  pub fetched_green_low : c.state.fetched.green < 1024
  pub fetched_blue_low : c.state.fetched.blue < 1024
  pub update_low : c.state.update < 256

-- what write and read try first
abbrev pub standing_of : ℕ → State → ℕ
standing_of size s = refusal_of (standing (fails (whole size)) (fails (state_ranges s)))

-- a call's answer, and what it left: that answer, with the table afterwards
abbrev pub accept : ℕ → State → Answer
accept v s = record { refusal = 0; value = v; state = s }

abbrev pub accept_told : ℕ × State → Answer
accept_told r = accept r.0 r.1

abbrev pub refuse : ℕ → State → Answer
refuse n s = record { refusal = n; value = 0; state = s }

abbrev pub outcome : Answer → List ℕ → Outcome Chip
outcome a t = record { refusal = a.refusal; value = a.value; count = 0; line = 0; left = chip a.state t }
