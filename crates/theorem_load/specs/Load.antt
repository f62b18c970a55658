-- Loading a sheet on chip A: demand 2, "a sheet of colours becomes a list of port calls, and those calls, made on any
-- state and tables within A's ranges and lengths, leave the sheet's colours and registers there. A's colours and
-- registers, where no table byte is over 15, become a sheet that loads back equal." `LoadsSheets` is the first
-- sentence, `LoadsBack` the second; the theorems are `load` (proofs/Load.antt) and `back` (proofs/Back.antt).
use Rattle.std.specs.Prelude.{ℕ, ◌≡◌, List, [], ◌∷◌, get_or}
use Rattle.vocabulary.specs.Outcome.{Outcome}
use Rattle.vocabulary.specs.Run
use Rattle.vocabulary.specs.Run.{after}
use Rattle.hd153108.specs.declared.State.{State}
use Rattle.hd153108.specs.Hd153108.{Chip, Table, colour, overlay, table_of, colour_at, InRange, writes, called}
use Rattle.sheet.specs.Sheet.{Line}
use Rattle.std.specs.Prelude.{Some, None}
use Rattle.sheet.specs.Sheet.{sheet_of, good, lines_of, registers_of, overlays_of, colours_of, red_of, green_of}
use Rattle.sheet.specs.Sheet.{blue_of, text_of}
use Rattle.sheet_written.specs.Writer.{Writable}
use Rattle.calls.specs.Calls.{Call, calls_of}

-- "any state and tables within A's ranges and lengths" is `InRange` of Hd153108

-- ---- "those calls, made"

-- a write of a byte to a select, on a chip: A's is `called` of `writes`, and a law may put another in its place
-- (proofs/Cheats.antt)
abbrev pub Writing : Type 0
Writing = ℕ → ℕ → Chip → Outcome Chip

abbrev pub writing : Writing
writing select byte c = called (writes select byte) c

-- a call of the list, made by a writing
abbrev pub making : Writing → Call → Chip → Outcome Chip
making w k c = w k.select k.byte c

-- the chip after calls made one after another; and none of them is refused
abbrev pub made : Writing → List Call → Chip → Chip
made w ks c = after (making w) ks c

abbrev pub AllAccepted : Writing → List Call → Chip → Type 0
AllAccepted w ks c = Run.AllAccepted (making w) ks c

-- ---- "leave the sheet's colours and registers there"

-- a chip's registers, as a sheet's lines say them
abbrev pub register_lines : State → List Line
register_lines s = Some s.readmask ∷ Some s.blinkmask ∷ Some s.control ∷ Some s.clock.timing ∷ []

-- a table's lines in a sheet, entry by entry
abbrev pub entries_of : Table → List Line → List Line
entries_of colour l = colours_of l
entries_of overlay l = overlays_of l

-- an entry's three bytes after the load: the sheet's components where the entry is listed, else as they were
abbrev pub filled : Line → List ℕ → List ℕ
filled (Some v) before = red_of v ∷ green_of v ∷ blue_of v ∷ []
filled None before = before

-- the sheet's registers (a timing write restarts the blink position), the sheet's colours in each entry that it lists,
-- every other entry as it was; and in range
pub record Leaves (lines : List Line) (before after : Chip) : Type 0 where
  pub registers : register_lines after.state ≡ registers_of lines
  pub position : after.state.clock.position ≡ 0
  pub entries : (t : Table) (e : ℕ)
      → colour_at e (table_of t after)
      ≡ filled (get_or (entries_of t lines) e None) (colour_at e (table_of t before))
  pub in_range : InRange after

pub record Loads (w : Writing) (lines : List Line) (c : Chip) : Type 0 where
  pub accepted : AllAccepted w (calls_of lines) c
  pub leaves : Leaves lines c (made w (calls_of lines) c)

-- The load, for every text that is a good sheet and every chip in range.
abbrev pub LoadsSheets : Writing → Type 0
LoadsSheets w =
    (text : List ℕ) (lines : List Line) (c : Chip) → sheet_of text ≡ good lines → InRange c → Loads w lines c

-- ---- "A's colours and registers, where no table byte is over 15, become a sheet that loads back equal"

-- which chips the writer takes is `Writable` (Writer.antt of sheet_written): in range, and no table byte over 15

-- equal registers, colours and overlays
pub record Same (a b : Chip) : Type 0 where
  pub registers : register_lines a.state ≡ register_lines b.state
  pub colours : a.colours ≡ b.colours
  pub overlays : a.overlays ≡ b.overlays

-- The way back, through the text: chip a's sheet is good, and its calls, made on chip b, leave what a has.
pub record Returns (w : Writing) (a b : Chip) : Type 0 where
  pub reads : sheet_of (text_of a) ≡ good (lines_of (sheet_of (text_of a)))
  pub accepted : AllAccepted w (calls_of (lines_of (sheet_of (text_of a)))) b
  pub same : Same a (made w (calls_of (lines_of (sheet_of (text_of a)))) b)

abbrev pub LoadsBack : Writing → Type 0
LoadsBack w = (a b : Chip) → Writable a → InRange b → Returns w a b
