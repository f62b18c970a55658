-- The call list said entry by entry, in document 01's words and numbers and without the order in which it is made. It
-- is said of any list of calls; `calls_of` meets it (`by_entry`, proofs/ByEntry.antt), and since it is an equation for
-- every sheet's lines, no other list does.
use Rattle.std.specs.Prelude.{ℕ, zero, suc, ◌+◌, ◌-◌, ◌/◌, ◌%◌, ◌≡◌, List, [], ◌∷◌, ◌++◌, eqb, length, get_or}
use Rattle.vocabulary.specs.Choice.{pick}
use Rattle.sheet.specs.Sheet.{Line}
use Rattle.std.specs.Prelude.{Some, None}
use Rattle.sheet.specs.Sheet.{registers_of, overlays_of, colours_of}
use Rattle.calls.specs.Calls.{Call, call}

-- three digits of a colour, as three writes to its table's select
abbrev pub three_writes : ℕ → ℕ → List Call
three_writes select v = call select (v / 256) ∷ call select (v / 16 % 16) ∷ call select (v % 16) ∷ []

-- an entry's calls, by the entry before it and its own line: "An address write comes before the first entry of each
-- table and where an entry's number isn't the one before plus 1"; a missing entry is not touched
abbrev pub listed : ℕ → ℕ → Line → Line → List Call
listed select e (Some u) (Some v) = three_writes select v
listed select e None (Some v) = call 0 e ∷ three_writes select v
listed select e (Some u) None = []
listed select e None None = []

-- the line of the entry before e; before entry 0 there is none
abbrev pub before : List Line → ℕ → Line
before l e = pick (eqb e 0) None (get_or l (e - 1) None)

-- a table's n entries from e on, ascending
unfoldable pub entries_from : ℕ → List Line → ℕ → ℕ → List Call
entries_from select l e zero = []
entries_from select l e (suc n) =
    listed select e (before l e) (get_or l e None) ++ entries_from select l (e + 1) n

abbrev pub all_entries : ℕ → List Line → List Call
all_entries select l = entries_from select l 0 (length l)

-- "registers 4, 5, 6, 7; each overlay entry as three writes to 3; and the calls for the table follow .., three writes
-- to 1 each"
abbrev pub ByEntry : (List Line → List Call) → Type 0
ByEntry calls =
    (l : List Line) (read blink control timing : ℕ)
    → registers_of l ≡ Some read ∷ Some blink ∷ Some control ∷ Some timing ∷ []
    → calls l
    ≡ (call 4 read ∷ call 5 blink ∷ call 6 control ∷ call 7 timing ∷ [])
    ++ (all_entries 3 (overlays_of l) ++ all_entries 1 (colours_of l))
