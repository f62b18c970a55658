-- The call list of a sheet: document 01, "The sheet and its calls". A call is a write of a byte to a select of chip A.
use Rattle.std.specs.Prelude.{ℕ, ◌+◌, Bool, true, false, List, [], ◌∷◌, ◌++◌, ltb, length}
use Rattle.vocabulary.specs.Refusal.{Row, ◌when◌, refusal_of}
use Rattle.vocabulary.specs.declared.Refusal.TheVariants.{Malformed, ShortBuffer}
use Rattle.vocabulary.specs.Outcome.{Outcome, accepting, answered_at}
use Rattle.sheet.specs.Sheet.{Line}
use Rattle.std.specs.Prelude.{Some, None, is_some}
use Rattle.sheet.specs.Sheet.{Reading, sheet_of, lines_of, bad_line, is_bad, registers_of, overlays_of, colours_of}
use Rattle.sheet.specs.Sheet.{red_of, green_of, blue_of, pasted}

pub record Call : Type 0 where
  pub select : ℕ
  pub byte : ℕ

abbrev pub call : ℕ → ℕ → Call
call select byte = record { select = select; byte = byte }

-- one write for each register, to selects 4, 5, 6, 7
unfoldable pub register_calls : ℕ → List Line → List Call
register_calls select [] = []
register_calls select (Some v ∷ l) = call select v ∷ register_calls (select + 1) l
register_calls select (None ∷ l) = register_calls (select + 1) l

-- an address write, unless the entry follows the one before it
abbrev pub address_calls : Bool → ℕ → List Call
address_calls true entry = []
address_calls false entry = call 0 entry ∷ []

-- three writes for a colour
abbrev pub colour_calls : ℕ → ℕ → List Call
colour_calls select v = call select (red_of v) ∷ call select (green_of v) ∷ call select (blue_of v) ∷ []

-- an entry's calls; none where it is missing
unfoldable pub entry_calls : ℕ → ℕ → Bool → Line → List Call
entry_calls select entry follows (Some v) = address_calls follows entry ++ colour_calls select v
entry_calls select entry follows None = []

-- A table's calls, from an entry on: "An address write comes before the first entry of each table and where an entry's
-- number isn't the one before plus 1."
unfoldable pub table_calls : ℕ → ℕ → Bool → List Line → List Call
table_calls select entry follows [] = []
table_calls select entry follows (x ∷ l) =
    entry_calls select entry follows x ++ table_calls select (entry + 1) (is_some x) l

-- A sheet's calls: registers, each overlay entry as three writes to 3, each colour as three writes to 1.
abbrev pub tables_calls : List Line → List Call
tables_calls l = table_calls 3 0 false (overlays_of l) ++ table_calls 1 0 false (colours_of l)

unfoldable pub calls_of : List Line → List Call
calls_of l = register_calls 4 (registers_of l) ++ tables_calls l

-- "Calls are pairs (select, byte), two bytes of the buffer each"
unfoldable pub call_bytes : List Call → List ℕ
call_bytes [] = []
call_bytes (x ∷ l) = x.select ∷ x.byte ∷ call_bytes l

-- when the step is refused: a malformed sheet, a buffer shorter than the list
abbrev pub call_refusals : Reading → List ℕ → List Row
call_refusals r out =
    (Malformed when is_bad r) ∷ (ShortBuffer when ltb (length out) (length (call_bytes (calls_of (lines_of r))))) ∷ []

-- its whole outcome, of the sheet's text and the buffer; the count is of calls
unfoldable pub sheet_to_calls : List ℕ → List ℕ → Outcome (List ℕ)
sheet_to_calls text out =
    let r = sheet_of text in
    let list = calls_of (lines_of r) in
    answered_at (refusal_of (call_refusals r out)) (bad_line r) out
    (accepting 0 (length list) (pasted out 0 (call_bytes list)))
