-- Demand 2 from call to call, as a caller has it: answers, and bytes in buffers. A chip's sheet is written into a
-- buffer, those bytes are made into a call list in another, and that buffer's bytes, taken as calls, are made on a
-- chip. The premises are that the calls were accepted. The theorem is `call_to_call` (proofs/CallToCall.antt).
use Rattle.std.specs.Prelude.{ℕ, ◌*◌, ◌≤◌, ◌≡◌, List, [], ◌∷◌, length, take}
use Rattle.vocabulary.specs.Outcome.{Outcome}
use Rattle.hd153108.specs.Hd153108.{Chip, InRange}
use Rattle.sheet.specs.Sheet.{Line}
use Rattle.sheet.specs.Sheet.{chip_lines, write}
use Rattle.sheet.specs.Grammar.{IsSheet}
use Rattle.sheet_written.specs.Writer.{Writable}
use Rattle.calls.specs.Calls.{Call, call, sheet_to_calls}
use Rattle.theorem_load.specs.Load.{Writing, made, AllAccepted, Leaves, Same}

-- "Calls are pairs (select, byte), two bytes of the buffer each": bytes taken as calls
unfoldable pub calls_in : List ℕ → List Call
calls_in [] = []
calls_in (select ∷ []) = []
calls_in (select ∷ byte ∷ t) = call select byte ∷ calls_in t

-- what an accepted call wrote: the writer counts bytes, the step to a call list counts calls
abbrev pub bytes_written : Outcome (List ℕ) → List ℕ
bytes_written o = take o.count o.left

abbrev pub calls_written : Outcome (List ℕ) → List Call
calls_written o = calls_in (take (2 * o.count) o.left)

-- "a sheet of colours becomes a list of port calls, and those calls, made .., leave the sheet's colours and registers
-- there": of a text, the buffer for its calls, and the chip that they are made on
pub record LoadsText (w : Writing) (text out : List ℕ) (c : Chip) : Type 0 where
  pub lines : List Line
  pub is : IsSheet text lines
  pub accepted : AllAccepted w (calls_written (sheet_to_calls text out)) c
  pub leaves : Leaves lines c (made w (calls_written (sheet_to_calls text out)) c)

-- the calls that chip a's sheet becomes: `out` is the writer's buffer, `list` that of the calls
abbrev pub calls_for : Chip → List ℕ → List ℕ → Outcome (List ℕ)
calls_for a out list = sheet_to_calls (bytes_written (write a out)) list

-- "A's colours and registers .. become a sheet that loads back equal", on any other chip b
pub record LoadsChip (w : Writing) (a b : Chip) (out list : List ℕ) : Type 0 where
  pub accepted : AllAccepted w (calls_written (calls_for a out list)) b
  pub same : Same a (made w (calls_written (calls_for a out list)) b)

pub record CallToCall (w : Writing) : Type 0 where
  pub loads : (text out : List ℕ) (c : Chip) → (sheet_to_calls text out).refusal ≡ 0 → InRange c
      → LoadsText w text out c
  pub back : (a b : Chip) (out list : List ℕ) → (write a out).refusal ≡ 0 → (calls_for a out list).refusal ≡ 0
      → InRange b → LoadsChip w a b out list
  -- what the writer wrote is the chip's sheet
  pub sheet : (a : Chip) (out : List ℕ) → (write a out).refusal ≡ 0
      → IsSheet (bytes_written (write a out)) (chip_lines a)
  -- and with room enough both calls are accepted, the writer of a chip with no table byte over 15
  pub written : (a : Chip) (out : List ℕ) → Writable a → 2134 ≤ length out → (write a out).refusal ≡ 0
  pub listed : (text out : List ℕ) (lines : List Line) → IsSheet text lines → 1572 ≤ length out
      → (sheet_to_calls text out).refusal ≡ 0
