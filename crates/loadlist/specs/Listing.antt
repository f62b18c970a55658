-- What loadlist prints: a good sheet's calls, one a line, or the refusal of another.
use Rattle.std.specs.Prelude.{ℕ, zero, suc, ◌+◌, ◌*◌, ◌/◌, ◌%◌, ◌≡◌, List, [], ◌∷◌, ◌++◌, get_or, replicate, Ok, Err}
use Rattle.std.specs.Fmt.{decimal}
use Rattle.std.specs.declared.option.Option.{Option}
use Rattle.std.specs.Io.KnownBytes.{Appends}
use Rattle.hex_digits.specs.Hex.{hex_digit}
use Rattle.vocabulary.specs.Refusal.{number}
use Rattle.sheet.specs.Sheet.{Answer, outcome}
use Rattle.calls.specs.Calls.{sheet_to_calls}

-- a call: `w`, its select, `=`, its byte
abbrev pub line_of : ℕ → ℕ → List ℕ
line_of select byte = 119 ∷ hex_digit (select % 16) ∷ 61 ∷ hex_digit (byte / 16 % 16) ∷ hex_digit (byte % 16) ∷ 10 ∷ []

-- the first calls of a buffer, which has two bytes of each
unfoldable pub call_lines : ℕ → List ℕ → List ℕ
call_lines zero calls = []
call_lines (suc n) calls = call_lines n calls ++ line_of (get_or calls (2 * n) 0) (get_or calls (2 * n + 1) 0)

-- `refused=` and `line=`
abbrev pub refusal_lines : ℕ → ℕ → List ℕ
refusal_lines refusal line =
    (114 ∷ 101 ∷ 102 ∷ 117 ∷ 115 ∷ 101 ∷ 100 ∷ 61 ∷ decimal refusal) ++
    (10 ∷ 108 ∷ 105 ∷ 110 ∷ 101 ∷ 61 ∷ decimal line) ++ 10 ∷ []

abbrev pub listing : Answer → List ℕ → List ℕ
listing (Ok count) calls = call_lines count calls
listing (Err e) calls = refusal_lines (number e.refusal) e.line

-- what the step from the sheet to its calls answers, with a buffer of 1,572 bytes, is printed
pub record Prints (old new : Option (List ℕ)) (sheet : List ℕ) : Type 0 where
  pub answer : Answer
  pub calls : List ℕ
  pub is : outcome answer calls ≡ sheet_to_calls sheet (replicate 1572 0)
  pub printed : Appends old new (listing answer calls)
