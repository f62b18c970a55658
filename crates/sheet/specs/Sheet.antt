-- A sheet of chip A: document 01, "The sheet and its calls". Lines key=value in a fixed order, lower-case hex, LF
-- after each. The grammar is `sheet_of`, from bytes to what the sheet says or the number of its first bad or missing
-- line; the writer is `write`. Both share one definition of a line's text.
use Rattle.std.specs.Prelude.{ℕ, zero, suc, ◌+◌, ◌-◌, ◌*◌, ◌/◌, ◌%◌, ◌≡◌, Bool, true, false, ◌&&◌, ◌||◌}
use Rattle.std.specs.Prelude.{List, [], ◌∷◌, ◌++◌, map, eqb, ltb, length, get_or, take, drop, Option, Some, None}
use Rattle.std.specs.Prelude.{Result, Ok, Err}
use Rattle.std.specs.Int.Bits.{bit_and}
use Rattle.vocabulary.specs.Choice.{pick}
use Rattle.vocabulary.specs.Refusal.{number as number_of, Row, ◌when◌, refusal_of}
use Rattle.vocabulary.specs.declared.Refusal.{Refusal}
use Rattle.vocabulary.specs.declared.Refusal.TheVariants.{LentLength, OutOfRange, OverFifteen, ShortBuffer}
use Rattle.vocabulary.specs.Outcome.{Outcome, accepting, refusing, answered}
use Rattle.vocabulary.specs.Reply.{Reply, decoded, telling as telling_of}
use Rattle.hex_digits.specs.Hex.{hex, number}
use Rattle.hd153108.specs.Hd153108.{Chip, reserved_bits, short, outside}
use Rattle.sheet.specs.declared.Refused.{Refused}
use Rattle.sheet.specs.declared.RefusedBy.{RefusedBy}

-- ---- The keys, in the sheet's order: the five first lines, o0 to o3, c00 to cff

pub data Key : Type 0 where
  chip : Key
  readmask : Key
  blinkmask : Key
  overlay : Key
  timing : Key
  o : ℕ → Key
  c : ℕ → Key

unfoldable pub key_at : ℕ → Key
key_at k =
    pick (ltb k 5) (get_or (chip ∷ readmask ∷ blinkmask ∷ overlay ∷ timing ∷ []) k chip)
    (pick (ltb k 9) (o (k - 5)) (c (k - 9)))

-- how many there are
abbrev pub keys : ℕ
keys = 5 + 4 + 256

-- what stands before a key's digits: "chip=153108", "readmask=", "blinkmask=", "overlay=", "timing=", "oN=", "cNN="
unfoldable pub front : Key → List ℕ
front chip = 99 ∷ 104 ∷ 105 ∷ 112 ∷ 61 ∷ 49 ∷ 53 ∷ 51 ∷ 49 ∷ 48 ∷ 56 ∷ []
front readmask = 114 ∷ 101 ∷ 97 ∷ 100 ∷ 109 ∷ 97 ∷ 115 ∷ 107 ∷ 61 ∷ []
front blinkmask = 98 ∷ 108 ∷ 105 ∷ 110 ∷ 107 ∷ 109 ∷ 97 ∷ 115 ∷ 107 ∷ 61 ∷ []
front overlay = 111 ∷ 118 ∷ 101 ∷ 114 ∷ 108 ∷ 97 ∷ 121 ∷ 61 ∷ []
front timing = 116 ∷ 105 ∷ 109 ∷ 105 ∷ 110 ∷ 103 ∷ 61 ∷ []
front (o e) = 111 ∷ hex 1 e ++ 61 ∷ []
front (c e) = 99 ∷ hex 2 e ++ 61 ∷ []

-- how many digits its value has: a register two, a colour three (red, green, blue)
abbrev pub width : Key → ℕ
width chip = 0
width readmask = 2
width blinkmask = 2
width overlay = 2
width timing = 2
width (o e) = 3
width (c e) = 3

-- which values it takes: the overlay control has bits 7, 5 and 4 zero
abbrev pub takes : Key → ℕ → Bool
takes chip v = true
takes readmask v = true
takes blinkmask v = true
takes overlay v = eqb (bit_and v reserved_bits) 0
takes timing v = true
takes (o e) v = true
takes (c e) v = true

-- "An entry may be missing and is then not touched; the five first lines may not."
abbrev pub required : Key → Bool
required chip = true
required readmask = true
required blinkmask = true
required overlay = true
required timing = true
required (o e) = false
required (c e) = false

-- ---- A line

-- a key's line: there with its value, or missing
abbrev pub Line : Type 0
Line = Option ℕ

-- a key's line with the value v, its LF too
unfoldable pub line_text : Key → ℕ → List ℕ
line_text key v = front key ++ hex (width key) v ++ 10 ∷ []

-- whether a text starts with a word
unfoldable pub starts : List ℕ → List ℕ → Bool
starts [] t = true
starts (a ∷ p) [] = false
starts (a ∷ p) (b ∷ t) = eqb a b && starts p t

-- what the bytes where a key's digits stand spell
abbrev pub spelt : Key → List ℕ → ℕ
spelt key t = number (width key) (length (front key)) t

-- A key's line at the start of a text: there, with its value, exactly where the text starts with the line of that
-- value and the key takes it (proofs/Lines.antt, `line_there` and `line_is`).
unfoldable pub line_of : Key → List ℕ → Line
line_of key t = pick (starts (line_text key (spelt key t)) t && takes key (spelt key t)) (Some (spelt key t)) None

-- ---- The grammar

-- What a text is: a good sheet, with the line of each key in order, there with its value or missing; or not, with the
-- number, from 1, of its first bad or missing line.
pub data Reading : Type 0 where
  good : List Line → Reading
  bad : ℕ → Reading

-- a reading with one key's line before it
abbrev pub led : Line → Reading → Reading
led x (good l) = good (x ∷ l)
led x (bad n) = bad n

-- behind the last key nothing may stand
abbrev pub ended : List ℕ → ℕ → Reading
ended [] n = good []
ended (b ∷ t) n = bad n

-- on with a line's value, or without it
abbrev pub onward : Line → (ℕ → Reading) → Reading → Reading
onward (Some v) with without = with v
onward None with without = without

-- The last `more` keys, from key k on, in the text t, which starts at line n. A key's line is there and the rest
-- follows it; or the key is missing, which is bad where it is required. So the keys come in order and once each.
unfoldable pub read_from : ℕ → ℕ → ℕ → List ℕ → Reading
read_from zero k n t = ended t n
read_from (suc more) k n t =
    onward (line_of (key_at k) t)
    (λ v. led (Some v) (read_from more (k + 1) (n + 1) (drop (length (line_text (key_at k) v)) t)))
    (pick (required (key_at k)) (bad n) (led None (read_from more (k + 1) n t)))

abbrev pub sheet_of : List ℕ → Reading
sheet_of t = read_from keys 0 1 t

-- the lines of a good sheet, none of a bad one; the bad line, 0 where there is none
abbrev pub lines_of : Reading → List Line
lines_of (good l) = l
lines_of (bad n) = []

abbrev pub bad_line : Reading → ℕ
bad_line (good l) = 0
bad_line (bad n) = n

abbrev pub is_bad : Reading → Bool
is_bad (good l) = false
is_bad (bad n) = true

-- of a good sheet: the registers (read mask, blink mask, overlay control, blink timing), the overlays, the colours
abbrev pub registers_of : List Line → List Line
registers_of l = take 4 (drop 1 l)

abbrev pub overlays_of : List Line → List Line
overlays_of l = take 4 (drop 5 l)

abbrev pub colours_of : List Line → List Line
colours_of l = drop 9 l

-- a colour's components
abbrev pub red_of : ℕ → ℕ
red_of v = v / 16 / 16

abbrev pub green_of : ℕ → ℕ
green_of v = v / 16 % 16

abbrev pub blue_of : ℕ → ℕ
blue_of v = v % 16

-- ---- The writer

-- a table's colours, of three bytes each, red first
unfoldable pub colours_in : List ℕ → List ℕ
colours_in [] = []
colours_in (r ∷ []) = []
colours_in (r ∷ g ∷ []) = []
colours_in (r ∷ g ∷ b ∷ t) = ((r * 16 + g) * 16 + b) ∷ colours_in t

-- a chip's values, key by key; the chip's own line has none
unfoldable pub values : Chip → List ℕ
values a =
    0 ∷
    a.state.readmask ∷
    a.state.blinkmask ∷
    a.state.control ∷
    a.state.clock.timing ∷
    colours_in a.overlays ++ colours_in a.colours

-- "The writer always lists all"
abbrev pub chip_lines : Chip → List Line
chip_lines a = map Some (values a)

-- the text of lines from key k on
unfoldable pub text_from : ℕ → List Line → List ℕ
text_from k [] = []
text_from k (Some v ∷ l) = line_text (key_at k) v ++ text_from (k + 1) l
text_from k (None ∷ l) = text_from (k + 1) l

abbrev pub text_of : Chip → List ℕ
text_of a = text_from 0 (chip_lines a)

-- a buffer with a word written over it from a place on; the bytes before and behind the word are kept
unfoldable pub pasted : List ℕ → ℕ → List ℕ → List ℕ
pasted buffer at word = take at buffer ++ word ++ drop (at + length word) buffer

-- so a word was written over `before`, which is now `after`, and r is the place behind it
abbrev pub Wrote : List ℕ → ℕ → List ℕ → ℕ → List ℕ → Type 0
Wrote before at word r after = (r ≡ at + length word) × (after ≡ pasted before at word)

unfoldable pub over_fifteen_in : List ℕ → Bool
over_fifteen_in [] = false
over_fifteen_in (x ∷ t) = ltb 15 x || over_fifteen_in t

-- when the writer is refused
abbrev pub write_refusals : Chip → List ℕ → List Row
write_refusals a out =
    (LentLength when short a) ∷
    (OutOfRange when outside a) ∷
    (OverFifteen when (over_fifteen_in a.colours || over_fifteen_in a.overlays)) ∷
    (ShortBuffer when ltb (length out) (length (text_of a))) ∷
    []

-- its whole outcome: the count is of bytes, and what is left is the buffer
unfoldable pub write : Chip → List ℕ → Outcome (List ℕ)
write a out =
    answered (refusal_of (write_refusals a out)) out (accepting 0 (length (text_of a)) (pasted out 0 (text_of a)))

-- ---- What an answer says, with the lent buffer as it is after the call

-- an answer: how much was written, or why it is refused
abbrev pub Answer : Type 0
Answer = Result ℕ Refused

-- what a refusal that tells no line says
abbrev pub refused_for : Refusal → Refused
refused_for r = record { refusal = r; line = 0 }

abbrev pub outcome : Answer → List ℕ → Outcome (List ℕ)
outcome (Ok count) out = accepting 0 count out
outcome (Err e) out = refusing (number_of e.refusal) e.line out

-- the same where a refusal has any number
abbrev pub outcome_by : Result ℕ RefusedBy → List ℕ → Outcome (List ℕ)
outcome_by (Ok count) out = accepting 0 count out
outcome_by (Err e) out = refusing e.number e.line out

-- what C gets: the one number, as it is read, and the buffer
pub record Heard : Type 0 where
  pub reply : Reply
  pub buffer : List ℕ

abbrev pub heard : ℕ → List ℕ → Heard
heard n out = record { reply = decoded n; buffer = out }

abbrev pub telling : Outcome (List ℕ) → Heard
telling x = record { reply = telling_of x; buffer = x.left }

-- the number n tells an answer, whatever the buffer
abbrev pub Tells : ℕ → Answer → Type 0
Tells n a = (out : List ℕ) → heard n out ≡ telling (outcome a out)

-- the same where a refusal has any number
abbrev pub TellsBy : ℕ → Result ℕ RefusedBy → Type 0
TellsBy n a = (out : List ℕ) → heard n out ≡ telling (outcome_by a out)
