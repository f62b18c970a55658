-- A line of a port log, without its LF: the forms that it may have, and what each says. A form is a pattern, in which
-- '#' stands for one hex digit, lower case, and any other byte for itself.
use Rattle.std.specs.Prelude.{ℕ, List, [], ◌∷◌, ◌++◌, ltb}
use Rattle.vocabulary.specs.Choice.{pick}
use Rattle.hex_digits.specs.Hex.{number}
use Rattle.log_pattern.specs.Pattern.{fits}
use Rattle.port_log.specs.declared.Line.{Line}
use Rattle.port_log.specs.declared.Line.TheVariants.{To, Choose, Expand, Sheet, Bad}
use Rattle.port_log.specs.declared.Chip.TheVariants.{ChipA, ChipB, ChipC}
use Rattle.port_log.specs.declared.Call.TheVariants.{Write, Read, Reset, Look, OfA, OfB}
use Rattle.port_log.specs.declared.CallA.TheVariants.{Tick, Pixel as PixelA}
use Rattle.port_log.specs.declared.CallB.TheVariants.{Pixel as PixelB, Blank, Sync}

-- ---- The forms

-- a pattern, and what a line that has it says
pub record Form : Type 0 where
  pub pattern : List ℕ
  pub says : List ℕ → Line

abbrev pub form : List ℕ → (List ℕ → Line) → Form
form pattern says = record { pattern = pattern; says = says }

-- the patterns, byte by byte
-- "w#=##", "r#", "reset", "look=#####", "expand=#####"
abbrev pub writing : List ℕ
writing = 119 ∷ 35 ∷ 61 ∷ 35 ∷ 35 ∷ []

abbrev pub reading : List ℕ
reading = 114 ∷ 35 ∷ []

abbrev pub resetting : List ℕ
resetting = 114 ∷ 101 ∷ 115 ∷ 101 ∷ 116 ∷ []

abbrev pub looking : List ℕ
looking = 108 ∷ 111 ∷ 111 ∷ 107 ∷ 61 ∷ 35 ∷ 35 ∷ 35 ∷ 35 ∷ 35 ∷ []

abbrev pub expanding : List ℕ
expanding = 101 ∷ 120 ∷ 112 ∷ 97 ∷ 110 ∷ 100 ∷ 61 ∷ 35 ∷ 35 ∷ 35 ∷ 35 ∷ 35 ∷ []

-- "chip=153108", "chip=622424", "chip=640"
abbrev pub choosing_a : List ℕ
choosing_a = 99 ∷ 104 ∷ 105 ∷ 112 ∷ 61 ∷ 49 ∷ 53 ∷ 51 ∷ 49 ∷ 48 ∷ 56 ∷ []

abbrev pub choosing_b : List ℕ
choosing_b = 99 ∷ 104 ∷ 105 ∷ 112 ∷ 61 ∷ 54 ∷ 50 ∷ 50 ∷ 52 ∷ 50 ∷ 52 ∷ []

abbrev pub choosing_c : List ℕ
choosing_c = 99 ∷ 104 ∷ 105 ∷ 112 ∷ 61 ∷ 54 ∷ 52 ∷ 48 ∷ []

-- "tick", "pixel=####", "sheet"
abbrev pub ticking : List ℕ
ticking = 116 ∷ 105 ∷ 99 ∷ 107 ∷ []

abbrev pub showing_a : List ℕ
showing_a = 112 ∷ 105 ∷ 120 ∷ 101 ∷ 108 ∷ 61 ∷ 35 ∷ 35 ∷ 35 ∷ 35 ∷ []

abbrev pub listing : List ℕ
listing = 115 ∷ 104 ∷ 101 ∷ 101 ∷ 116 ∷ []

-- "pixel=#########", "blank=########", "sync=#"
abbrev pub showing_b : List ℕ
showing_b = 112 ∷ 105 ∷ 120 ∷ 101 ∷ 108 ∷ 61 ∷ 35 ∷ 35 ∷ 35 ∷ 35 ∷ 35 ∷ 35 ∷ 35 ∷ 35 ∷ 35 ∷ []

abbrev pub blanking : List ℕ
blanking = 98 ∷ 108 ∷ 97 ∷ 110 ∷ 107 ∷ 61 ∷ 35 ∷ 35 ∷ 35 ∷ 35 ∷ 35 ∷ 35 ∷ 35 ∷ 35 ∷ []

abbrev pub syncing : List ℕ
syncing = 115 ∷ 121 ∷ 110 ∷ 99 ∷ 61 ∷ 35 ∷ []

-- an overlay enable is 0 or 1
unfoldable pub shows : ℕ → ℕ → ℕ → Line
shows enable o byte = pick (ltb enable 2) (To (OfA (PixelA enable o byte))) Bad

-- calls that every chip has: a field is the number that so many digits spell, from a place on
abbrev pub call_forms : List Form
call_forms =
    form writing (λ t. To (Write (number 1 1 t) (number 2 3 t))) ∷
    form reading (λ t. To (Read (number 1 1 t))) ∷
    form resetting (λ t. To Reset) ∷
    []

-- calls of chip A
abbrev pub a_forms : List Form
a_forms =
    form ticking (λ t. To (OfA Tick)) ∷
    form showing_a (λ t. shows (number 1 6 t) (number 1 7 t) (number 2 8 t)) ∷
    []

-- calls of chip B
abbrev pub b_forms : List Form
b_forms =
    form showing_b (λ t. To (OfB (PixelB (number 1 6 t) (number 8 7 t)))) ∷
    form blanking (λ t. To (OfB (Blank (number 8 6 t)))) ∷
    form syncing (λ t. To (OfB (Sync (number 1 5 t)))) ∷
    []

-- the board's own lines: the choice of a chip, the expander, and the sheet
abbrev pub choices : List Form
choices =
    form choosing_a (λ t. Choose ChipA) ∷
    form choosing_b (λ t. Choose ChipB) ∷
    form choosing_c (λ t. Choose ChipC) ∷
    []

abbrev pub board_forms : List Form
board_forms = form expanding (λ t. Expand (number 1 7 t) (number 4 8 t)) ∷ form listing (λ t. Sheet) ∷ choices

-- a look, a call that every chip has too: tried last, since few lines are looks
abbrev pub look_forms : List Form
look_forms = form looking (λ t. To (Look (number 5 5 t))) ∷ []

-- ---- A line

-- what the first form that a line has says; a line of no form, of any length, is bad
unfoldable pub said : List Form → List ℕ → Line
said [] t = Bad
said (f ∷ fs) t = pick (fits f.pattern t) (f.says t) (said fs t)

-- what a line says
abbrev pub line_of : List ℕ → Line
line_of t = said (call_forms ++ a_forms ++ b_forms ++ board_forms ++ look_forms) t
