-- Looks: the number that stands at a place of a chip. A look moves nothing (request P5). A chip's places are one table
-- of its definitions, `look_places`; what follows is of any chip.
use Rattle.std.specs.Prelude.{ℕ, ◌-◌, Bool, true, false, List, [], ◌∷◌, length, get_or, Result, Ok, Err}
use Rattle.vocabulary.specs.Choice.{pick}
use Rattle.vocabulary.specs.Range.{within, meets}
use Rattle.vocabulary.specs.Refusal.{number, Row, ◌when◌}
use Rattle.vocabulary.specs.declared.Refusal.{Refusal}
use Rattle.vocabulary.specs.declared.Refusal.TheVariants.{LentLength, OutOfRange, NoAccess}
use Rattle.vocabulary.specs.Outcome.{Outcome, accepting}
use Rattle.vocabulary.specs.declared.Looked.{Looked}

-- a row of the table: numbers that stand at the places from one on; or one number at one place
pub record Block : Type 0 where
  pub from : ℕ
  pub numbers : List ℕ

infix 20 ◌holds◌
abbrev pub ◌holds◌ : ℕ → List ℕ → Block
from holds numbers = record { from = from; numbers = numbers }

infix 20 ◌has◌
abbrev pub ◌has◌ : ℕ → ℕ → Block
place has number = place holds (number ∷ [])

-- what is found at a place: a number, or there is no such place
pub data Found : Type 0 where
  there : ℕ → Found
  nowhere : Found

unfoldable pub found : List Block → ℕ → Found
found [] place = nowhere
found (b ∷ bs) place =
    pick (meets (within b.from (length b.numbers) place)) (there (get_or b.numbers (place - b.from) 0))
    (found bs place)

abbrev pub is_nowhere : Found → Bool
is_nowhere (there n) = false
is_nowhere nowhere = true

abbrev pub number_of : Found → ℕ
number_of (there n) = n
number_of nowhere = 0

-- refusals 1 and 9 as for the chip's other calls, then 3 for a place that isn't there
abbrev pub look_refusals : Bool → Bool → Found → List Row
look_refusals short outside f =
    (LentLength when short) ∷ (OutOfRange when outside) ∷ (NoAccess when is_nowhere f) ∷ []

-- what an accepted look does: it answers, and leaves its chip
abbrev pub looked : {C : Type 0} → Found → C → Outcome C
looked f c = accepting (number_of f) 0 c

-- what the code answers, as an outcome of the chip that it was asked of: it hands no chip back
abbrev pub looking : {C : Type 0} → Looked → C → Outcome C
looking a c = record { refusal = a.refusal; value = a.value; count = 0; line = 0; left = c }

-- the answer with a number, and one that refuses
abbrev pub seen : ℕ → Looked
seen n = record { refusal = 0; value = n }

abbrev pub unseen : ℕ → Looked
unseen n = record { refusal = n; value = 0 }

-- the answer that a look's result makes
abbrev pub telling_look : Result ℕ Refusal → Looked
telling_look (Ok n) = seen n
telling_look (Err r) = unseen (number r)
