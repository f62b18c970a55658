-- How a look's outcome is told, of any chip: the code's answer was told, and is the outcome that the chip's definition
-- has. Assumes nothing.
use mathlib.Core.Path.{◌≡◌, sym}
use Prim.Native.Nat.{ℕ}
use mathlib.Core.List.{List}
use Rattle.vocabulary.specs.Outcome.{Outcome}
use Rattle.answers.specs.Answers.{look_text, told}
use Rattle.turns.specs.Turns.{sighted, Took}

-- o is the code's answer with its lent tables, p what the chip's definition has
module _ {C : Type 0} {text : List ℕ} {left : C} {o p : Outcome C} (e : o ≡ p) (l : left ≡ o.left) where
  pub took_sighted : text ≡ told o.refusal (look_text o.value) → Took (λ t. text ≡ t) left (sighted p)
  took_sighted s = rw (sym e) (record { says = s; leaves = l })
