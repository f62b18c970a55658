-- "two outcomes allowed by it are equal": one shape for every call. A is all that a caller sees afterwards, the answer
-- and each lent slice; `says` makes of it what the call's promise speaks of, and d is the promised outcome.
use Rattle.std.specs.Prelude.{ℕ, ◌<◌, ◌≡◌, List, Ok, Err}
use Rattle.vocabulary.specs.Refusal.{number}
use Rattle.vocabulary.specs.Outcome.{Outcome}
use Rattle.vocabulary.specs.declared.Shown.{Shown}
use Rattle.sheet.specs.Sheet.{Answer, outcome, heard, telling}

-- whatever meets the promise is one thing; Held is what the answer's type holds
abbrev pub DeterminedOf : {A C : Type 0} → (A → Type 0) → (A → C) → C → Type 0
DeterminedOf {A = A} Held says d = (a b : A) → Held a → Held b → says a ≡ d → says b ≡ d → a ≡ b

-- the same where that is nothing more
abbrev pub Determined : {A C : Type 0} → (A → C) → C → Type 0
Determined {A = A} says d = DeterminedOf {A = A} (λ a. Unit) says d

-- the bytes of a pixel
pub record Bytes (a : Shown) : Type 0 where
  pub red : a.red < 256
  pub green : a.green < 256
  pub blue : a.blue < 256

-- a refusal of an answer has a number; 0 would mean what `Ok(0)` means
abbrev pub Numbered : Answer → Type 0
Numbered (Ok count) = Unit
Numbered (Err e) = number e.refusal ≡ 0 → ⊥

-- an answer with its buffer, and the number that C gets with it: what each says of the buffer's calls
abbrev pub Fills : Outcome (List ℕ) → Type 0
Fills d = Determined {A = Answer × List ℕ} (λ x. outcome x.0 x.1) d

abbrev pub Tells : Outcome (List ℕ) → Type 0
Tells d = Determined {A = ℕ × List ℕ} (λ x. heard x.0 x.1) (telling d)

-- an accepted call counts something
abbrev pub Counts : Outcome (List ℕ) → Type 0
Counts d = d.refusal ≡ 0 → d.count ≡ 0 → ⊥
