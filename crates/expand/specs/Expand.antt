-- A component of 4 to 8 bits as ten: source document 001, Tables 23 to 25, and document 02, P4. A table's row has the
-- component's bits from the top, and from the top again, until ten are filled.
use Rattle.std.specs.Prelude.{ℕ, zero, suc, ◌+◌, ◌*◌, ◌-◌, ◌^◌, ◌%◌, List, [], ◌∷◌, Result, Ok, Err}
use Rattle.vocabulary.specs.Line.{line}
use Rattle.vocabulary.specs.Range.{below, fails}
use Rattle.vocabulary.specs.Refusal.{Row, ◌when◌, number, refusal_of}
use Rattle.vocabulary.specs.declared.Refusal.{Refusal}
use Rattle.vocabulary.specs.declared.Refusal.TheVariants.{OutOfRange}
use Rattle.vocabulary.specs.Outcome.{Outcome, accepting, refusing, answered}

-- the bits of a component v of w bits, from its top, over and over: the one at place i
abbrev pub repeated : ℕ → ℕ → ℕ → ℕ
repeated w v i = line v (w - 1 - i % w)

-- the number that the first n of them are
unfoldable pub filled : ℕ → ℕ → ℕ → ℕ
filled w v zero = 0
filled w v (suc n) = 2 * filled w v n + repeated w v n

-- the first ten; at 8 bits that is 4v + floor(v/64) (theorem_scope_expand has every width's rule)
unfoldable pub ten : ℕ → ℕ → ℕ
ten w v = filled w v 10

-- when an expansion is refused: a width outside 4 to 8, or a value that w bits do not hold
abbrev pub refusals : ℕ → ℕ → List Row
refusals w v = (OutOfRange when fails (below 3 w ∷ below w 9 ∷ below v (2 ^ w) ∷ [])) ∷ []

-- an expansion's whole outcome; it has no state and is lent nothing
unfoldable pub expansion : ℕ → ℕ → Outcome Unit
expansion w v = answered (refusal_of (refusals w v)) tt (accepting (ten w v) 0 tt)

-- what each answer means
abbrev pub meaning : Result ℕ Refusal → Outcome Unit
meaning (Ok t) = accepting t 0 tt
meaning (Err r) = refusing (number r) 0 tt
