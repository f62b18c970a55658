-- What a step's result means of the numbers that it was made of: the clock after the tick, or the one before.
use Rattle.std.specs.Prelude.{ℕ, Result, Ok, Err}
use Rattle.vocabulary.specs.declared.Refusal.{Refusal}
use Rattle.vocabulary.specs.Refusal.{number}
use Rattle.vocabulary.specs.Outcome.{Outcome, accepting, refusing}
use Rattle.hd153108.specs.Hd153108.{clock}
use Rattle.hd153108.specs.declared.Clock.{Clock}

abbrev pub stepping : ℕ → ℕ → Result ℕ Refusal → Outcome Clock
stepping timing position (Ok after) = accepting 0 0 (clock timing after)
stepping timing position (Err r) = refusing (number r) 0 (clock timing position)
