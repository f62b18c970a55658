-- A part of an access, on a state and with no table at hand: its answer is the whole call's, on the chip with that state
-- and any two tables with which it is in range; they stay as they are.
use Rattle.std.specs.Prelude.{ℕ, List, ◌≡◌}
use Rattle.hd153108.specs.declared.State.{State}
use Rattle.hd153108.specs.declared.Answer.{Answer}
use Rattle.hd153108.specs.Hd153108.{chip, Call, InRange, called, outcome}

abbrev pub Serves : Call → State → Answer → Type 0
Serves k s a = (cs os : List ℕ) → InRange (chip s cs os) → outcome a cs os ≡ called k (chip s cs os)
