-- Some of the log is answered, a byte or more in each turn, and the rest still comes.
use Rattle.std.proofs.Common.{ℕ, ◌≡◌, List, Some}
use Rattle.printer.specs.Held.{held}
use Rattle.input.specs.Input.{coming}
use Rattle.replay.specs.Replay.{desk_of}
use Rattle.replay.proofs.Stages.{Going}
use Rattle.replay.proofs.replay.Given as goal

abbrev pub invariant-loop-turn : goal.invariant-loop-turn
invariant-loop-turn g l = (log : List ℕ) → coming (g.R.Read.remaining l.initial.from) l.initial.input.unread ≡ Some log
    → Going log (desk_of l.initial.s l.initial.lent) (held (g.W.Write.contents l.initial.to) l.initial.out)
    (coming (g.R.Read.remaining l.from) l.input.unread) (held (g.W.Write.contents l.to) l.out) (desk_of l.s l.lent)
    l._turn
