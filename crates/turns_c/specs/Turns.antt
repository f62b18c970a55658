-- What a log line's call does to chip C, and the line that answers it.
use Rattle.std.specs.Prelude.{ℕ, List, ◌≡◌}
use Rattle.rgb640.specs.declared.State.{State}
use Rattle.rgb640.specs.Rgb640.{Chip, chip, called, writes, reads, resets, looks}
use Rattle.port_log.specs.declared.Call.{Call}
use Rattle.port_log.specs.declared.Call.TheVariants.{Write, Read, Reset, Look, OfA, OfB}
use Rattle.turns.specs.Turns.{Turn, bad, done, valued, sighted, turn}
use Rattle.turns.specs.declared.Taken.{Taken}

abbrev pub c_turn : Call → Chip → Turn Chip
c_turn (Write port byte) c = done (called (writes port byte) c)
c_turn (Read port) c = valued (called (reads port) c)
c_turn Reset c = done (called resets c)
c_turn (Look place) c = sighted (called (looks place) c)
c_turn (OfA call) c = bad c
c_turn (OfB call) c = bad c

-- a turn that was taken, with the lent table as it is afterwards
abbrev pub CTook : Taken State → List ℕ → Turn Chip → Type 0
CTook r table t = turn r.text (chip r.state table) ≡ t
