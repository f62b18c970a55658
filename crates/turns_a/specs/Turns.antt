-- What a log line's call does to chip A, and the line that answers it.
use Rattle.std.specs.Prelude.{ℕ, List, ◌≡◌}
use Rattle.hd153108.specs.declared.State.{State}
use Rattle.hd153108.specs.Hd153108.{Chip, chip, called, writes, reads, resets, looks, ticks, pixels}
use Rattle.port_log.specs.declared.Call.{Call}
use Rattle.port_log.specs.declared.Call.TheVariants.{Write, Read, Reset, Look, OfA, OfB}
use Rattle.port_log.specs.declared.CallA.{CallA}
use Rattle.port_log.specs.declared.CallA.TheVariants.{Tick, Pixel}
use Rattle.turns.specs.Turns.{Turn, bad, done, valued, sighted, poured, turn}
use Rattle.turns.specs.declared.Taken.{Taken}

abbrev pub a_own : CallA → Chip → Turn Chip
a_own Tick c = done (called ticks c)
a_own (Pixel enable n byte) c = poured (called (pixels enable n byte) c)

abbrev pub a_turn : Call → Chip → Turn Chip
a_turn (Write select byte) c = done (called (writes select byte) c)
a_turn (Read select) c = valued (called (reads select) c)
a_turn Reset c = done (called resets c)
a_turn (Look place) c = sighted (called (looks place) c)
a_turn (OfA call) c = a_own call c
a_turn (OfB call) c = bad c

-- a turn that was taken, with the lent tables as they are afterwards
abbrev pub ATook : Taken State → List ℕ → List ℕ → Turn Chip → Type 0
ATook r colours overlays t = turn r.text (chip r.state colours overlays) ≡ t
