-- What a log line's call does to chip B, and the line that answers it.
use Rattle.std.specs.Prelude.{ℕ, List, ◌≡◌}
use Rattle.ms622424.specs.Ms622424.{Chip, called, writes, reads, resets, looks, blanks, pixels, signals}
use Rattle.ms622424_places.specs.declared.State.{State}
use Rattle.ms622424_places.specs.Places.{handed, view}
use Rattle.port_log.specs.declared.Call.{Call}
use Rattle.port_log.specs.declared.Call.TheVariants.{Write, Read, Reset, Look, OfA, OfB}
use Rattle.port_log.specs.declared.CallB.{CallB}
use Rattle.port_log.specs.declared.CallB.TheVariants.{Pixel, Blank, Sync}
use Rattle.turns.specs.Turns.{Turn, bad, done, valued, sighted, moved, signalled, poured, turn}
use Rattle.turns.specs.declared.Taken.{Taken}

abbrev pub b_own : CallB → Chip → Turn Chip
b_own (Pixel mode word) c = poured (called (pixels mode word) c)
b_own (Blank slots) c = moved (called (blanks slots) c)
b_own (Sync s) c = signalled (called (signals s) c)

abbrev pub b_turn : Call → Chip → Turn Chip
b_turn (Write select byte) c = moved (called (writes select byte) c)
b_turn (Read select) c = valued (called (reads select) c)
b_turn Reset c = done (called resets c)
b_turn (Look place) c = sighted (called (looks place) c)
b_turn (OfA call) c = bad c
b_turn (OfB call) c = b_own call c

-- a turn that was taken, with the lent queue and map as they are afterwards
abbrev pub BTook : Taken State → List ℕ → List ℕ → Turn Chip → Type 0
BTook r queue map t = turn r.text (view (handed r.state queue map)) ≡ t
