-- Chip B: what an access to a register may change of a chip c, which is d afterwards; all else is as it was.
use Rattle.std.specs.Prelude.{◌≡◌}
use Rattle.ms622424.specs.Ms622424.{Chip, port, control, with_port, with_control, with_queue, with_first, Register}
use Rattle.ms622424.specs.Ms622424.{address_low, address_high, palette, command, status, buffer, revision}
use Rattle.ms622424.specs.Ms622424.{initialization, none}

-- the waiting colours, where the first of them is, and the map
abbrev pub QueueAlone : Chip → Chip → Type 0
QueueAlone c d = d ≡ with_queue d.waiting d.map (with_first d.lent.first c)

-- and address, counter and buffer too: command, read mode, revision and board number stay
abbrev pub PaletteAlone : Chip → Chip → Type 0
PaletteAlone c d = d ≡ with_port d.port (with_queue d.waiting d.map (with_first d.lent.first c))

-- address and counter
abbrev pub PlaceAlone : Chip → Chip → Type 0
PlaceAlone c d = d ≡ with_port (port d.port.address d.port.counter c.port.red c.port.green) c

-- the counter
abbrev pub CounterAlone : Chip → Chip → Type 0
CounterAlone c d = d ≡ with_port (port c.port.address d.port.counter c.port.red c.port.green) c

-- the command; the read mode
abbrev pub CommandAlone : Chip → Chip → Type 0
CommandAlone c d = d ≡ with_control (control d.control.command c.control.readmode) c

abbrev pub ModeAlone : Chip → Chip → Type 0
ModeAlone c d = d ≡ with_control (control c.control.command d.control.readmode) c

abbrev pub WriteLeaves : Register → Chip → Chip → Type 0
WriteLeaves address_low c d = PlaceAlone c d
WriteLeaves address_high c d = PlaceAlone c d
WriteLeaves palette c d = PaletteAlone c d
WriteLeaves command c d = CommandAlone c d
WriteLeaves status c d = d ≡ c
WriteLeaves buffer c d = d ≡ c
WriteLeaves revision c d = d ≡ c
WriteLeaves initialization c d = ModeAlone c d
WriteLeaves none c d = d ≡ c

-- reads of address, command, status and revision move nothing
abbrev pub ReadLeaves : Register → Chip → Chip → Type 0
ReadLeaves address_low c d = d ≡ c
ReadLeaves address_high c d = d ≡ c
ReadLeaves palette c d = PlaceAlone c d
ReadLeaves command c d = d ≡ c
ReadLeaves status c d = d ≡ c
ReadLeaves buffer c d = CounterAlone c d
ReadLeaves revision c d = d ≡ c
ReadLeaves initialization c d = ModeAlone c d
ReadLeaves none c d = d ≡ c
