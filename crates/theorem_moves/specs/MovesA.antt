-- Chip A: what an access to a register may change of a chip c, which is d afterwards; all else is as it was.
use Rattle.std.specs.Prelude.{◌≡◌}
use Rattle.hd153108.specs.Hd153108.{Chip, Register, address_register, data_of, reserved, read_mask, blink_mask}
use Rattle.hd153108.specs.Hd153108.{overlay_control, blink_timing, port, registers, table_of, with_table, with_state}

abbrev pub WriteLeaves : Register → Chip → Chip → Type 0
-- address and pointer; the latches, the registers and the tables stay
WriteLeaves address_register c d =
    let s = c.state in
    d ≡ with_state (port s d.state.address d.state.pointer s.red s.green) c
-- one table, address, pointer and latches; the other table and the registers stay
WriteLeaves (data_of t) c d =
    let n = d.state in
    d ≡ with_table t (table_of t d) (with_state (port c.state n.address n.pointer n.red n.green) c)
WriteLeaves reserved c d = d ≡ c
-- a register changes itself alone; the blink timing has the position beside it
WriteLeaves read_mask c d =
    let s = c.state in
    d ≡ with_state (registers s d.state.readmask s.blinkmask s.control s.clock) c
WriteLeaves blink_mask c d =
    let s = c.state in
    d ≡ with_state (registers s s.readmask d.state.blinkmask s.control s.clock) c
WriteLeaves overlay_control c d =
    let s = c.state in
    d ≡ with_state (registers s s.readmask s.blinkmask d.state.control s.clock) c
WriteLeaves blink_timing c d =
    let s = c.state in
    d ≡ with_state (registers s s.readmask s.blinkmask s.control d.state.clock) c

abbrev pub ReadLeaves : Register → Chip → Chip → Type 0
-- an address read moves the pointer, a data read pointer and address; every other read moves nothing
ReadLeaves address_register c d =
    let s = c.state in
    d ≡ with_state (port s s.address d.state.pointer s.red s.green) c
ReadLeaves (data_of t) c d =
    let s = c.state in
    d ≡ with_state (port s d.state.address d.state.pointer s.red s.green) c
ReadLeaves reserved c d = d ≡ c
ReadLeaves read_mask c d = d ≡ c
ReadLeaves blink_mask c d = d ≡ c
ReadLeaves overlay_control c d = d ≡ c
ReadLeaves blink_timing c d = d ≡ c
