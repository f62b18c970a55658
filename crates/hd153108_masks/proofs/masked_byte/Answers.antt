-- In the on time, one `and` with the read mask's complement (`masked_on`, of eight lines); in the off time one more,
-- with the blink mask (`masked_off`). Which time it is, the test says, and is put into the promise first.
use Prim.Native.Nat.{◌-◌}
use native.Mathlib.Omega.{arith}
use Rattle.hd153108.proofs.Masks.{masked_on, masked_off}
use Rattle.hd153108_masks.proofs.masked_byte.Goals as goal

pub returns-then-off : goal.returns-then-off
returns-then-off c =
    let a = c.args in
    let on = masked_on 8 0 a.read a.blink a.byte (255 - a.read) (omega arith) (omega arith) in
    rw (c.if-off.true, on, masked_off 8 a.read a.blink a.byte)

pub returns-else-off : goal.returns-else-off
returns-else-off c =
    let a = c.args in
    rw (c.if-off.false, masked_on 8 0 a.read a.blink a.byte (255 - a.read) (omega arith) (omega arith))
