-- At most seven digits stand before the last, so that all eight fit (`number_fits` at 7).
use Rattle.std.proofs.Common.{arith}
use Rattle.hex_digits.proofs.Number.{number_fits}
use Rattle.hex_number.proofs.spelt.Goals as goal

pub overflow_mul-v : goal.overflow_mul-v
overflow_mul-v c = record { fits = omega (arith, number_fits 7 c.loop-w.w _ _ c.loop-w.invariant (omega arith)) }

pub overflow_add-v : goal.overflow_add-v
overflow_add-v c = record { fits = omega (arith, number_fits 7 c.loop-w.w _ _ c.loop-w.invariant (omega arith)) }
