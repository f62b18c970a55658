-- So few digits fit (`number_fits`).
use Rattle.std.proofs.Common.{arith}
use Rattle.hex_digits.proofs.Number.{number_fits}
use Rattle.hex_number.proofs.spelt_byte.Goals as goal

pub overflow_cast-result : goal.overflow_cast-result
overflow_cast-result c = record { fits = number_fits 2 _ _ _ c.spelt.ensures (omega arith) }
