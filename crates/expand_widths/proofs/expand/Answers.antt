use Rattle.std.proofs.Common.{rules}
use Rattle.expand_widths.proofs.Thrice.{once_row, twice_row, row_fits}
use Rattle.expand_widths.proofs.expand.Goals as goal

pub overflow_add-thrice : goal.overflow_add-thrice
overflow_add-thrice c = search (once_row, twice_row, row_fits, rules)
