-- A digit is an entry of the table of sixteen.
use Rattle.std.proofs.Common.{◌%◌, arith}
use Rattle.vocabulary.specs.Choice.{pick}
use Rattle.vocabulary.proofs.Table.{table_rule}
use Rattle.hex_digits.specs.Hex.{hex_digit}
use Rattle.hex_digits.proofs.digit.Goals as goal

pub returns : goal.returns
unfolding hex_digit pick
returns c = table_rule hex_digit 16 (c.args.x % 16) (omega arith)
