-- The hex digits that a format writes of a number, as the contracts say them.
use Rattle.std.proofs.Common.{ℕ, ◌-◌, ◌^◌, ◌≡◌, false, [], length, arith, append-nil}
use Rattle.std.specs.Fmt.{digits, char_count, padded_integral, format_spec}
use Rattle.script.specs.Text.{padded}

pub padded_written : (width n : ℕ) → padded_integral (format_spec 32 0 4 width (2 ^ 64 - 1)) false []
    (digits 16 false n) ≡ padded width n
unfolding padded_integral char_count
padded_written width n =
    let short : width - length (digits 16 false n) - 0 - 0 ≡ width - length (digits 16 false n) = omega arith in
    rw (short, append-nil (digits 16 false n))
