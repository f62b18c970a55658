-- A line of a number: its bit k, 0 or 1.
use Rattle.std.specs.Prelude.{ℕ, ◌/◌, ◌%◌, ◌^◌}

abbrev pub line : ℕ → ℕ → ℕ
line n k = n / 2 ^ k % 2
