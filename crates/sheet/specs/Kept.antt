-- What was read of a sheet, as it is kept: its lines, or the number of its first bad or missing line.
use Rattle.std.specs.Prelude.{ℕ, List, Result, Ok, Err}
use Rattle.sheet.specs.Sheet.{Line, Reading, good, bad}

-- the reading that is kept
abbrev pub reading_of : Result (List Line) ℕ → Reading
reading_of (Ok l) = good l
reading_of (Err n) = bad n
