-- A line without its LF, and what the programs print of a number.
use Rattle.std.specs.Prelude.{ℕ, ◌-◌, ◌==◌, false, List, ◌++◌, length, take, get_or, replicate, cond}
use Rattle.std.specs.Fmt.{digits}

-- the lower-case hex digits of a number, with zeros before them up to a width
abbrev pub padded : ℕ → ℕ → List ℕ
padded width n = replicate (width - length (digits 16 false n)) 48 ++ digits 16 false n

-- a line without the LF at its end, 10
abbrev pub without_lf : List ℕ → List ℕ
without_lf t = cond (get_or t (length t - 1) 0 == 10) (take (length t - 1) t) t
