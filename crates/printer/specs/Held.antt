-- An output with a printer before it: what was printed, and behind it what waits.
use Rattle.std.specs.Prelude.{ℕ, List}
use Rattle.std.specs.declared.option.Option.{Option}
use Rattle.std.specs.Io.KnownBytes.{append_known}

-- the bytes that were printed, where they are known, and those that wait
abbrev pub held : Option (List ℕ) → List ℕ → Option (List ℕ)
held printed waits = append_known printed waits
