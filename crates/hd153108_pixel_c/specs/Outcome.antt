-- A colour of the code, of the three bytes that are shown.
use Rattle.std.specs.Prelude.{ℕ, List, get_or}
use Rattle.vocabulary.specs.declared.Colour.{Colour}

abbrev pub lit : List ℕ → Colour
lit bytes = record { red = get_or bytes 0 0; green = get_or bytes 1 0; blue = get_or bytes 2 0 }
