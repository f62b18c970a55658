-- What a look at a place of a chip in range answers: the number that stands there, or refusal 3.
use Rattle.std.specs.Prelude.{ℕ, Option, Some, None}
use Rattle.vocabulary.specs.declared.Looked.{Looked}
use Rattle.vocabulary.specs.Look.{seen, unseen}

abbrev pub telling_place : Option ℕ → Looked
telling_place (Some n) = seen n
telling_place None = unseen 3
