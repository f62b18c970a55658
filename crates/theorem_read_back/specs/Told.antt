-- What an accepted call tells, of every chip: its value alone, or the moves that it counts alone.
use Rattle.std.specs.Prelude.{ℕ}
use Rattle.vocabulary.specs.Reply.{Reply, reply}

abbrev pub tells : ℕ → Reply
tells v = reply 0 v 0 0

abbrev pub counts : ℕ → Reply
counts n = reply 0 0 n 0
