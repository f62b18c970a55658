-- Whether a text starts with a word, as the library's `starts_with` finds it. Assumes nothing.
use Prim.Native.Nat.{ℕ}
use mathlib.Core.Path.{◌≡◌, refl, ap}
use mathlib.Core.Bool.{◌&&◌}
use mathlib.Core.List.{List, [], ◌∷◌}
use lib.Dec.{eqb}
use Rattle.std.specs.List.{starts_with}
use Rattle.sheet.specs.Sheet.{starts}

pub starts_same : (t p : List ℕ) → starts_with eqb t p ≡ starts p t
unfolding starts
starts_same t [] = refl
starts_same [] (a ∷ p) = refl
starts_same (b ∷ t) (a ∷ p) = ap (λ r. eqb a b && r) (starts_same t p)
