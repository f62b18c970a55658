-- A table has a byte over 15 where any byte of it is. Assumes nothing.
use Prim.Native.Nat.{ℕ}
use mathlib.Core.Path.{◌≡◌, refl, ap}
use mathlib.Core.Bool.{◌||◌}
use mathlib.Core.List.{List, [], ◌∷◌}
use lib.Dec.{ltb}
use Rattle.std.specs.List.{list_any}
use Rattle.sheet.specs.Sheet.{over_fifteen_in}

pub over_any : (t : List ℕ) → list_any (λ (x : ℕ). ltb 15 x) t ≡ over_fifteen_in t
unfolding over_fifteen_in
over_any [] = refl
over_any (x ∷ t) = ap (λ r. ltb 15 x || r) (over_any t)
