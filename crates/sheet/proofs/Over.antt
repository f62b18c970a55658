-- A table has no byte over 15 exactly where every byte of it is below 16. Assumes nothing.
use Prim.Native.Nat.{ℕ}
use mathlib.Core.Path.{◌≡◌, refl}
use mathlib.Core.Bool.{not}
use mathlib.Core.List.{List, [], ◌∷◌}
use native.Mathlib.Omega.{arith}
use borrow.Author.Tests.{lt-ltb, le-ltb}
use lib.Dec.{ltb}
use Rattle.vocabulary.specs.Every.{every}
use Rattle.vocabulary.proofs.Cases.{under}
use Rattle.sheet.specs.Sheet.{over_fifteen_in}

pub over_fifteen_lem : (t : List ℕ) → not (over_fifteen_in t) ≡ every (λ (x : ℕ). ltb x 16) t
unfolding over_fifteen_in every
over_fifteen_lem [] = refl
over_fifteen_lem (x ∷ t) =
    under x 16
    (λ l. rw (le-ltb 15 x (omega arith), lt-ltb x 16 l) (over_fifteen_lem t))
    (λ l. rw (lt-ltb 15 x (omega arith), le-ltb x 16 l) refl)
