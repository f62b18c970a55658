-- The entry that a gun shows, as the code finds it. Assumes nothing.
use Prim.Native.Nat.{ℕ, suc, ◌+◌, ◌%◌}
use mathlib.Core.Path.{◌≡◌, refl}
use mathlib.Core.List.{[], ◌∷◌}
use lib.ListN.{get_or}
use Rattle.vocabulary.specs.Component.{Component}
use Rattle.ms622424.specs.Ms622424.{pixel_byte, entry_shown}

-- the low 13 bits
pub entry_index : (mode word : ℕ) (k : Component) → mode ≡ 0 → word % 8192 ≡ entry_shown mode word k
unfolding entry_shown
entry_index mode word k e = rw e refl

-- in the RGB modes the mode's base and the gun's byte
pub entry_based : (n base mode word byte : ℕ) (k : Component) → mode ≡ suc n
    → base ≡ get_or (7424 ∷ 7680 ∷ 7936 ∷ []) n 0 → byte ≡ pixel_byte k word → base + byte ≡ entry_shown mode word k
unfolding entry_shown
entry_based n base mode word byte k e f g = rw (e, f, g) refl
