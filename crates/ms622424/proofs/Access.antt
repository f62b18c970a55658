-- Which component the counter selects. Assumes nothing.
use Prim.Native.Nat.{ℕ, zero, suc}
use mathlib.Core.Path.{◌≡◌, refl}
use Rattle.vocabulary.specs.Component.{red, green, blue, component_at}

pub is_red : {counter : ℕ} → counter ≡ 0 → component_at counter ≡ red
unfolding component_at
is_red e = rw e

pub is_green : {counter : ℕ} → counter ≡ 1 → component_at counter ≡ green
unfolding component_at
is_green e = rw e

pub is_blue : (counter : ℕ) → (counter ≡ 0 → ⊥) → (counter ≡ 1 → ⊥) → component_at counter ≡ blue
unfolding component_at
is_blue zero e f = absurd (e refl)
is_blue (suc zero) e f = absurd (f refl)
is_blue (suc (suc counter)) e f = refl
