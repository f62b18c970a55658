-- Either way: a number below a limit or not, one of two or three, a place in a part or beside it, ranges that hold or
-- not; and what is told of each number of a list. Assumes nothing.
use Prim.Native.Nat.{ℕ, zero, suc, ◌+◌, ◌-◌, ◌<◌, ◌≤◌}
use mathlib.Core.Path.{◌≡◌, sym, ◌∙◌}
use mathlib.Core.List.{List, [], ◌∷◌}
use native.Mathlib.Omega.{arith}
use borrow.Author.Tests.{ltb-true, ltb-false, eqb-true, eqb-false}
use lib.Dec.{ltb, eqb}
use lib.ListN.{length, get_or}
use Rattle.vocabulary.specs.Range.{Bound, fails, Holds}
use Rattle.vocabulary.proofs.Choice.{cases}
use Rattle.vocabulary.proofs.Range.{clash, passes_holds, holds_passes}

module _ {P : Type 0} where
  pub under : (n limit : ℕ) → (n < limit → P) → (limit ≤ n → P) → P
  under n limit x y = cases (ltb n limit) (λ t. x (ltb-true n limit t)) (λ t. y (ltb-false n limit t))

  pub equals : (n m : ℕ) → (n ≡ m → P) → (¬ (n ≡ m) → P) → P
  equals n m x y = cases (eqb n m) (λ t. x (eqb-true n m t)) (λ t. y (eqb-false n m t))

  pub two : (n : ℕ) → n < 2 → (n ≡ 0 → P) → (n ≡ 1 → P) → P
  two n h x y = equals n 0 x (λ z. y (omega arith))

  pub three : (n : ℕ) → n < 3 → (n ≡ 0 → P) → (n ≡ 1 → P) → (n ≡ 2 → P) → P
  three n h x y z = equals n 0 x (λ a. equals n 1 y (λ b. z (omega arith)))

  -- so far behind the first of n places, or in none of them
  pub within : (first n place : ℕ) → ((i : ℕ) → i < n → place ≡ first + i → P)
      → (¬ ((first ≤ place) × (place < first + n)) → P) → P
  within first n place there none =
      under place first (λ l. none (λ h. omega (arith, h.0)))
      (λ l. under place (first + n) (λ u. there (place - first) (omega arith) (omega arith))
      (λ u. none (λ h. omega (arith, h.1))))

  -- facts that ranges say
  pub bounds : {Q : Type 0} (bs : List Bound) → (Holds bs → Q) → (Q → Holds bs) → (Q → P) → (¬ Q → P) → P
  bounds bs to from x y =
      cases (fails bs) (λ t. y (λ q. clash (sym t ∙ holds_passes bs (from q)))) (λ t. x (to (passes_holds bs t)))

-- what holds of each number of a list and its place holds of any
abbrev pub Each : (ℕ → ℕ → Type 0) → List ℕ → Type 0
Each T [] = Unit
Each T (n ∷ l) = T 0 n × Each (λ i. T (suc i)) l

pub any : (T : ℕ → ℕ → Type 0) (l : List ℕ) → Each T l → (i : ℕ) → i < length l → T i (get_or l i 0)
any T [] e i h = absurd (let z : ⊥ = omega arith in z)
any T (n ∷ l) e zero h = e.0
any T (n ∷ l) e (suc i) h = any (λ j. T (suc j)) l e.1 i (omega arith)
