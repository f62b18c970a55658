-- Laws of a test that every element of a list passes. Assumes nothing.
use Prim.Native.Nat.{ℕ, zero, suc, ◌<◌}
use mathlib.Core.Path.{◌≡◌, refl, sym, ap, ◌∙◌}
use mathlib.Core.Bool.{Bool, true, false, ◌&&◌}
use mathlib.Core.List.{List, [], ◌∷◌, ◌++◌}
use native.Mathlib.Omega.{arith}
use lib.ListN.{length, get_or, drop, replicate}
use Rattle.vocabulary.specs.Every.{every}
use Rattle.vocabulary.proofs.Range.{both, pair}

and_assoc : (a b c : Bool) → ((a && b) && c) ≡ (a && (b && c))
and_assoc true b c = refl
and_assoc false b c = refl

pub and_true : (b : Bool) → (b && true) ≡ b
and_true true = refl
and_true false = refl

module _ {A : Type 0} (p : A → Bool) where
  pub every_append : (xs ys : List A) → every p (xs ++ ys) ≡ (every p xs && every p ys)
  unfolding every
  every_append [] ys = refl
  every_append (x ∷ xs) ys = ap (λ (b : Bool). p x && b) (every_append xs ys) ∙ sym (and_assoc (p x) _ _)

  pub every_one : (x : A) → every p (x ∷ []) ≡ p x
  unfolding every
  every_one x = and_true (p x)

  -- every element, one by one
  pub every_at : (xs : List A) (d : A) → every p xs ≡ true → (i : ℕ) → i < length xs → p (get_or xs i d) ≡ true
  unfolding every
  every_at [] d e i h = absurd (let z : ⊥ = omega arith in z)
  every_at (x ∷ xs) d e zero h = (both (p x) (every p xs) e).0
  every_at (x ∷ xs) d e (suc i) h = every_at xs d (both (p x) (every p xs) e).1 i (omega arith)

  pub every_drop : (n : ℕ) (xs : List A) → every p xs ≡ true → every p (drop n xs) ≡ true
  unfolding every
  every_drop zero xs e = e
  every_drop (suc n) [] e = e
  every_drop (suc n) (x ∷ xs) e = every_drop n xs (both (p x) _ e).1

  pub every_replicate : (n : ℕ) (x : A) → p x ≡ true → every p (replicate n x) ≡ true
  unfolding every
  every_replicate zero x e = refl
  every_replicate (suc n) x e = pair e (every_replicate n x e)

  -- two tests that agree, element by element
  pub every_same : (q : A → Bool) → ((x : A) → p x ≡ q x) → (xs : List A) → every p xs ≡ every q xs
  unfolding every
  every_same q h [] = refl
  every_same q h (x ∷ xs) = let e = h x in let f = every_same q h xs in cc
