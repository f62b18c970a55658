-- Whether a text starts with a word. Assumes nothing.
use Prim.Native.Nat.{ℕ, zero, suc, ◌<◌}
use mathlib.Core.Path.{◌≡◌, refl, sym, ap}
use mathlib.Core.Bool.{true}
use mathlib.Core.List.{List, [], ◌∷◌, ◌++◌}
use native.Mathlib.Omega.{arith}
use lib.Dec.{eqb}
use lib.ListN.{length, get_or, drop}
use borrow.Author.Tests.{eq-eqb, eqb-true}
use Rattle.vocabulary.proofs.Range.{clash, both}
use Rattle.sheet.specs.Sheet.{starts}

-- a text starts with a word exactly where it is the word and a rest
pub starts_rest : (p t : List ℕ) → starts p t ≡ true → p ++ drop (length p) t ≡ t
unfolding starts
starts_rest [] t e = refl
starts_rest (a ∷ p) [] e = clash (sym e)
starts_rest (a ∷ p) (b ∷ t) e =
    let h = both _ _ e in
    let same = eqb-true a b h.0 in
    rw same (ap (λ (l : List ℕ). b ∷ l) (starts_rest p t h.1))

pub starts_self : (p x : List ℕ) → starts p (p ++ x) ≡ true
unfolding starts
starts_self [] x = refl
starts_self (a ∷ p) x = rw (eq-eqb a a refl) (starts_self p x)

-- and has its bytes
pub starts_at : (p t : List ℕ) (i : ℕ) → starts p t ≡ true → i < length p → get_or t i 0 ≡ get_or p i 0
unfolding starts
starts_at [] t i e h = absurd (let z : ⊥ = omega arith in z)
starts_at (a ∷ p) [] i e h = clash (sym e)
starts_at (a ∷ p) (b ∷ t) zero e h = sym (eqb-true a b (both (eqb a b) _ e).0)
starts_at (a ∷ p) (b ∷ t) (suc i) e h = starts_at p t i (both (eqb a b) _ e).1 (omega arith)
