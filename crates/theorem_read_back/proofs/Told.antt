-- A run of accepted calls, of any chip: what they tell, and the chip that each leaves. Assumes nothing.
use Prim.Native.Nat.{ℕ}
use mathlib.Core.Path.{◌≡◌, refl, ap, ◌∙◌}
use mathlib.Core.List.{List, [], ◌∷◌}
use Rattle.vocabulary.specs.Outcome.{Outcome, accepting}
use Rattle.vocabulary.specs.Reply.{Reply, reply, telling}
use Rattle.vocabulary.specs.Run.{gathered, replies}

module _ {C K : Type 0} (step : K → C → Outcome C) where
  pub data Tells : List K → C → List Reply → Type 0 where
    done : {c : C} → Tells [] c []
    then : {k : K} {c d : C} {v n : ℕ} {ks : List K} {rs : List Reply} → step k c ≡ accepting v n d
        → Tells ks d rs → Tells (k ∷ ks) c (reply 0 v n 0 ∷ rs)

  -- an accepted call, and then the others
  pub told_next : {k : K} {c d : C} {v n : ℕ} (ks : List K) → step k c ≡ accepting v n d
      → replies step (k ∷ ks) c ≡ reply 0 v n 0 ∷ replies step ks d
  unfolding gathered
  told_next ks e = ap (λ (o : Outcome C). telling o ∷ replies step ks o.left) e

  pub heard : {ks : List K} {c : C} {rs : List Reply} → Tells ks c rs → replies step ks c ≡ rs
  unfolding gathered
  heard done = refl
  heard (then {v = v} {n = n} {ks = ks} e h) =
      told_next ks e ∙ ap (λ (l : List Reply). reply 0 v n 0 ∷ l) (heard h)
