-- The law that catches an impostor: by one call that the promise fixes, or two. Assumes nothing.
use Prim.Native.Nat.{ℕ, suc}
use mathlib.Core.Path.{◌≡◌, sym, ap, ◌∙◌}
use mathlib.Core.List.{[], ◌∷◌}
use native.Mathlib.Omega.{arith}
use Rattle.vocabulary.specs.Outcome.{Outcome, accepting, refusing}
use Rattle.vocabulary.specs.Reply.{Reply, telling}
use Rattle.theorem_impostors.specs.Impostors.{refuses_all, accepts_all, one_reply, does_nothing, Caught, AllCaught}

-- chips that differ in a number
pub changed : {C : Type 0} {c d : C} (part : C → ℕ) → (part c ≡ part d → ⊥) → ¬ (c ≡ d)
changed part h e = h (ap part e)

module _ {X C K : Type 0} (called : K → C → Outcome C) (call : X → K) where
  -- an accepted call
  by_accepted : (x : X) (c : C) {v n : ℕ} {d : C} → called (call x) c ≡ accepting v n d
      → Caught called call refuses_all
  by_accepted x c e step p all = all x c (ap (λ (o : Outcome C). o.refusal) (p x c ∙ e))

  -- a refused one
  by_refused : (x : X) (c : C) {m : ℕ} → called (call x) c ≡ refusing (suc m) 0 c → Caught called call accepts_all
  by_refused x c e step p all =
      let z = sym (all x c) ∙ ap (λ (o : Outcome C). o.refusal) (p x c ∙ e) in omega (arith, z)

  -- a chip that is another afterwards
  by_change : (x : X) (c : C) {v n : ℕ} {d : C} → called (call x) c ≡ accepting v n d → ¬ (d ≡ c)
      → Caught called call does_nothing
  by_change x c e h step p all = h (sym (ap (λ (o : Outcome C). o.left) (p x c ∙ e)) ∙ all x c)

  -- two accepted calls that tell apart
  by_replies : (x y : X) (c d : C) {v n w m : ℕ} {a b : C} → called (call x) c ≡ accepting v n a
      → called (call y) d ≡ accepting w m b → (v ≡ w → n ≡ m → ⊥) → Caught called call one_reply
  by_replies x y c d e f h step p all =
      let one = p x c ∙ e in
      let two = p y d ∙ f in
      let none = ap (λ (o : Outcome C). o.refusal) one in
      let none-too = ap (λ (o : Outcome C). o.refusal) two in
      let same = sym (ap telling one) ∙ (all x y c d none none-too ∙ ap telling two) in
      h (ap (λ (r : Reply). r.value) same) (ap (λ (r : Reply). r.count) same)

  -- A kind's row: x on c is accepted and leaves another chip d, ..
  module _ (x : X) (c : C) {v n : ℕ} {d : C} (e : called (call x) c ≡ accepting v n d) (h : ¬ (d ≡ c)) where
    pub stirs : AllCaught called call (refuses_all ∷ does_nothing ∷ [])
    stirs = (by_accepted x c e, (by_change x c e h, tt))

    -- .. y on b is refused, ..
    module _ (y : X) (b : C) {m : ℕ} (r : called (call y) b ≡ refusing (suc m) 0 b) where
      pub stirs_or_refuses : AllCaught called call (refuses_all ∷ accepts_all ∷ does_nothing ∷ [])
      stirs_or_refuses = (by_accepted x c e, (by_refused y b r, (by_change x c e h, tt)))

      -- .. and two more tell apart
      pub all_four : (s t : X) (f g : C) {p q i j : ℕ} {u w : C} → called (call s) f ≡ accepting p i u
          → called (call t) g ≡ accepting q j w → (p ≡ q → i ≡ j → ⊥)
          → AllCaught called call (refuses_all ∷ accepts_all ∷ one_reply ∷ does_nothing ∷ [])
      all_four s t f g k l a =
          (by_accepted x c e, (by_refused y b r, (by_replies s t f g k l a, (by_change x c e h, tt))))

  -- A kind that changes nothing: y on b is refused, and two are accepted and tell apart
  pub tells_or_refuses : (y : X) (b : C) {m : ℕ} → called (call y) b ≡ refusing (suc m) 0 b → (s t : X) (f g : C)
      → {p q i j : ℕ} {u w : C} → called (call s) f ≡ accepting p i u → called (call t) g ≡ accepting q j w
      → (p ≡ q → i ≡ j → ⊥) → AllCaught called call (refuses_all ∷ accepts_all ∷ one_reply ∷ [])
  tells_or_refuses y b r s t f g k l a = (by_accepted s f k, (by_refused y b r, (by_replies s t f g k l a, tt)))
