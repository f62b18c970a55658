-- THE EXPANDER IS WHAT THE DOCUMENTS SAY OF IT, and one that is so is that expander. Assumes nothing.
use Prim.Native.Nat.{ℕ, ◌^◌, ◌<◌, ◌≤◌}
use mathlib.Core.Path.{◌≡◌, sym, subst, ◌∙◌}
use native.Mathlib.Omega.{arith}
use Rattle.vocabulary.specs.Outcome.{Outcome, accepting}
use Rattle.vocabulary.proofs.Cases.{under, equals}
use Rattle.vocabulary.proofs.Outcome.{determined}
use Rattle.expand.specs.Expand.{ten, expansion}
use Rattle.expand.proofs.Width.{width_refused, value_refused, expansion_ten}
use Rattle.expand.proofs.Width.{ten_bit, ten_below, ten_top, ten_zero, ten_largest, ten_order}
use Rattle.expand.proofs.Rules.{ten_four, ten_five, ten_six, ten_seven, ten_eight}
use Rattle.theorem_scope_expand.specs.Scope.{Scope, Shared}

-- a width's row, from its rule: what the row says is the same number
row : (w v : ℕ) {s t : ℕ} → (v < 2 ^ w → ten w v ≡ s) → s ≡ t → v < 2 ^ w → 3 < w → w < 9
    → expansion w v ≡ accepting t 0 tt
row w v rule same h low high = sym (expansion_ten w v (sym (rule h ∙ same)) low high h)

pub scope : Scope expansion
scope = record {
  four = λ v h. row 4 v (ten_four v) (omega arith) (omega arith) (omega arith) (omega arith);
  five = λ v h. row 5 v (ten_five v) (omega arith) (omega arith) (omega arith) (omega arith);
  six = λ v h. row 6 v (ten_six v) (omega arith) (omega arith) (omega arith) (omega arith);
  seven = λ v h. row 7 v (ten_seven v) (omega arith) (omega arith) (omega arith) (omega arith);
  eight = λ v h. row 8 v (ten_eight v) (omega arith) (omega arith) (omega arith) (omega arith);
  nine_width = λ w v off. sym (width_refused w v (λ low high. off (omega arith, omega arith)));
  nine_value = λ w v h. sym (value_refused w v (omega arith));
}

-- ---- no other does

module _ (f : ℕ → ℕ → Outcome Unit) (s : Scope f) where
  abbrev Same : ℕ → ℕ → Type 0
  Same w v = f w v ≡ expansion w v

  -- what the rows tell of every expander they tell of both
  by : {w v : ℕ} {o : Outcome Unit} → ((h : ℕ → ℕ → Outcome Unit) → Scope h → h w v ≡ o) → Same w v
  by told = determined (told f s) (told expansion scope)

  -- a value that the width holds, and one that it does not
  held : (w v : ℕ) → (v < 2 ^ w → Same w v) → Same w v
  held w v there = under v (2 ^ w) there (λ h. by (λ e r. r.nine_value w v h))

  pub scope_determines : (w v : ℕ) → Same w v
  scope_determines w v =
      at 4 (λ h. by (λ e r. r.four v h))
      (λ n4. at 5 (λ h. by (λ e r. r.five v h))
      (λ n5. at 6 (λ h. by (λ e r. r.six v h))
      (λ n6. at 7 (λ h. by (λ e r. r.seven v h))
      (λ n7. at 8 (λ h. by (λ e r. r.eight v h))
      (λ n8. by (λ e r. r.nine_width w v (λ g. omega (arith, g))))))))
    where
      at : (k : ℕ) → (v < 2 ^ k → Same k v) → ((w ≡ k → ⊥) → Same w v) → Same w v
      at k here other = equals w k (λ e. subst (λ (n : ℕ). Same n v) (sym e) (held k v here)) other

-- ---- the argument, once over the width

pub shared : (w : ℕ) → 0 < w → w ≤ 10 → Shared w (ten w)
shared w low high = record {
  bits = ten_bit w;
  below = ten_below w;
  top = λ v h. ten_top w v h high;
  least = ten_zero w;
  largest = ten_largest w low;
  order = λ u v h o. ten_order w u v high h o;
}
