-- An expansion, over the width: the argument that every width shares. Assumes nothing.
use Prim.Native.Nat.{ℕ, ◌+◌, ◌*◌, ◌/◌, ◌-◌, ◌^◌, ◌≤◌, ◌<◌}
use mathlib.Core.Path.{◌≡◌, refl, sym, ap, ◌∙◌}
use mathlib.Core.List.{[], ◌∷◌}
use native.Mathlib.Nat.{zero-add, mul_comm, mul-add-div, div-one, div-eq_of_lt, div-lt_iff_lt-mul}
use native.Mathlib.Omega.{arith}
use lib.Pow.{pow_pos}
use Rattle.vocabulary.specs.Line.{line}
use Rattle.vocabulary.specs.declared.Refusal.TheVariants.{OutOfRange, LentLength}
use Rattle.vocabulary.specs.Outcome.{accepting}
use Rattle.vocabulary.proofs.Range.{holds_passes, not_fails}
use Rattle.vocabulary.proofs.Refusals.{refusal_is, refusal_none}
use Rattle.vocabulary.proofs.Outcome.{refused_as, accepted_does}
use Rattle.std.specs.Prelude.{Ok, Err}
use Rattle.expand.specs.Expand.{repeated, filled, ten, refusals, expansion, meaning}
use Rattle.expand.proofs.Filled.{filled_below, filled_bit, filled_again, filled_first}
use Rattle.expand.proofs.Filled.{filled_zero, filled_ones}

-- ---- What is refused

module _ (w v : ℕ) where
  refused : (3 < w → w < 9 → v < 2 ^ w → ⊥) → meaning (Err OutOfRange) ≡ expansion w v
  unfolding expansion
  refused n =
      sym (refused_as 8 0 tt _
      (refusal_is (refusals w v) (LentLength ∷ []) OutOfRange _ refl (refl, tt)
      (not_fails _ (λ g. n g.0 g.1.0 g.1.1.0))))

  -- a width that is not there is refusal 9, whatever the value
  pub width_refused : (3 < w → w < 9 → ⊥) → meaning (Err OutOfRange) ≡ expansion w v
  width_refused n = refused (λ a b c. n a b)

  -- so is a value that the width does not hold
  pub value_refused : 2 ^ w ≤ v → meaning (Err OutOfRange) ≡ expansion w v
  value_refused h = refused (λ a b c. omega arith)

  -- and every other is accepted
  pub expansion_accepted : 3 < w → w < 9 → v < 2 ^ w → accepting (ten w v) 0 tt ≡ expansion w v
  unfolding expansion
  expansion_accepted a b h =
      sym (accepted_does 0 tt _ (refusal_none (refusals w v) (holds_passes _ (a, (b, (h, tt))), tt)))

  -- with the rule's value, however it was found
  pub expansion_ten : {t : ℕ} → t ≡ ten w v → 3 < w → w < 9 → v < 2 ^ w → meaning (Ok t) ≡ expansion w v
  expansion_ten e a b h = rw e (expansion_accepted a b h)

-- ---- The ten bits

-- from the top, they are the component's from its top, over and over
pub ten_bit : (w v i : ℕ) → i < 10 → line (ten w v) (9 - i) ≡ repeated w v i
unfolding ten
ten_bit w v i h = filled_bit w v 10 i h

-- they are below 1,024
pub ten_below : (w v : ℕ) → ten w v < 1024
unfolding ten
ten_below w v = filled_below w v 10

-- zero to zero
pub ten_zero : (w : ℕ) → ten w 0 ≡ 0
unfolding ten
ten_zero w = filled_zero w 10

-- the largest to 1,023
pub ten_largest : (w : ℕ) → 0 < w → ten w (2 ^ w - 1) ≡ 1023
unfolding ten
ten_largest w h = filled_ones w 10 h

module _ (w v : ℕ) (h : v < 2 ^ w) where
  -- its w bits are the component; and then come the first n of them
  pub filled_whole : filled w v w ≡ v
  filled_whole = filled_first w v h 0 w (zero-add w) ∙ div-one v

  pub filled_more : (n : ℕ) → filled w v (w + n) ≡ 2 ^ n * v + filled w v n
  filled_more n = rw (filled_again w v n, filled_whole) refl

  pub ten_parts : w ≤ 10 → ten w v ≡ 2 ^ (10 - w) * v + filled w v (10 - w)
  unfolding ten
  ten_parts high = ap (filled w v) (omega arith) ∙ filled_more (10 - w)

  -- the top bits are the component, so that it can be got back
  pub ten_top : w ≤ 10 → ten w v / 2 ^ (10 - w) ≡ v
  ten_top high =
      rw (ten_parts high, mul-add-div (pow_pos (10 - w)) v _)
      (omega (arith, div-eq_of_lt (filled_below w v (10 - w))))

-- order is kept
pub ten_order : (w u v : ℕ) → w ≤ 10 → v < 2 ^ w → u < v → ten w u < ten w v
ten_order w u v high h o =
    let less : ten w u / 2 ^ (10 - w) < v = rw (ten_top w u (omega arith) high) o in
    let room = (div-lt_iff_lt-mul (pow_pos (10 - w))).0 less in
    omega (arith, room, mul_comm v (2 ^ (10 - w)), ten_parts w v h high)
