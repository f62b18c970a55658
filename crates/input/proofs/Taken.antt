-- What is left of a part of a list where some of it is taken, or all. Assumes nothing.
use Rattle.std.proofs.Common.{ℕ, ◌+◌, ◌-◌, ◌<◌, ◌≤◌, ◌≡◌, List, take, drop, min, slice_range}
use Rattle.std.proofs.Common.{⊎_elim, sym, ap, ◌∙◌, arith}
use Rattle.std.proofs.Math.Nat.{min-eq_left, min-eq_right}
use Rattle.std.proofs.lemmas.Bool.{cases_lt}
use Rattle.std.proofs.lemmas.List.{drop-take, drop-drop, drop_all, length-take}

module _ (xs : List ℕ) (n at end : ℕ) (low : at ≤ end) where
  all : end - at < n → slice_range xs (at + min n (end - at)) end ≡ drop n (slice_range xs at end)
  all few =
      let is : min n (end - at) ≡ end - at = min-eq_right (omega (arith, few)) in
      let none : end - (at + min n (end - at)) ≡ 0 = omega (arith, is, low) in
      ap (λ m. take m (drop (at + min n (end - at)) xs)) none
      ∙ sym (drop_all n (slice_range xs at end) (omega (arith, length-take (end - at) (drop at xs), few)))

  some : n ≤ end - at → slice_range xs (at + min n (end - at)) end ≡ drop n (slice_range xs at end)
  some many =
      let is : min n (end - at) ≡ n = min-eq_left many in
      let left : end - (at + n) ≡ end - at - n = omega (arith, low, many) in
      let whole : n + (end - at - n) ≡ end - at = omega (arith, low, many) in
      ap (λ m. take (end - (at + m)) (drop (at + m) xs)) is
      ∙ (λ k. take (left k) (sym (drop-drop n at xs) k))
      ∙ sym (drop-take n (end - at - n) (drop at xs))
      ∙ ap (λ m. drop n (take m (drop at xs))) whole

  pub taken : slice_range xs (at + min n (end - at)) end ≡ drop n (slice_range xs at end)
  taken = ⊎_elim all some (cases_lt (end - at) n)
