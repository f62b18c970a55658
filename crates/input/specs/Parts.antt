-- An input's bytes in three parts, and that they give its fields back. Assumes nothing.
use Rattle.std.specs.Prelude.{◌≡◌, ℕ, ◌+◌, ◌-◌, ◌≤◌, List, ◌++◌, length, take, drop, slice_range}
use Rattle.std.proofs.Common.{arith, length-take-le, length-drop, sym, ap, ◌∙◌}
use Rattle.std.proofs.lemmas.List.{take-append-drop}
use Rattle.std.proofs.lemmas.List.Folds.{drop_split}

-- what was taken, what was read and is not yet taken, and the room behind it
pub record Parts : Type 0 where
  pub taken : List ℕ
  pub unread : List ℕ
  pub spare : List ℕ

module _ (N at end : ℕ) (bytes : List ℕ) (low : at ≤ end) (high : end ≤ N) (long : length bytes ≡ N) where
  pub parts_back : take at bytes ++ (slice_range bytes at end ++ drop end bytes) ≡ bytes
  parts_back = ap (λ l. take at bytes ++ l) (sym (drop_split bytes at end low)) ∙ take-append-drop at bytes

  pub front_back : length (take at bytes) ≡ at
  front_back = length-take-le at bytes (omega (arith, low, high, long))

  pub unread_back : length (take at bytes) + length (slice_range bytes at end) ≡ end
  unread_back =
      let room : end - at ≤ length (drop at bytes) = omega (arith, length-drop at bytes, low, high, long) in
      omega (arith, front_back, length-take-le (end - at) (drop at bytes) room, low)
