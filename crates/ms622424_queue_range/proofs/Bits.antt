-- What the bits gathered from places decide of a queue's range. Assumes nothing.
use Prim.Native.Nat.{ℕ, ◌+◌, ◌-◌, ◌^◌, ◌≤◌, ◌<◌}
use mathlib.Core.Path.{◌≡◌, refl, sym, ap, ◌∙◌}
use mathlib.Core.Bool.{Bool, true, false, ◌&&◌}
use mathlib.Core.List.{List, ◌++◌}
use native.Mathlib.Omega.{arith}
use lib.Bits.{bit_or}
use lib.Dec.{ltb}
use lib.ListN.{length, take, drop, take-append-drop, length-drop}
use lib.Seq.{take_all}
use Rattle.vocabulary.specs.Every.{every}
use Rattle.vocabulary.proofs.Every.{every_append}
use Rattle.ms622424_gather.proofs.Below.{all_below, or_below}
use Rattle.ms622424.specs.Ms622424.{is_in_map}
use Rattle.ms622424_places.specs.Places.{entries_in, ringed}
use Rattle.ms622424_places.proofs.Ring.{ringed_straight, ringed_round}
use Rattle.ms622424_places.proofs.Places.{below_in_map}

and_turned : (a b : Bool) → (a && b) ≡ (b && a)
and_turned true true = refl
and_turned true false = refl
and_turned false true = refl
and_turned false false = refl

-- two parts in a row are low where the bits gathered from both are
parts_low : (l m : List ℕ) (a b : ℕ) → ltb a (2 ^ 37) ≡ all_below 37 l → ltb b (2 ^ 37) ≡ all_below 37 m
    → ltb (bit_or a b) (2 ^ 37) ≡ all_below 37 (l ++ m)
parts_low l m a b e f = or_below 37 a b ∙ (rw (e, f) refl ∙ sym (every_append _ l m))

-- the bits of places
abbrev Gathered : ℕ → List ℕ → Type 0
Gathered bits l = (k : ℕ) → ltb bits (2 ^ k) ≡ all_below k l

module _ (q : List ℕ) (first : ℕ) (size : length q ≡ 64) where
  -- the waiting entries in one part
  pub straight_decides : (n bits : ℕ) → first + n ≤ 64 → Gathered bits (take (first + n - first) (drop first q))
      → ltb bits (2 ^ 37) ≡ every is_in_map (entries_in (ringed first n q))
  straight_decides n bits h e =
      let same : first + n - first ≡ n = omega arith in
      rw same at (e 37) ∙ rw (ringed_straight first n q size h) (sym (below_in_map _))

  -- round the end: the part up to the end, and the part from place 0
  pub round_decides : (n older younger : ℕ) → first < 64 → 64 ≤ first + n → n ≤ 64
      → Gathered older (take (64 - first) (drop first q)) → Gathered younger (take (first + n - 64) q)
      → ltb (bit_or older younger) (2 ^ 37) ≡ every is_in_map (entries_in (ringed first n q))
  round_decides n older younger h g m e f =
      let all = take_all (64 - first) (drop first q) (simp length-drop (omega arith)) in
      rw (ringed_round first n q size (omega arith) g m)
      (parts_low (drop first q) (take (first + n - 64) q) older younger (rw all at (e 37)) (f 37)
      ∙ sym (below_in_map _))

  -- all 64, two halves: the ring turned
  pub full_decides : (n front back : ℕ) → n ≡ 64 → first < 64 → Gathered front (take 32 q)
      → Gathered back (take 32 (drop 32 q))
      → ltb (bit_or front back) (2 ^ 37) ≡ every is_in_map (entries_in (ringed first n q))
  full_decides n front back all h e f =
      let rest = take_all 32 (drop 32 q) (simp length-drop (omega arith)) in
      let same : first + 64 - 64 ≡ first = omega arith in
      let low : ℕ → Bool = λ n. ltb n (2 ^ 37) in
      let turned = ringed_round first 64 q size (omega arith) (omega arith) (omega arith) in
      rw all
      (parts_low (take 32 q) (drop 32 q) front back (e 37) (rw rest at (f 37))
      ∙ (ap (all_below 37) (take-append-drop 32 q ∙ sym (take-append-drop first q))
      ∙ (every_append low (take first q) (drop first q)
      ∙ (and_turned (every low (take first q)) (every low (drop first q))
      ∙ (sym (every_append low (drop first q) (take first q)) ∙ rw (turned, same) (sym (below_in_map _)))))))
