-- The map, with one more colour stored, and with a row of places that lie in one part or round the end in two. Assumes
-- nothing.
use Prim.Native.Nat.{ℕ, suc, ◌+◌, ◌-◌, ◌^◌, ◌≤◌, ◌<◌}
use mathlib.Core.Path.{◌≡◌, sym, ap, ◌∙◌}
use mathlib.Core.Bool.{true}
use mathlib.Core.List.{List, [], ◌∷◌, ◌++◌, map-append}
use native.Mathlib.Omega.{arith}
use borrow.Author.Tests.{ltb-true}
use lib.Dec.{ltb}
use lib.ListN.{length, get_or, take, drop, length-drop}
use lib.Seq.{take-suc, take_all}
use Rattle.vocabulary.specs.Every.{every}
use Rattle.vocabulary.proofs.Every.{every_append, every_at}
use Rattle.vocabulary.proofs.Range.{both}
use Rattle.ms622424.specs.Ms622424.{is_in_map, stored, all_stored}
use Rattle.ms622424.proofs.Moves.{all_stored_append}
use Rattle.ms622424_places.specs.Places.{unpacked, entries_in, ringed}
use Rattle.ms622424_places.proofs.Places.{below_in_map}
use Rattle.ms622424_places.proofs.Ring.{ringed_straight, ringed_round, ringed_append}

-- every entry of a row of places has an address of the map
abbrev pub InMap : List ℕ → Type 0
InMap l = every is_in_map (entries_in l) ≡ true

-- ---- one more of a row
pub one_low : (l : List ℕ) (i : ℕ) → i < length l → InMap l → get_or l i 0 < 2 ^ 37
one_low l i h e =
    ltb-true (get_or l i 0) (2 ^ 37) (every_at (λ (n : ℕ). ltb n (2 ^ 37)) l 0 (sym (below_in_map l) ∙ e) i h)

pub stored_next : (l m : List ℕ) (i : ℕ) {n now : List ℕ} → i < length l
    → n ≡ stored (unpacked (get_or l i 0)) now → now ≡ all_stored (entries_in (take i l)) m
    → n ≡ all_stored (entries_in (take (i + 1) l)) m
unfolding all_stored
stored_next l m i h s e =
    let x = get_or l i 0 in
    let next : i + 1 ≡ suc i = omega arith in
    let more : entries_in (take (suc i) l) ≡ entries_in (take i l) ++ (unpacked x ∷ []) =
    ap entries_in (take-suc l i 0 h) ∙ map-append unpacked (take i l) (x ∷ []) in
    s ∙ rw (next, more, e) (sym (all_stored_append (entries_in (take i l)) (unpacked x ∷ []) m))

-- ---- two rows, one behind the other
two_low : (l m : List ℕ) → InMap (l ++ m) → InMap l × InMap m
two_low l m e = both _ _ (sym (every_append is_in_map _ _) ∙ rw (map-append unpacked l m) at e)

two_stored : (l m now : List ℕ) {n k : List ℕ} → n ≡ all_stored (entries_in l) now → k ≡ all_stored (entries_in m) n
    → k ≡ all_stored (entries_in (l ++ m)) now
two_stored l m now e g =
    g ∙ rw (e, map-append unpacked l m) (sym (all_stored_append (entries_in l) (entries_in m) now))

-- ---- the oldest `n` of `w` that wait
module _ (q : List ℕ) (f w n : ℕ) (size : length q ≡ 64) (first : f < 64) (some : n ≤ w) (few : w ≤ 64) where
  oldest_low : InMap (ringed f w q) → InMap (ringed f n q)
  oldest_low e =
      let all : n + (w - n) ≡ w = omega arith in
      let parts : ringed f w q ≡ ringed f n q ++ ringed (f + n) (w - n) q = rw all at (ringed_append f n (w - n) q) in
      (two_low _ _ (rw parts at e)).0

  -- in one part
  module _ (h : f + n ≤ 64) where
    row : ringed f n q ≡ take (f + n - f) (drop f q)
    row = let same : f + n - f ≡ n = omega arith in rw same (ringed_straight f n q size h)

    pub row_low : InMap (ringed f w q) → InMap (take (f + n - f) (drop f q))
    row_low e = rw row at (oldest_low e)

    pub row_stored : (m : List ℕ) {k : List ℕ} → k ≡ all_stored (entries_in (take (f + n - f) (drop f q))) m
        → k ≡ all_stored (entries_in (ringed f n q)) m
    row_stored m e = rw row e

  -- round the end
  module _ (h : 64 ≤ f + n) where
    rows : ringed f n q ≡ take (64 - f) (drop f q) ++ take (f + n - 64) q
    rows =
        let all = take_all (64 - f) (drop f q) (simp length-drop (omega arith)) in
        rw all (ringed_round f n q size (omega arith) h (omega arith))

    pub rows_low : InMap (ringed f w q) → InMap (take (64 - f) (drop f q)) × InMap (take (f + n - 64) q)
    rows_low e = two_low _ _ (rw rows at (oldest_low e))

    pub rows_stored : (m : List ℕ) {k j : List ℕ} → k ≡ all_stored (entries_in (take (64 - f) (drop f q))) m
        → j ≡ all_stored (entries_in (take (f + n - 64) q)) k → j ≡ all_stored (entries_in (ringed f n q)) m
    rows_stored m e g = rw rows (two_stored _ _ m e g)
