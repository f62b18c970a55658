-- Laws of the places: how many wait, in range, one put last, the oldest taken. Assumes nothing.
use Prim.Native.Nat.{ℕ, zero, suc, ◌+◌, ◌-◌, ◌*◌, ◌/◌, ◌%◌, ◌^◌, ◌<◌, ◌≤◌}
use mathlib.Core.Path.{◌≡◌, refl, sym, ap, ◌∙◌}
use mathlib.Core.List.{List, [], ◌∷◌, ◌++◌, map, map-append}
use native.Mathlib.Omega.{arith}
use borrow.Author.Tests.{ltb-true, lt-ltb}
use lib.Dec.{ltb}
use lib.ListN.{length, drop, set, length-set, length-map}
use Rattle.vocabulary.specs.Range.{meets}
use Rattle.vocabulary.specs.Every.{every}
use Rattle.vocabulary.proofs.Range.{agree, meets_holds, holds_meets}
use Rattle.ms622424.specs.Ms622424.{Entry, is_in_map, queue_ranges, with_queue, with_first, complete}
use Rattle.ms622424_places.specs.declared.Fifo.{Fifo}
use Rattle.ms622424_places.specs.declared.State.{State}
use Rattle.ms622424_places.specs.Places.{unpacked, entries_in, ringed, colours, handed, with_fifo, view}
use Rattle.ms622424_places.proofs.Ring.{ringed_length, ringed_put, ringed_drop}

-- a place holds its entry
pub unpacked_packed : (a r g b : ℕ) → r < 256 → g < 256 → b < 256
    → unpacked (r + 256 * g + 65536 * b + 16777216 * a) ≡ record { address = a; red = r; green = g; blue = b }
unpacked_packed a r g b hr hg hb =
    let n = r + 256 * g + 65536 * b + 16777216 * a in
    let ea : n / 16777216 ≡ a = omega arith in
    let er : n % 256 ≡ r = omega arith in
    let qg : n / 256 ≡ g + 256 * (b + 256 * a) = omega arith in
    let qb : n / 65536 ≡ b + 256 * a = omega arith in
    let eg : n / 256 % 256 ≡ g = rw qg (omega arith) in
    let eb : n / 65536 % 256 ≡ b = rw qb (omega arith) in
    cc

abbrev pub fifo : ℕ → ℕ → Fifo
fifo first n = record { first = first; waiting = n }

-- ---- how many wait
pub how_many : (f : Fifo) (q : List ℕ) → length (colours f q) ≡ f.waiting
unfolding colours
how_many f q = simp (length-map, ringed_length)

-- ---- in range: the waiting entries have an address of the map, and the others are not read
pub places_decide : (s : State) (q m : List ℕ) → s.fifo.first < 64 → s.fifo.waiting ≤ 64
    → every is_in_map (entries_in (ringed s.fifo.first s.fifo.waiting q))
    ≡ meets (queue_ranges (view (handed s q m)))
unfolding colours
places_decide s q m f h =
    let bs = queue_ranges (view (handed s q m)) in
    let many = how_many s.fifo q in
    agree _ (meets bs) (λ t. holds_meets bs (f, (omega (arith, many), (t, tt))))
    (λ t. let (_, (_, (a, _))) = meets_holds bs t in a)

-- ---- one put last, at place first + waiting, modulo 64
module _ (s : State) (q : List ℕ) (n : ℕ) (l : length q ≡ 64) (h : s.fifo.waiting < 64) where
  put_colours :
      colours (fifo s.fifo.first (s.fifo.waiting + 1)) (set q ((s.fifo.first + s.fifo.waiting) % 64) n)
      ≡ colours s.fifo q ++ (unpacked n ∷ [])
  unfolding colours
  put_colours =
      let f = s.fifo.first in
      let w = s.fifo.waiting in
      ap entries_in (ringed_put f w q n l h) ∙ map-append unpacked (ringed f w q) (n ∷ [])

  pub put_last : (at more : ℕ) {e : Entry} → at ≡ (s.fifo.first + s.fifo.waiting) % 64 → more ≡ s.fifo.waiting + 1
      → unpacked n ≡ e → (m : List ℕ)
      → view (handed (with_fifo (fifo s.fifo.first more) s) (set q at n) m) ≡ complete e (view (handed s q m))
  unfolding complete
  put_last at more a b u m =
      rw (a, b)
      (let p = put_colours in
      let d = length-set q ((s.fifo.first + s.fifo.waiting) % 64) n in
      cc)

-- a place's address is one of the map's exactly when the place is below 2 ^ 37
pub below_in_map : (l : List ℕ) → every is_in_map (entries_in l) ≡ every (λ (n : ℕ). ltb n (2 ^ 37)) l
unfolding every
below_in_map [] = refl
below_in_map (n ∷ l) =
    let e : ltb (n / 16777216) 8192 ≡ ltb n (2 ^ 37) =
    agree _ _
    (λ h. let g = ltb-true (n / 16777216) 8192 h in lt-ltb n (2 ^ 37) (omega arith))
    (λ h. let g = ltb-true n (2 ^ 37) h in lt-ltb (n / 16777216) 8192 (omega arith)) in
    let f = below_in_map l in
    cc

-- ---- the oldest taken: first steps past them, and every place stays as it was
module _ {A B : Type 0} (f : A → B) where
  pub map_drop : (k : ℕ) (l : List A) → map f (drop k l) ≡ drop k (map f l)
  map_drop zero l = refl
  map_drop (suc k) [] = refl
  map_drop (suc k) (x ∷ l) = map_drop k l

module _ (s : State) (q : List ℕ) (k : ℕ) (h : k ≤ s.fifo.waiting) where
  taken_colours :
      colours (fifo ((s.fifo.first + k) % 64) (s.fifo.waiting - k)) q ≡ drop k (colours s.fifo q)
  unfolding colours
  taken_colours =
      let f = s.fifo.first in
      let w = s.fifo.waiting in
      ap entries_in (sym (ringed_drop k f w q h)) ∙ map_drop unpacked k (ringed f w q)

  pub oldest_taken : (m n : List ℕ)
      → view (handed (with_fifo (fifo ((s.fifo.first + k) % 64) (s.fifo.waiting - k)) s) q n)
      ≡ with_queue (drop k (colours s.fifo q)) n (with_first ((s.fifo.first + k) % 64) (view (handed s q m)))
  oldest_taken m n = let c = taken_colours in cc
