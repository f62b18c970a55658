-- Laws of the old queue's places: how many wait, the oldest gone, an entry put behind. Assumes nothing.
use Prim.Native.Nat.{ℕ, zero, suc, ◌+◌, ◌-◌, ◌<◌, ◌≤◌}
use mathlib.Core.Path.{◌≡◌, refl, ap, ◌∙◌}
use mathlib.Core.Bool.{◌&&◌}
use mathlib.Core.List.{List, [], ◌∷◌, ◌++◌, map-append}
use native.Mathlib.Nat.{zero-add, suc-add}
use native.Mathlib.Numerals.{add-one}
use native.Mathlib.Omega.{arith}
use lib.ListN.{length, take, drop, set, length-set, length-append, length-drop, length-map, length-replicate}
use lib.Seq.{take-suc-set, take-append-le, take-nil, drop-nil, length-take-le, drop-set-lt, drop-drop, drop-append-le}
use Rattle.vocabulary.specs.Every.{every}
use Rattle.vocabulary.proofs.Every.{every_append, every_drop, every_replicate}
use Rattle.vocabulary.proofs.Range.{pair}
use Rattle.ms622424.specs.Ms622424.{Entry}
use Rattle.ms622424_places.specs.Places.{packed, unpacked, entries_in}
use Rattle.ms622424_places.proofs.Places.{map_drop}
use Rattle.theorem_ring.specs.OldQueue.{Queue, colours_of, is_zero, unused_zero, emptied, put_behind, moved_down, gone}
use Rattle.theorem_ring.specs.Ring.{Orderly}

take_drop : (k j : ℕ) (l : List ℕ) → take j (drop k l) ≡ drop k (take (k + j) l)
take_drop zero j l = rw zero-add
take_drop (suc k) j [] = simp (take-nil, drop-nil)
take_drop (suc k) j (x ∷ l) = rw suc-add (take_drop k j l)

pub many : (q : Queue) → Orderly q → length (colours_of q) ≡ q.waiting
many q h =
    let n = h.few in
    let l = h.long in
    length-map (take q.waiting q.places) unpacked ∙ length-take-le q.waiting q.places (omega arith)

-- ---- the oldest gone
module _ (q : Queue) (h : Orderly q) (some : 0 < q.waiting) where
  whole : (1 + (q.waiting - 1) ≡ q.waiting) × (q.waiting - 1 ≤ length (drop 1 q.places))
  whole = let n = h.few in let l = h.long in (omega arith, simp length-drop (omega arith))

  down_colours : colours_of (moved_down q) ≡ drop 1 (colours_of q)
  down_colours =
      let w = q.waiting in
      ap entries_in (take-append-le (w - 1) (drop 1 q.places) _ whole.1
      ∙ (take_drop 1 (w - 1) q.places ∙ ap (λ (n : ℕ). drop 1 (take n q.places)) whole.0))
      ∙ map_drop unpacked 1 (take w q.places)

  -- what is behind those that moved down
  vacated : (last : List ℕ)
      → every is_zero (drop (q.waiting - 1) (drop 1 q.places ++ last)) ≡ (unused_zero q && every is_zero last)
  vacated last =
      let w = q.waiting in
      ap (every is_zero) (drop-append-le (w - 1) (drop 1 q.places) last whole.1
      ∙ ap (λ (x : List ℕ). x ++ last)
      (drop-drop (w - 1) 1 q.places ∙ ap (λ (n : ℕ). drop n q.places) whole.0))
      ∙ every_append is_zero (drop w q.places) last

  down_orderly : Orderly (moved_down q)
  unfolding every
  down_orderly =
      let n = h.few in
      let l = h.long in
      record {
        long = simp (length-append, length-drop) (omega arith);
        few = omega arith;
        zeros = vacated _ ∙ pair h.zeros refl;
      }

pub record Gone (k : ℕ) (q : Queue) : Type 0 where
  pub colours : colours_of (gone k q) ≡ drop k (colours_of q)
  pub waiting : (gone k q).waiting ≡ q.waiting - k
  pub orderly : Orderly (gone k q)

pub gone_oldest : (k : ℕ) (q : Queue) → Orderly q → k ≤ q.waiting → Gone k q
unfolding gone
gone_oldest zero q h g = record { colours = refl; waiting = omega arith; orderly = h }
gone_oldest (suc k) q h g =
    let d = down_orderly q h (omega arith) in
    let rest = gone_oldest k (moved_down q) d (omega arith) in
    let next : 1 + k ≡ suc k = omega arith in
    record {
      colours = rest.colours
          ∙ (ap (drop k) (down_colours q h (omega arith))
          ∙ (drop-drop k 1 (colours_of q) ∙ ap (λ (n : ℕ). drop n (colours_of q)) next));
      waiting = rest.waiting ∙ omega arith;
      orderly = rest.orderly;
    }

-- ---- an entry put behind the others
module _ (q : Queue) (h : Orderly q) (room : q.waiting < 64) (e : Entry) where
  pub put_colours : unpacked (packed e) ≡ e → colours_of (put_behind e q) ≡ colours_of q ++ (e ∷ [])
  put_colours same =
      let w = q.waiting in
      let l = h.long in
      let one : take (w + 1) (set q.places w (packed e)) ≡ take w q.places ++ (packed e ∷ []) =
      rw add-one (take-suc-set q.places w (packed e) (omega arith)) in
      ap entries_in one ∙ (map-append unpacked (take w q.places) (packed e ∷ []) ∙ rw same refl)

  pub put_orderly : Orderly (put_behind e q)
  put_orderly =
      let w = q.waiting in
      let l = h.long in
      record {
        long = length-set q.places w (packed e) ∙ l;
        few = omega arith;
        zeros = rw (drop-set-lt (w + 1) q.places w (packed e) (omega arith), ← drop-drop 1 w q.places)
            (every_drop is_zero 1 (drop w q.places) h.zeros);
      }

-- ---- empty
pub emptied_orderly : Orderly emptied
emptied_orderly =
    record {
      long = length-replicate {A = ℕ} 64 0;
      few = omega arith;
      zeros = every_replicate is_zero 64 0 refl;
    }
