-- Laws of what a transfer leaves. Assumes nothing.
use Prim.Native.Nat.{ℕ, zero, suc, ◌+◌, ◌-◌, ◌%◌, min}
use mathlib.Core.Path.{◌≡◌, refl, sym, ap, ◌∙◌}
use mathlib.Core.List.{List, [], ◌∷◌, map}
use native.Mathlib.Omega.{arith}
use lib.ListN.{take}
use Rattle.ms622424.specs.Ms622424.{Entry, InRange, all_stored, made, moves}
use Rattle.ms622424.proofs.Moves.{moves_least, first_after_lem}
use Rattle.ms622424_places.specs.declared.State.{State}
use Rattle.ms622424_places.specs.Places.{unpacked, entries_in, ringed, colours, handed, with_fifo, view}
use Rattle.ms622424_places.proofs.Ring.{ringed_take}
use Rattle.ms622424_places.proofs.Places.{fifo, how_many, oldest_taken}

module _ {A B : Type 0} (f : A → B) where
  map_take : (k : ℕ) (l : List A) → map f (take k l) ≡ take k (map f l)
  map_take zero l = refl
  map_take (suc k) [] = refl
  map_take (suc k) (x ∷ l) = ap (λ (m : List B). f x ∷ m) (map_take k l)

-- ---- what the code leaves, the stores and the first position past them, is what the moves leave
pub transferred : (slots k : ℕ) (s : State) (q m n : List ℕ) (first left : ℕ) → InRange (view (handed s q m))
    → k ≡ min slots s.fifo.waiting
    → n ≡ all_stored (entries_in (ringed s.fifo.first k q)) m
    → first ≡ (s.fifo.first + k) % 64 → left ≡ s.fifo.waiting - k
    → made k (view (handed (with_fifo (fifo first left) s) q n)) ≡ moves slots (view (handed s q m))
unfolding colours
transferred slots k s q m n first left h e p a b =
    let f = s.fifo in
    let oldest : entries_in (ringed f.first k q) ≡ take k (colours f q) =
    ap entries_in (sym (ringed_take k f.first f.waiting q (omega arith)))
    ∙ map_take unpacked k (ringed f.first f.waiting q) in
    let n = p ∙ ap (λ (es : List Entry). all_stored es m) oldest in
    let on = first_after_lem k f.first h.first in
    rw (a, b, oldest_taken s q k (omega arith) m, n, ← on)
    (sym (moves_least slots k (view (handed s q m)) (e ∙ ap (min slots) (sym (how_many f q)))))
