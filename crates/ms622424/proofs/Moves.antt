-- Laws of the moves and of the map under stores. Assumes nothing.
use Prim.Native.Nat.{ℕ, zero, suc, ◌+◌, ◌*◌, ◌%◌, ◌<◌, min}
use mathlib.Core.Path.{◌≡◌, refl, sym, ap, subst, ◌∙◌}
use mathlib.Core.List.{List, [], ◌∷◌, ◌++◌}
use native.Mathlib.Omega.{arith}
use borrow.Author.Tests.{eq-eqb, ne_eqb, eqb-true, eqb-false}
use lib.Dec.{eqb}
use lib.ListN.{length, get_or, take, drop, length-drop}
use lib.Seq.{take-nil, drop-nil}
use Rattle.vocabulary.specs.Component.{Component, part, one_of}
use Rattle.vocabulary.proofs.Choice.{cases, picks_first, picks_second}
use Rattle.vocabulary.proofs.Component.{put_length, put_own}
use Rattle.ms622424.specs.Ms622424.{Chip, with_queue, with_first, Entry, InRange, stored, all_stored, complete}
use Rattle.ms622424.specs.Ms622424.{Moves, made, next_first, slotted, moves, room_made}

-- a stored colour is found in its entry, component by component
pub stored_own : (e : Entry) (m : List ℕ) → 3 * e.address + 2 < length m → (k : Component)
    → get_or (stored e m) (3 * e.address + part k) 0 ≡ one_of k e.red e.green e.blue
stored_own e m h k = put_own e.address _ _ _ m h k

pub all_stored_length : (es : List Entry) (m : List ℕ) → length (all_stored es m) ≡ length m
unfolding all_stored
all_stored_length [] m = refl
all_stored_length (e ∷ es) m = all_stored_length es (stored e m) ∙ put_length _ _ _ _ m

-- a list and then another is the two in a row
pub all_stored_append : (es fs : List Entry) (m : List ℕ) → all_stored (es ++ fs) m ≡ all_stored fs (all_stored es m)
unfolding all_stored
all_stored_append [] fs m = refl
all_stored_append (e ∷ es) fs m = all_stored_append es fs (stored e m)

-- completing puts the entry behind those that wait, and keeps the map
pub complete_last : (e : Entry) (c : Chip) → (complete e c).waiting ≡ c.waiting ++ (e ∷ [])
unfolding complete
complete_last e c = refl

pub complete_keeps_map : (e : Entry) (c : Chip) → (complete e c).map ≡ c.map
unfolding complete
complete_keeps_map e c = refl

-- the first position after k moves
unfoldable pub first_after : ℕ → ℕ → ℕ
first_after zero n = n
first_after (suc k) n = first_after k (next_first n)

pub first_after_lem : (k n : ℕ) → n < 64 → first_after k n ≡ (n + k) % 64
unfolding first_after
first_after_lem zero n h = omega arith
first_after_lem (suc k) n h = first_after_lem k (next_first n) (omega arith) ∙ omega arith

pub first_below : (k n : ℕ) → n < 64 → first_after k n < 64
first_below k n h = let e = first_after_lem k n h in omega arith

-- THE SLOTS are the budget: the smaller of slots and waiting move, the oldest, in their order
abbrev pub moved_on : ℕ → List Entry → List ℕ → Chip → Chip
moved_on k es m c = with_queue es m (with_first (first_after k c.lent.first) c)

abbrev pub moves_of : ℕ → Chip → Moves
moves_of slots c =
    let k = min slots (length c.waiting) in
    made k (moved_on k (drop slots c.waiting) (all_stored (take slots c.waiting) c.map) c)

slotted_are : (slots : ℕ) (es : List Entry) (c : Chip) → slotted slots es c ≡ moves_of slots (with_queue es c.map c)
unfolding slotted all_stored first_after
slotted_are zero es c = let e : min 0 (length es) ≡ 0 = omega arith in rw e refl
slotted_are (suc slots) [] c = let e : min (suc slots) 0 ≡ 0 = omega arith in rw e refl
slotted_are (suc slots) (e ∷ es) c =
    let k : min (suc slots) (suc (length es)) ≡ suc (min slots (length es)) = omega arith in
    let one : min slots (length es) + 1 ≡ suc (min slots (length es)) = omega arith in
    ap (λ (m : Moves). made (m.count + 1) m.after)
    (slotted_are slots es (with_queue es (stored e c.map) (with_first (next_first c.lent.first) c)))
    ∙ rw (k, one) refl

pub moves_are : (slots : ℕ) (c : Chip) → moves slots c ≡ moves_of slots c
unfolding moves
moves_are slots c = slotted_are slots c.waiting c

-- the same by their number
module _ {A : Type 0} where
  take_least : (n : ℕ) (l : List A) → take (min n (length l)) l ≡ take n l
  take_least zero l = let e : min 0 (length l) ≡ 0 = omega arith in rw e
  take_least (suc n) [] = simp take-nil
  take_least (suc n) (x ∷ l) =
      let e : min (suc n) (suc (length l)) ≡ suc (min n (length l)) = omega arith in
      rw e (ap (λ (m : List A). x ∷ m) (take_least n l))

  drop_least : (n : ℕ) (l : List A) → drop (min n (length l)) l ≡ drop n l
  drop_least zero l = let e : min 0 (length l) ≡ 0 = omega arith in rw e
  drop_least (suc n) [] = simp drop-nil
  drop_least (suc n) (x ∷ l) =
      let e : min (suc n) (suc (length l)) ≡ suc (min n (length l)) = omega arith in
      rw e (drop_least n l)

pub moves_least : (slots k : ℕ) (c : Chip) → k ≡ min slots (length c.waiting)
    → moves slots c ≡ made k (moved_on k (drop k c.waiting) (all_stored (take k c.waiting) c.map) c)
moves_least slots k c e =
    let t = take_least slots c.waiting in
    let d = drop_least slots c.waiting in
    rw e (rw (t, d) (moves_are slots c))

-- ---- room for the incoming data: a full queue makes it, whatever the counter; another has it
module _ (c : Chip) where
  pub room_forced : length c.waiting ≡ 64 → room_made c ≡ moves 4 c
  unfolding room_made
  room_forced e = picks_first _ _ (eq-eqb _ 64 e)

  pub room_left : (length c.waiting ≡ 64 → ⊥) → room_made c ≡ made 0 c
  unfolding room_made
  room_left e = picks_second _ _ (ne_eqb _ 64 e)

  pub room_cases : (P : Moves → Type 0) → P (moves 4 c) → P (made 0 c) → P (room_made c)
  unfolding room_made
  room_cases P a b =
      cases (eqb (length c.waiting) 64)
      (λ e. subst P (sym (picks_first (moves 4 c) (made 0 c) e)) a)
      (λ e. subst P (sym (picks_second (moves 4 c) (made 0 c) e)) b)

  -- it keeps all but the queue and the map, ..
  pub room_keeps : (A : Type 0) (f : Chip → A)
      → ((es : List Entry) (m : List ℕ) (n : ℕ) → f (with_queue es m (with_first n c)) ≡ f c)
      → f (room_made c).after ≡ f c
  room_keeps A f k =
      room_cases (λ (m : Moves). f m.after ≡ f c) (ap (λ (m : Moves). f m.after) (moves_are 4 c) ∙ k _ _ _) refl

  -- .. with the first position a place, ..
  pub room_first : InRange c → (room_made c).after.lent.first < 64
  room_first h =
      room_cases (λ (m : Moves). m.after.lent.first < 64)
      (rw (moves_are 4 c) (first_below (min 4 (length c.waiting)) c.lent.first h.first)) h.first

  -- .. and leaves a free location
  pub room_space : InRange c → length (room_made c).after.waiting < 64
  room_space h =
      cases (eqb (length c.waiting) 64)
      (λ e.
      let full = eqb-true (length c.waiting) 64 e in
      rw (room_forced full, moves_are 4 c) (simp length-drop (omega arith)))
      (λ e.
      let less = eqb-false (length c.waiting) 64 e in
      let few = h.few in
      rw (room_left less) (omega arith))
