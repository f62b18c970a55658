-- Laws of the ring: n places from a position on, place 0 behind place 63. Assumes nothing.
use Prim.Native.Nat.{ℕ, zero, suc, ◌+◌, ◌-◌, ◌%◌, ◌<◌, ◌≤◌}
use mathlib.Core.Path.{◌≡◌, refl, sym, ap, ◌∙◌}
use mathlib.Core.List.{List, [], ◌∷◌, ◌++◌}
use native.Mathlib.Omega.{arith}
use lib.ListN.{length, get_or, take, drop, set, length-drop, length-take, take-append-drop}
use lib.Seq.{get_or-set_same, get_or-set_other, ext_get_or, get_or-take, get_or-drop, take_all}
use Rattle.ms622424_places.specs.Places.{ringed}

pub ringed_length : (f n : ℕ) (q : List ℕ) → length (ringed f n q) ≡ n
unfolding ringed
ringed_length f zero q = refl
ringed_length f (suc n) q = ap suc (ringed_length (f + 1) n q)

-- equal places hold the same; equal parts
place_same : (q : List ℕ) {i j : ℕ} → i ≡ j → get_or q i 0 ≡ get_or q j 0
place_same q e = ap (λ (i : ℕ). get_or q i 0) e

both_same : {x y : ℕ} {l m : List ℕ} → x ≡ y → l ≡ m → x ∷ l ≡ y ∷ m
both_same e f = cc

-- the position counts modulo 64
pub ringed_turn : (f g n : ℕ) (q : List ℕ) → f % 64 ≡ g % 64 → ringed f n q ≡ ringed g n q
unfolding ringed
ringed_turn f g zero q e = refl
ringed_turn f g (suc n) q e =
    both_same (place_same q (omega arith)) (ringed_turn (f + 1) (g + 1) n q (omega arith))

-- entry i from the oldest is at place first + i, modulo 64
pub ringed_at : (f n : ℕ) (q : List ℕ) (i : ℕ) → i < n → get_or (ringed f n q) i 0 ≡ get_or q ((f + i) % 64) 0
unfolding ringed
ringed_at f zero q i h = omega arith
ringed_at f (suc n) q zero h = place_same q (omega arith)
ringed_at f (suc n) q (suc i) h =
    ringed_at (f + 1) n q i (omega arith) ∙ place_same q (omega arith)

-- ---- the oldest taken, and those behind them
pub ringed_take : (k f n : ℕ) (q : List ℕ) → k ≤ n → take k (ringed f n q) ≡ ringed f k q
unfolding ringed
ringed_take zero f n q h = refl
ringed_take (suc k) f zero q h = absurd (omega arith)
ringed_take (suc k) f (suc n) q h =
    both_same refl (ringed_take k (f + 1) n q (omega arith))

pub ringed_drop : (k f n : ℕ) (q : List ℕ) → k ≤ n → drop k (ringed f n q) ≡ ringed ((f + k) % 64) (n - k) q
unfolding ringed
ringed_drop zero f n q h =
    let all : n - 0 ≡ n = omega arith in rw all (ringed_turn f ((f + 0) % 64) n q (omega arith))
ringed_drop (suc k) f zero q h = absurd (omega arith)
ringed_drop (suc k) f (suc n) q h =
    let same : n - k ≡ suc n - suc k = omega arith in
    ringed_drop k (f + 1) n q (omega arith)
    ∙ (rw same (ringed_turn ((f + 1 + k) % 64) ((f + suc k) % 64) (suc n - suc k) q (omega arith)))

-- ---- so many, and so many more
pub ringed_append : (f a b : ℕ) (q : List ℕ) → ringed f (a + b) q ≡ ringed f a q ++ ringed (f + a) b q
unfolding ringed
ringed_append f zero b q =
    let none : 0 + b ≡ b = omega arith in rw none (ringed_turn f (f + 0) b q (omega arith))
ringed_append f (suc a) b q =
    let more : suc a + b ≡ suc (a + b) = omega arith in
    let same : f + 1 + a ≡ f + suc a = omega arith in
    rw more (both_same refl (rw same at (ringed_append (f + 1) a b q)))

-- ---- one put last
pub ringed_last : (f n : ℕ) (q : List ℕ) → ringed f (n + 1) q ≡ ringed f n q ++ (get_or q ((f + n) % 64) 0 ∷ [])
unfolding ringed
ringed_last f zero q = both_same (place_same q (omega arith)) refl
ringed_last f (suc n) q =
    let more : suc n + 1 ≡ suc (n + 1) = omega arith in
    let same : f + 1 + n ≡ f + suc n = omega arith in
    rw more (both_same refl (rw same at (ringed_last (f + 1) n q)))

-- a place written that no entry waits in
ringed_set : (f n : ℕ) (q : List ℕ) (j x : ℕ) → ((i : ℕ) → i < n → (f + i) % 64 ≡ j → ⊥)
    → ringed f n (set q j x) ≡ ringed f n q
unfolding ringed
ringed_set f zero q j x h = refl
ringed_set f (suc n) q j x h =
    let one = get_or-set_other q j (f % 64) x 0 (λ e. h 0 (omega arith) (omega arith)) in
    let rest = ringed_set (f + 1) n q j x (λ i l e. h (i + 1) (omega arith) (omega arith)) in
    cc

pub ringed_put : (f n : ℕ) (q : List ℕ) (x : ℕ) → length q ≡ 64 → n < 64
    → ringed f (n + 1) (set q ((f + n) % 64) x) ≡ ringed f n q ++ (x ∷ [])
ringed_put f n q x l h =
    let j = (f + n) % 64 in
    let own = get_or-set_same q j x 0 (omega arith) in
    let others = ringed_set f n q j x (λ i g e. omega arith) in
    ringed_last f n (set q j x) ∙ rw (own, others) refl

-- ---- the places as they lie: in one part, or round the end in two
pub ringed_straight : (f n : ℕ) (q : List ℕ) → length q ≡ 64 → f + n ≤ 64 → ringed f n q ≡ take n (drop f q)
ringed_straight f n q l h =
    let long : length (take n (drop f q)) ≡ n = simp (length-take, length-drop) (omega arith) in
    ext_get_or 0 (ringed f n q) (take n (drop f q)) (ringed_length f n q ∙ sym long)
    (λ i g.
    let small : i < n = rw (ringed_length f n q) at g in
    let at : (f + i) % 64 ≡ f + i = omega arith in
    ringed_at f n q i small ∙ (rw at (sym (get_or-drop f q i 0)) ∙ sym (get_or-take n (drop f q) i 0 small)))

pub ringed_round : (f n : ℕ) (q : List ℕ) → length q ≡ 64 → f ≤ 64 → 64 ≤ f + n → n ≤ 64
    → ringed f n q ≡ drop f q ++ take (f + n - 64) q
ringed_round f n q l h g m =
    let k = 64 - f in
    let front : take k (ringed f n q) ≡ drop f q =
    ringed_take k f n q (omega arith)
    ∙ (ringed_straight f k q l (omega arith) ∙ take_all k (drop f q) (simp length-drop (omega arith))) in
    let first : (f + k) % 64 ≡ 0 = omega arith in
    let rest : n - k ≡ f + n - 64 = omega arith in
    let back : drop k (ringed f n q) ≡ take (f + n - 64) q =
    ringed_drop k f n q (omega arith)
    ∙ (rw (first, rest) (ringed_straight 0 (f + n - 64) q l (omega arith))) in
    sym (take-append-drop k (ringed f n q)) ∙ rw (front, back) refl
