-- The digits of a number, and the number that digits spell, one after another. Assumes nothing.
use Prim.Native.Nat.{ℕ, zero, suc, ◌+◌, ◌*◌, ◌/◌, ◌%◌, ◌^◌, ◌<◌, ◌≤◌}
use mathlib.Core.Path.{◌≡◌, refl, ◌∙◌}
use mathlib.Core.List.{List, [], ◌∷◌, ◌++◌, append_assoc}
use native.Mathlib.Nat.{pow-zero, pow-suc, pow-le-pow_right}
use native.Mathlib.Numerals.{add-one}
use native.Mathlib.Omega.{arith}
use lib.ListN.{length, get_or, length-append}
use lib.Seq.{get_or-append-add, get_or_at}
use Rattle.hex_digits.specs.Hex.{hex_digit, hex_value, hex, number}
use Rattle.hex_digits.proofs.Digits.{value_digit, value_below}

pub length_hex : (w v : ℕ) → length (hex w v) ≡ w
unfolding hex
length_hex zero v = refl
length_hex (suc w) v = simp length-append (omega (arith, length_hex w (v / 16)))

pub number_none : (i : ℕ) (t : List ℕ) → 0 ≡ number 0 i t
unfolding number
number_none i t = refl

pub number_more : (w i : ℕ) (t : List ℕ) {v d b : ℕ} → v ≡ number w i t → d ≡ hex_value b → b ≡ get_or t (i + w) 0
    → v * 16 + d ≡ number (w + 1) i t
unfolding number
number_more w i t e f g = rw (e, f, g, add-one)

pub ruleset digit_by_digit = (number_none, number_more)

-- w digits stay below 16^w
pub number_below : (w i : ℕ) (t : List ℕ) → number w i t < 16 ^ w
unfolding number
number_below zero i t = rw (pow-zero 16) (omega arith)
number_below (suc w) i t = rw (pow-suc 16 w) (omega (arith, number_below w i t, value_below (get_or t (i + w) 0)))

-- so that few digits fit: at most n of them
pub number_fits : (n w i : ℕ) (t : List ℕ) {v : ℕ} → v ≡ number w i t → w ≤ n → v < 16 ^ n
number_fits n w i t e h =
    omega (arith, number_below w i t, pow-le-pow_right {n = 16} (omega arith) {i = w} {j = n} h)

-- w digits spell their number
pub spells : (w v : ℕ) (f x : List ℕ) → v < 16 ^ w → number w (length f) (f ++ (hex w v ++ x)) ≡ v
unfolding hex number
spells zero v f x h = omega (arith, rw (pow-zero 16) at h)
spells (suc w) v f x h =
    let d = hex_digit (v % 16) in
    let g = rw (pow-suc 16 w) at h in
    let before : number w (length f) (f ++ (hex w (v / 16) ++ d ∷ x)) ≡ v / 16 =
    spells w (v / 16) f (d ∷ x) (omega arith) in
    let at : get_or (f ++ (hex w (v / 16) ++ d ∷ x)) (length f + w) 0 ≡ d =
    get_or-append-add f (hex w (v / 16) ++ d ∷ x) w 0 ∙ get_or_at (hex w (v / 16)) d x 0 w (length_hex w (v / 16)) in
    rw (append_assoc (hex w (v / 16)) (d ∷ []) x, before, at, value_digit (v % 16) (omega arith)) (omega arith)
