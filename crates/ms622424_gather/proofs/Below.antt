-- Laws of bits gathered from places. Assumes nothing.
use Prim.Native.Nat.{ℕ, suc, ◌+◌, ◌^◌, ◌<◌}
use mathlib.Core.Path.{◌≡◌}
use mathlib.Core.Bool.{Bool, ◌&&◌}
use mathlib.Core.List.{List}
use native.Mathlib.Omega.{arith}
use borrow.Author.Tests.{ltb-true, lt-ltb}
use lib.Bits.{bit_or, or_lt, or_add_and, and_le_l, and_le_r}
use lib.Dec.{ltb}
use lib.ListN.{length, get_or, take}
use lib.Pow.{pow_pos}
use lib.Seq.{take-suc}
use Rattle.vocabulary.specs.Every.{every}
use Rattle.vocabulary.proofs.Every.{every_append, every_one}
use Rattle.vocabulary.proofs.Range.{agree, both, pair}

-- every place of a list is below a power of 2
abbrev pub all_below : ℕ → List ℕ → Bool
all_below k l = every (λ (n : ℕ). ltb n (2 ^ k)) l

-- gathered bits are below a power of 2 exactly when both numbers are
pub or_below : (k a b : ℕ) → ltb (bit_or a b) (2 ^ k) ≡ (ltb a (2 ^ k) && ltb b (2 ^ k))
or_below k a b =
    let sum = or_add_and a b in
    let left = and_le_l a b in
    let right = and_le_r a b in
    agree _ _
    (λ e. let h = ltb-true (bit_or a b) (2 ^ k) e in
    pair (lt-ltb a (2 ^ k) (omega arith)) (lt-ltb b (2 ^ k) (omega arith)))
    (λ e.
    let t = both (ltb a (2 ^ k)) (ltb b (2 ^ k)) e in
    lt-ltb _ _ (or_lt k a b (ltb-true a (2 ^ k) t.0) (ltb-true b (2 ^ k) t.1)))

-- no element, and one more
pub gather_none : (l : List ℕ) (k : ℕ) → ltb 0 (2 ^ k) ≡ all_below k (take 0 l)
unfolding every
gather_none l k = lt-ltb 0 (2 ^ k) (pow_pos k)

pub gather_next : (bits i : ℕ) (l : List ℕ) → i < length l
    → ((k : ℕ) → ltb bits (2 ^ k) ≡ all_below k (take i l))
    → (k : ℕ) → ltb (bit_or bits (get_or l i 0)) (2 ^ k) ≡ all_below k (take (i + 1) l)
gather_next bits i l h e k =
    let next : i + 1 ≡ suc i = omega arith in
    rw (next, take-suc l i 0 h, every_append, every_one, ← e k) (or_below k bits (get_or l i 0))
