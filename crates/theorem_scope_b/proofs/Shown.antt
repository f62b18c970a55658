-- The rows' status byte, timing signals and pixel are the chip's. Assumes nothing.
use Prim.Native.Nat.{ℕ, zero, suc, ◌+◌, ◌*◌, ◌<◌, min, max}
use mathlib.Core.Path.{◌≡◌, refl, ap, ◌∙◌}
use mathlib.Core.Bool.{Bool, true, false}
use native.Mathlib.Omega.{arith}
use lib.Dec.{eqb, leb}
use lib.ListN.{length}
use Rattle.vocabulary.specs.Choice.{pick}
use Rattle.vocabulary.specs.Line.{line}
use Rattle.ms622424.specs.Ms622424.{Chip, mark, status_of, status_byte, pipe_out}
use Rattle.theorem_scope_b.specs.Scope.{status, anded, ored, timing}

-- ---- status

weighed : (n : ℕ) (b : Bool) → n * pick b 0 1 ≡ pick b 0 n
unfolding pick
weighed n true = omega arith
weighed n false = omega arith

mark_by_line : (x : ℕ) → x < 2 → ◌≡◌ {A = ℕ} (pick (eqb x 1) 56 32) (pick (eqb x 0) 32 56)
unfolding pick
mark_by_line zero h = refl
mark_by_line (suc zero) h = refl
mark_by_line (suc (suc x)) h = absurd (let z : ⊥ = omega arith in z)

pub status_is : (c : Chip) → status c ≡ status_byte c
unfolding status_byte status_of mark
status_is c =
    let n = length c.waiting in
    let m = mark_by_line (line c.control.command 4) (omega arith) in
    rw (weighed 4 (eqb n 0), weighed 16 (eqb n 64))
    (ap (λ (x : ℕ). c.port.counter + pick (eqb n 0) 0 4 + x + pick (eqb n 64) 0 16)
    (weighed 8 _ ∙ ap (λ (x : ℕ). pick (leb x n) 0 8) m))

-- ---- timing signals

anded_is : (x y : ℕ) → x < 2 → y < 2 → anded x y ≡ min x y
unfolding pick
anded_is zero y h g = omega arith
anded_is (suc zero) zero h g = refl
anded_is (suc zero) (suc zero) h g = refl
anded_is (suc zero) (suc (suc y)) h g = absurd (let z : ⊥ = omega arith in z)
anded_is (suc (suc x)) y h g = absurd (let z : ⊥ = omega arith in z)

ored_is : (x y : ℕ) → x < 2 → y < 2 → ored x y ≡ max x y
unfolding pick
ored_is zero zero h g = refl
ored_is zero (suc zero) h g = refl
ored_is zero (suc (suc y)) h g = absurd (let z : ⊥ = omega arith in z)
ored_is (suc zero) zero h g = refl
ored_is (suc zero) (suc zero) h g = refl
ored_is (suc zero) (suc (suc y)) h g = absurd (let z : ⊥ = omega arith in z)
ored_is (suc (suc x)) y h g = absurd (let z : ⊥ = omega arith in z)

pub timing_is : (s command : ℕ) → timing s command ≡ pipe_out command s
unfolding pipe_out
timing_is s command =
    let a = anded_is (line s 0) (line command 0) (omega arith) (omega arith) in
    let b = anded_is (line s 1) (line command 1) (omega arith) (omega arith) in
    let o = ored_is (line s 2) (line command 2) (omega arith) (omega arith) in
    let p = ored_is (line s 3) (line command 3) (omega arith) (omega arith) in
    rw (a, b, o, p) refl
