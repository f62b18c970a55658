-- The code's masks are the signals' rule. Assumes nothing.
use Prim.Native.Nat.{ℕ, ◌+◌, ◌*◌, ◌/◌, ◌%◌, ◌<◌}
use mathlib.Core.Path.{◌≡◌, sym, ◌∙◌}
use native.Mathlib.Omega.{arith}
use lib.Bits.{bit_and, bit_or}
use Rattle.vocabulary.proofs.Table.{table_rule}
use Rattle.ms622424.specs.Ms622424.{pipe_out}

abbrev masked : ℕ → ℕ → ℕ
masked command s = bit_or (bit_and (bit_and s command) 3) (bit_and (bit_or s command) 12)

-- all 512 pairs of command and signals at once, the command above the four signals
pub piped_is : (command s : ℕ) → command < 32 → s < 16 → masked command s ≡ pipe_out command s
unfolding pipe_out
piped_is command s h g =
    let k = command * 16 + s in
    let small : k < 512 = omega arith in
    let above : k / 16 ≡ command = omega arith in
    let below : k % 16 ≡ s = omega arith in
    let code : ℕ → ℕ = λ n. masked (n / 16) (n % 16) in
    let rule : ℕ → ℕ = λ n. pipe_out (n / 16) (n % 16) in
    let same : code k ≡ rule k = sym (table_rule code 512 k small) ∙ table_rule rule 512 k small in
    rw (above, below) at same
