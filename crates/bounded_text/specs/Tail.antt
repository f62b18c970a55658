-- The bytes behind a text's own are zeros, so that a text gives its bytes back. Assumes nothing.
use Rattle.std.specs.Prelude.{◌≡◌, List, ℕ, ◌++◌, ◌-◌, ◌≤◌, length, take, replicate}
use Rattle.std.proofs.Common.{arith, length-take-le, sym, ap, ◌∙◌}

pub tail_back : (N len : ℕ) (bytes : List ℕ) → len ≤ N → length bytes ≡ N
    → bytes ≡ take len bytes ++ replicate (N - len) 0
    → take len bytes ++ replicate (N - length (take len bytes)) 0 ≡ bytes
tail_back N len bytes l e is =
    ap (λ n. take len bytes ++ replicate (N - n) 0) (length-take-le len bytes (omega (arith, l, e))) ∙ sym is
