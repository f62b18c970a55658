-- What is kept of a text, and what its values are. Assumes nothing.
use Prim.Native.Nat.{ℕ, ◌^◌, ◌<◌}
use mathlib.Core.Path.{◌≡◌, sym}
use mathlib.Core.List.{List}
use native.Mathlib.Omega.{arith}
use lib.Dec.{ltb}
use borrow.Author.Tests.{ltb-true, ltb-false}
use Rattle.vocabulary.proofs.Choice.{cases}
use Rattle.std.specs.Prelude.{Ok, Err}
use Rattle.sheet.specs.Sheet.{Line, key_at, width, sheet_of}
use Rattle.sheet.specs.Grammar.{IsSheet, BadAt}
use Rattle.sheet.specs.Kept.{reading_of}
use Rattle.sheet.proofs.Texts.{width_chip, width_register, width_entry}
use Rattle.sheet.proofs.Grammar.{grammar}

-- a value of a key's digits is below 4,096
pub low_value : (k v : ℕ) → v < 16 ^ width (key_at k) → v < 4096
low_value k v h =
    cases (ltb k 1)
    (λ b. let l = ltb-true k 1 b in let s = rw (width_chip k l) at h in omega arith)
    (λ b.
    let g = ltb-false k 1 b in
    cases (ltb k 5)
    (λ b. let l = ltb-true k 5 b in let s = rw (width_register k g l) at h in omega arith)
    (λ b. let l = ltb-false k 5 b in let s = rw (width_entry k l) at h in s))

-- what is kept of a text says what it is: these lines are its, or this line is its first bad or missing one
module _ (t : List ℕ) where
  pub kept_good : (l : List Line) → reading_of (Ok l) ≡ sheet_of t → IsSheet t l
  kept_good l e = grammar.good_only t l (sym e)

  pub kept_bad : (n : ℕ) → reading_of (Err n) ≡ sheet_of t → BadAt n t
  kept_bad n e = grammar.bad_only t n (sym e)
