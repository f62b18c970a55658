-- What the list rules out: an entry without its address, a missing one that is touched, 7 before 8. Assumes nothing.
use Prim.Native.Nat.{ℕ, zero, suc, ◌+◌}
use mathlib.Core.Path.{◌≡◌, refl, sym}
use mathlib.Core.Bool.{Bool, true, false}
use mathlib.Core.List.{List, [], ◌∷◌, ◌++◌}
use native.Mathlib.Omega.{arith}
use lib.ListN.{replicate}
use Rattle.vocabulary.specs.Outcome.{refusing}
use Rattle.std.specs.Prelude.{Some, None}
use Rattle.sheet.specs.Sheet.{Line, bad, sheet_of}
use Rattle.calls.specs.Calls.{call, colour_calls, entry_calls, table_calls, sheet_to_calls}
use Rattle.calls.proofs.Ends.{malformed_eight}

-- entries that are missing are not touched: they have no call
pub missing_untouched : (select entry n : ℕ) (follows : Bool)
    → table_calls select entry follows (replicate n None) ≡ []
unfolding table_calls entry_calls
missing_untouched select entry zero follows = refl
missing_untouched select entry (suc n) follows = missing_untouched select (entry + 1) n false

-- behind missing entries, in a gap or at a table's start, an entry's address is written, whatever stood before: o3
-- before c04 too
pub address_after_gap : (select entry n : ℕ) (follows : Bool) (v : ℕ) (l : List Line)
    → table_calls select entry follows (replicate (suc n) None ++ (Some v ∷ l))
    ≡ call 0 (entry + suc n) ∷ colour_calls select v ++ table_calls select (entry + suc n + 1) true l
unfolding table_calls entry_calls
address_after_gap select entry zero follows v l = refl
address_after_gap select entry (suc n) follows v l =
    let e : entry + 1 + suc n ≡ entry + suc (suc n) = omega arith in
    rw (sym e) (address_after_gap select (entry + 1) n false v l)

-- and at entry 0
pub address_at_zero : (select v : ℕ) (l : List Line)
    → table_calls select 0 false (Some v ∷ l) ≡ call 0 0 ∷ colour_calls select v ++ table_calls select 1 true l
unfolding table_calls entry_calls
address_at_zero select v l = refl

-- an entry that follows the one before has none
pub no_address_between : (select entry v : ℕ) (l : List Line)
    → table_calls select entry true (Some v ∷ l) ≡ colour_calls select v ++ table_calls select (entry + 1) true l
unfolding table_calls entry_calls
no_address_between select entry v l = refl

-- a malformed sheet is refusal 8, whatever the buffer, an empty one too: 7 never comes first
pub eight_first : (t out : List ℕ) (n : ℕ) → sheet_of t ≡ bad n → sheet_to_calls t out ≡ refusing 8 n out
eight_first t out n e = sym (malformed_eight t out n (sym e))
