-- What the helpers of the call list go by: the count of a table's calls, and what a good sheet's lines are.
use Rattle.std.specs.Prelude.{ℕ, ◌+◌, ◌<◌, ◌≡◌, Bool, List, [], ◌∷◌, length, get_or, Some, None, is_some, IsSomeAnd}
use Rattle.sheet.specs.Sheet.{Line, keys}
use Rattle.calls.specs.Calls.{address_calls}

-- how many calls an entry and a table have, the same for both tables (proofs/Count.antt, `count_is`)
unfoldable pub entry_count : Bool → Line → ℕ
entry_count follows (Some v) = length (address_calls follows 0) + 3
entry_count follows None = 0

unfoldable pub table_count : Bool → List Line → ℕ
table_count follows [] = 0
table_count follows (x ∷ l) = entry_count follows x + table_count (is_some x) l

-- a good sheet's lines: one for each key, and the registers' are there and bytes
pub record Kept (lines : List Line) : Type 0 where
  pub long : length lines ≡ keys
  pub read : IsSomeAnd (get_or lines 1 None) (λ v. v < 256)
  pub blink : IsSomeAnd (get_or lines 2 None) (λ v. v < 256)
  pub control : IsSomeAnd (get_or lines 3 None) (λ v. v < 256)
  pub timing : IsSomeAnd (get_or lines 4 None) (λ v. v < 256)
