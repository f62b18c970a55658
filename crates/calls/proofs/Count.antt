-- How many calls there are: the count, and at most 786. Assumes nothing.
use Prim.Native.Nat.{ℕ, ◌+◌, ◌*◌, ◌-◌, ◌≤◌, ◌<◌}
use mathlib.Core.Path.{◌≡◌, refl, ap, ◌∙◌}
use mathlib.Core.Bool.{Bool, true, false}
use mathlib.Core.List.{List, [], ◌∷◌}
use native.Mathlib.Omega.{arith}
use native.Mathlib.Numerals.{add-one}
use lib.ListN.{length, get_or, take, drop, length-append, length-take, length-drop, drop_of_length-le}
use lib.Seq.{drop-cons}
use Rattle.std.specs.Prelude.{Some, None, is_some}
use Rattle.sheet.specs.Sheet.{Line, good, keys, sheet_of, registers_of, overlays_of, colours_of}
use Rattle.sheet.proofs.Good.{sound}
use Rattle.calls.specs.Calls.{register_calls, entry_calls, table_calls, calls_of}
use Rattle.calls.specs.Kept.{entry_count, table_count, Kept}
use Rattle.calls.proofs.Stored.{length_bytes, length_registers}
use Rattle.calls.proofs.Lent.{colours_kept}

entry_count_lem : (s e : ℕ) (f : Bool) (x : Line) → length (entry_calls s e f x) ≡ entry_count f x
unfolding entry_calls entry_count
entry_count_lem s e true (Some v) = refl
entry_count_lem s e false (Some v) = refl
entry_count_lem s e f None = refl

pub count_is : (s e : ℕ) (f : Bool) (l : List Line) → length (table_calls s e f l) ≡ table_count f l
unfolding table_calls table_count
count_is s e f [] = refl
count_is s e f (x ∷ l) =
    length-append (entry_calls s e f x) _ ∙ omega (arith, entry_count_lem s e f x, count_is s (e + 1) (is_some x) l)

-- three calls an entry, and one address write at most for each that does not follow
owed : Bool → ℕ
owed true = 0
owed false = 1

entry_bound : (f : Bool) (x : Line) → entry_count f x + owed (is_some x) ≤ 3 + owed f
unfolding entry_count owed
entry_bound true (Some v) = omega arith
entry_bound false (Some v) = omega arith
entry_bound true None = omega arith
entry_bound false None = omega arith

table_bound : (f : Bool) (l : List Line) → table_count f l ≤ 3 * length l + owed f
unfolding table_count
table_bound f [] = omega arith
table_bound f (x ∷ l) = omega (arith, entry_bound f x, table_bound (is_some x) l)

-- a table of n entries has at most 3n + 1
pub count_bound : (l : List Line) → table_count false l ≤ 3 * length l + 1
unfolding owed
count_bound l = table_bound false l

register_bound : (s : ℕ) (l : List Line) → length (register_calls s l) ≤ length l
unfolding register_calls
register_bound s [] = omega arith
register_bound s (Some v ∷ l) = omega (arith, register_bound (s + 1) l)
register_bound s (None ∷ l) = omega (arith, register_bound (s + 1) l)

-- the list's length, and at most 786
pub length_calls : (l : List Line) → length (calls_of l)
    ≡ length (register_calls 4 (registers_of l))
    + (table_count false (overlays_of l) + table_count false (colours_of l))
unfolding calls_of
length_calls l =
    simp length-append (omega (arith, count_is 3 0 false (overlays_of l), count_is 1 0 false (colours_of l)))

pub calls_bound : (l : List Line) → length l ≡ keys → length (calls_of l) ≤ 786
calls_bound l h =
    let r : length (registers_of l) ≤ 4 = simp length-take (omega arith) in
    let v : length (overlays_of l) ≤ 4 = simp length-take (omega arith) in
    let w : length (colours_of l) ≡ 256 = length-drop 9 l ∙ rw h in
    omega (
      arith,
      length_calls l,
      register_bound 4 (registers_of l),
      count_bound (overlays_of l),
      count_bound (colours_of l),
    )

pub sheet_calls_bound : (t : List ℕ) (l : List Line) → sheet_of t ≡ good l → length (calls_of l) ≤ 786
sheet_calls_bound t l e = calls_bound l (sound t l e).long

-- a table's count, entry by entry: what is counted, and what is left
module _ (lines : List Line) (e n : ℕ) (f : Bool)
    (is : n + table_count f (drop e lines) ≡ table_count false lines) where
  pub counts_all : length lines ≤ e → n ≡ table_count false lines
  unfolding table_count
  counts_all h = omega (arith, rw (drop_of_length-le lines h) at is)

  pub counts_on : {m : ℕ} → e < length lines → m ≡ entry_count f (get_or lines e None)
      → n + m + table_count (is_some (get_or lines e None)) (drop (e + 1) lines) ≡ table_count false lines
  unfolding table_count
  counts_on h c = rw add-one (omega (arith, rw (drop-cons lines e None h) at is))

-- a good sheet's count
pub count_all : (lines : List Line) {a b : ℕ} → Kept lines → a ≡ table_count false (overlays_of lines)
    → b ≡ table_count false (take (length lines - 9) (drop 9 lines))
    → (4 + a + b ≡ length (calls_of lines)) × (4 + a + b ≤ 786)
count_all lines {a} {b} k p q =
    let four : length (register_calls 4 (registers_of lines)) ≡ 4 =
    omega (arith, length_registers lines k, length_bytes (register_calls 4 (registers_of lines))) in
    let b-is : b ≡ table_count false (colours_of lines) = q ∙ ap (table_count false) (colours_kept lines) in
    let is : 4 + a + b ≡ length (calls_of lines) = omega (arith, length_calls lines) in
    (is, omega (arith, is, calls_bound lines k.long))
