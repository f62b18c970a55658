-- A table's calls leave its lines' colours. One argument for both tables. Assumes nothing.
use Prim.Native.Nat.{ℕ, ◌+◌, ◌<◌, ◌≤◌}
use mathlib.Core.Path.{◌≡◌, refl, sym, ap, ◌∙◌}
use mathlib.Core.List.{List, [], ◌∷◌}
use mathlib.Core.Bool.{Bool, true, false}
use native.Mathlib.Omega.{arith}
use lib.ListN.{length}
use Rattle.vocabulary.proofs.Range.{clash}
use Rattle.hd153108.specs.declared.State.{State}
use Rattle.hd153108.specs.Hd153108.{Chip, Table, colour, overlay, size, table_of, with_table, InRange}
use Rattle.sheet.specs.Sheet.{Line}
use Rattle.std.specs.Prelude.{Some, None}
use Rattle.calls.specs.Calls.{entry_calls, table_calls}
use Rattle.theorem_load.proofs.Grammar.{Colours}
use Rattle.theorem_load.proofs.Runs.{Runs, none, next as after}
use Rattle.hd153108.proofs.Data.{at}
use Rattle.theorem_load.proofs.Entry.{select_of, entry_done, entry_calls_lem, entry_state, next_entry}
use Rattle.theorem_load.proofs.Tables.{put_line, put_lines}

-- the chip after a line's calls, and after a table's
unfoldable pub line_done : Table → ℕ → Line → Chip → Chip
line_done t e (Some v) c = entry_done t e v c
line_done t e None c = c

unfoldable pub table_done : Table → ℕ → List Line → Chip → Chip
table_done t e [] c = c
table_done t e (x ∷ l) c = table_done t (e + 1) l (line_done t e x c)

-- where an entry follows the one before, the pointer is at red and the address is the entry's
abbrev Ready : Table → ℕ → Bool → Chip → Type 0
Ready t e follows c = follows ≡ true → e < size t → (c.state.pointer ≡ 0) × (c.state.address ≡ e)

ready_next : (t : Table) (e v : ℕ) (c : Chip) → Ready t (e + 1) true (entry_done t e v c)
ready_next t e v c f h =
    let s = entry_state t e v c in
    (ap (λ (x : State). x.pointer) s, ap (λ (x : State). x.address) s ∙ next_entry t e h)

pub table_calls_lem : (t : Table) (e : ℕ) (follows : Bool) (l : List Line) (c : Chip) → InRange c → Colours l
    → e + length l ≤ size t → Ready t e follows c → Runs (table_calls (select_of t) e follows l) c (table_done t e l c)
unfolding table_calls table_done line_done entry_calls
table_calls_lem t e follows [] c g b n r = none c
table_calls_lem t e follows (Some v ∷ l) c g (fits, b) n r =
    let h : e < size t = omega arith in
    after g (entry_calls_lem t e v h fits follows c g (λ f. r f h))
    (λ g1. table_calls_lem t (e + 1) true l (entry_done t e v c) g1 b (omega arith) (ready_next t e v c))
table_calls_lem t e follows (None ∷ l) c g b n r =
    table_calls_lem t (e + 1) false l c g b (omega arith) (λ f h. clash (sym f))

-- ---- what they leave

-- the table has the lines' colours
table_stored : (t : Table) (s : List ℕ) (c : Chip) → table_of t (with_table t s c) ≡ s
table_stored colour s c = refl
table_stored overlay s c = refl

line_table : (t : Table) (e : ℕ) (x : Line) (c : Chip) → table_of t (line_done t e x c) ≡ put_line e x (table_of t c)
unfolding line_done entry_done put_line
line_table t e (Some v) c = table_stored t _ _
line_table t e None c = refl

pub table_lines : (t : Table) (e : ℕ) (l : List Line) (c : Chip)
    → table_of t (table_done t e l c) ≡ put_lines e l (table_of t c)
unfolding table_done put_lines
table_lines t e [] c = refl
table_lines t e (x ∷ l) c = table_lines t (e + 1) l (line_done t e x c) ∙ ap (put_lines (e + 1) l) (line_table t e x c)

-- and whatever a data write keeps is kept
module _ {A : Type 0} (f : Chip → A) (t : Table)
    (kept : (s : List ℕ) (c : Chip) (a p r g : ℕ) → f (with_table t s (at c a p r g)) ≡ f c) where
  line_keeps : (e : ℕ) (x : Line) (c : Chip) → f (line_done t e x c) ≡ f c
  unfolding line_done entry_done
  line_keeps e (Some v) c = kept _ c _ _ _ _
  line_keeps e None c = refl

  pub table_keeps : (e : ℕ) (l : List Line) (c : Chip) → f (table_done t e l c) ≡ f c
  unfolding table_done
  table_keeps e [] c = refl
  table_keeps e (x ∷ l) c = table_keeps (e + 1) l (line_done t e x c) ∙ line_keeps e x c
