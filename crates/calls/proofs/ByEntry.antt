-- The call list, entry by entry. Assumes nothing.
use Prim.Native.Nat.{ℕ, ◌+◌, ◌-◌, ◌/◌}
use mathlib.Core.Path.{◌≡◌, refl, sym, ap, ◌∙◌}
use mathlib.Core.Bool.{Bool, false}
use mathlib.Core.List.{List, [], ◌∷◌}
use native.Mathlib.Nat.{add-zero}
use native.Mathlib.Omega.{arith}
use borrow.Author.Tests.{ne_eqb}
use lib.ListN.{length, get_or, drop}
use lib.Seq.{get_or-drop, drop-drop}
use Rattle.vocabulary.specs.Choice.{pick}
use Rattle.vocabulary.proofs.Choice.{picks_second}
use Rattle.sheet.specs.Sheet.{Line, overlays_of, colours_of}
use Rattle.std.specs.Prelude.{Some, None, is_some}
use Rattle.calls.specs.Calls.{Call, call, colour_calls, register_calls, entry_calls, table_calls, calls_of}
use Rattle.calls.specs.ByEntry.{three_writes, listed, before, entries_from, ByEntry}

three_writes_lem : (select v : ℕ) → colour_calls select v ≡ three_writes select v
three_writes_lem select v = let red : v / 16 / 16 ≡ v / 256 = omega arith in rw red refl

entry_listed : (select e : ℕ) (b x : Line) → entry_calls select e (is_some b) x ≡ listed select e b x
unfolding entry_calls
entry_listed select e (Some u) (Some v) = three_writes_lem select v
entry_listed select e None (Some v) = ap (λ (l : List Call). call 0 e ∷ l) (three_writes_lem select v)
entry_listed select e (Some u) None = refl
entry_listed select e None None = refl

-- the entry before the next is this one
before_next : (l : List Line) (e : ℕ) → before l (e + 1) ≡ get_or l e None
before_next l e =
    let same : e + 1 - 1 ≡ e = omega arith in
    picks_second _ _ (ne_eqb (e + 1) 0 (λ z. omega arith)) ∙ ap (λ (i : ℕ). get_or l i None) same

-- a table from entry e on, where the rest r of its lines begins
table_from : (select : ℕ) (l r : List Line) (e : ℕ) (b : Bool) → drop e l ≡ r → b ≡ is_some (before l e)
    → table_calls select e b r ≡ entries_from select l e (length r)
unfolding table_calls entries_from
table_from select l [] e b h f = refl
table_from select l (x ∷ r) e b h f =
    let here : get_or l e None ≡ x =
    ap (λ (i : ℕ). get_or l i None) (sym (add-zero e))
    ∙ (sym (get_or-drop e l 0 None) ∙ ap (λ (m : List Line). get_or m 0 None) h) in
    let rest : drop (e + 1) l ≡ r = sym (drop-drop 1 e l) ∙ ap (drop 1) h in
    let next = table_from select l r (e + 1) (is_some x) rest (ap is_some (sym (before_next l e ∙ here))) in
    rw (f, here, next, entry_listed select e (before l e) x) refl

table_by_entry : (select : ℕ) (l : List Line) → table_calls select 0 false l ≡ entries_from select l 0 (length l)
unfolding pick
table_by_entry select l = table_from select l l 0 false refl refl

pub by_entry : ByEntry calls_of
unfolding calls_of register_calls
by_entry l read blink control timing e =
    rw (e, table_by_entry 3 (overlays_of l), table_by_entry 1 (colours_of l)) refl
