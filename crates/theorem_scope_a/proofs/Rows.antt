-- The rows of a good chip: writes and reads, by select. Assumes nothing.
use Prim.Native.Nat.{ℕ, ◌+◌, ◌*◌, ◌<◌, ◌≤◌}
use mathlib.Core.Path.{◌≡◌, refl, sym, ap, ◌∙◌}
use mathlib.Core.Bool.{true}
use mathlib.Core.List.{◌∷◌}
use native.Mathlib.Omega.{arith}
use native.Mathlib.Nat.{add-zero}
use lib.ListN.{get_or}
use Rattle.vocabulary.specs.Component.{Component, component_at, put, red, green, blue}
use Rattle.vocabulary.specs.Outcome.{Outcome, accepting, refusing}
use Rattle.vocabulary.specs.Range.{below}
use Rattle.vocabulary.proofs.Face.{called_nine}
use Rattle.vocabulary.proofs.Range.{not_fails}
use Rattle.hd153108.specs.Hd153108.{Chip, Table, data_of, register_at, no_register, entry_at, next}
use Rattle.hd153108.specs.Hd153108.{table_of, with_table, stepped, written, answers, InRange, ranges, refusals}
use Rattle.hd153108.specs.Hd153108.{Call, writes, reads, does, called}
use Rattle.hd153108.proofs.InRange.{not_short}
use Rattle.hd153108.proofs.Access.{Access, writing, reading, select_of, Served, access_goes, no_access_lem}
use Rattle.hd153108.proofs.Access.{is_red, is_green, is_blue}
use Rattle.hd153108.proofs.Data as D
use Rattle.theorem_scope_a.specs.Scope.{Good, Data, Register, at}
use Rattle.theorem_scope_a.proofs.Good.{good_in_range}

module _ (c : Chip) (g : Good c) where
  range : InRange c
  range = good_in_range c g

  -- an access of a register that is there
  goes : {k : Call} → Access k → Served (select_of k) → {o : Outcome Chip} → does k c ≡ o → called k c ≡ o
  goes u s e = sym (access_goes c range u s) ∙ e

  -- ---- select 0
  pub address_write : (b : ℕ) → b < 256
      → called (writes 0 b) c ≡ accepting 0 0 (at b 0 c.state.red c.state.green c)
  unfolding register_at written
  address_write b h = goes (writing h) refl refl

  pub address_read : let s = c.state in
      called (reads 0) c ≡ accepting s.address 0 (at s.address 0 s.red s.green c)
  unfolding register_at answers
  address_read = goes reading refl refl

  -- ---- a table's data
  module _ (t : Table) (select : ℕ) (e : register_at select ≡ data_of t) where
    data_written_lem : (b : ℕ) → b < 256 → {d : Chip} → does (writes select b) c ≡ accepting 0 0 d
        → called (writes select b) c ≡ accepting 0 0 d
    data_written_lem b h f = goes (writing h) (rw e) f

    data_answered : (k : Component) → component_at c.state.pointer ≡ k → (p : ℕ) → c.state.pointer ≡ p
        → let s = c.state in
        called (reads select) c
        ≡ accepting (get_or (table_of t c) (3 * entry_at t s.address + p) 0) 0
        (record { state = stepped k (next t s.address) s; colours = c.colours; overlays = c.overlays })
    unfolding answers
    data_answered k f p h = goes reading (rw e) (rw (e, f, ← h) refl)

    pub data_rows : Data called select (entry_at t) (next t) (table_of t) (with_table t) c
    unfolding written stepped put
    data_rows = record {
      red_write = λ b h p. data_written_lem b h (rw e (ap (accepting 0 0) (D.red_write t b c p)));
      green_write = λ b h p. data_written_lem b h (rw e (ap (accepting 0 0) (D.green_write t b c p)));
      blue_write = λ b h p. data_written_lem b h (rw e (ap (accepting 0 0) (D.blue_write t b c p)));
      red_read = λ p. data_answered red (is_red _ p) 0 p ∙ simp add-zero;
      green_read = λ p. data_answered green (is_green _ p) 1 p;
      blue_read = λ p. data_answered blue (is_blue _ (λ z. omega arith) (λ z. omega arith)) 2 p;
    }

  -- ---- selects 4 to 7
  pub register_row : (select told : ℕ) (set : ℕ → Chip) → Served select
      → ((b : ℕ) → b < 256 → does (writes select b) c ≡ accepting 0 0 (set b))
      → does (reads select) c ≡ accepting told 0 c → Register called select told set c
  register_row select told set s w r = record { write = λ b h. goes (writing h) s (w b h); read = goes reading s r }

  -- ---- refused: no register is there, or the byte is none
  pub no_register_lem : {k : Call} → Access k → no_register (register_at (select_of k)) ≡ true
      → called k c ≡ refusing 3 0 c
  no_register_lem u e = sym (no_access_lem c range u e)

  pub no_byte : (select b : ℕ) → 256 ≤ b → called (writes select b) c ≡ refusing 9 0 c
  no_byte select b h =
      called_nine refusals does _ c (not_short c range) (not_fails (below b 256 ∷ ranges c) (λ f. omega arith))
