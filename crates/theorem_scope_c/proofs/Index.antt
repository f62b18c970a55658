-- Ports 4 and 5 of the RGB640 as document 01 has them. Assumes nothing.
use Prim.Native.Nat.{ℕ, ◌+◌, ◌*◌, ◌%◌, ◌<◌}
use mathlib.Core.Path.{◌≡◌, refl, sym, ap, ◌∙◌}
use native.Mathlib.Omega.{arith}
use Rattle.vocabulary.specs.Outcome.{accepting}
use Rattle.rgb640.specs.declared.State.{State}
use Rattle.rgb640.specs.Rgb640.{Chip, chip, InRange, entry, register_at, wrote, told, writes, called}
use Rattle.rgb640.proofs.Index.{fetches_entry_lem, fetches_nothing_lem}
use Rattle.rgb640.proofs.Access.{write_index, read_index}
use Rattle.theorem_scope_c.specs.Scope.{Index, FromTo, at, fetching, entry_of}

module _ (c : Chip) (r : InRange c) where
  abbrev s : State
  s = c.state

  module _ (b : ℕ) (h : b < 256) where
    abbrev index : ℕ
    index = b * 256 + s.index % 256

    -- port 5 outside read space, and in it at entry e
    high_write : ¬ FromTo 0x8000 0x83FF index
        → called (writes 5 b) c ≡ accepting 0 0 (at index 0 s.red s.green c)
    unfolding register_at wrote
    high_write off =
        sym (write_index c r b h 5 refl refl)
        ∙ ap (λ (n : State). accepting 0 0 (chip n c.table))
        (fetches_nothing_lem index (λ l u. off (l, omega arith)) c.table _)

    high_write_fetches : (e : ℕ) → e < 1024 → index ≡ 0x8000 + e
        → called (writes 5 b) c
        ≡ accepting 0 0 (fetching (entry_of e c.table) (at (0x8000 + e) 0 s.red s.green c))
    unfolding register_at wrote entry
    high_write_fetches e l i =
        let same : index % 1024 ≡ e = omega arith in
        sym (write_index c r b h 5 refl refl)
        ∙ ap (λ (n : State). accepting 0 0 (chip n c.table))
        (sym (fetches_entry_lem index (omega arith) (omega arith) c.table _ refl))
        ∙ rw (same, i) refl

  pub index_rows : Index called c
  unfolding register_at wrote told
  index_rows = record {
    low_write = λ b h. sym (write_index c r b h 4 refl refl);
    high_write = high_write;
    high_write_fetches = λ b e h l i. high_write_fetches b h e l i;
    low_read = sym (read_index c r 4 refl refl);
    high_read = sym (read_index c r 5 refl refl);
  }
