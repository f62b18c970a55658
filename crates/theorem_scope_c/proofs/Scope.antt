-- The RGB640's palette port is what document 01 says of chip C. Assumes nothing.
use Prim.Native.Nat.{ℕ, ◌<◌, ◌≤◌}
use mathlib.Core.Path.{◌≡◌, refl, sym, ap}
use mathlib.Core.Bool.{true, false}
use mathlib.Core.List.{[], ◌∷◌}
use native.Mathlib.Omega.{arith}
use lib.ListN.{get_or}
use Rattle.vocabulary.specs.Face.{called_by}
use Rattle.vocabulary.specs.Outcome.{accepting, refusing}
use Rattle.vocabulary.specs.Range.{Holds, below}
use Rattle.vocabulary.proofs.Call.{goes_on}
use Rattle.vocabulary.proofs.Cases.{any}
use Rattle.vocabulary.proofs.Face.{called_one, called_nine}
use Rattle.vocabulary.proofs.Range.{not_fails, holds_passes, fails_right}
use Rattle.rgb640.specs.Rgb640.{Chip, InRange, Space, lengths, ranges, short, outside, register_at}
use Rattle.rgb640.specs.Rgb640.{update_control, index_data, no_port, Call, writes, reads, resets, looks, refusals, does}
use Rattle.rgb640.specs.Rgb640.{called}
use Rattle.rgb640.proofs.Index.{space_update, unwritten, unread, no_register_lem}
use Rattle.rgb640.proofs.Access.{write_data, read_data, byte_passes, state_passes, no_port_lem, no_index_lem}
use Rattle.rgb640.proofs.Look.{look_state, look_table, look_nowhere}
use Rattle.theorem_scope_c.specs.Scope.{Sizes, Ranges, Good, Asks, FromTo, updating, places, Accesses, Scope}
use Rattle.theorem_scope_c.proofs.Index.{index_rows}
use Rattle.theorem_scope_c.proofs.Data.{write_rows, read_rows}

-- ---- Refusals 1 and 9
module _ (c : Chip) where
  -- the definitions' lengths and ranges are document 01's
  pub sizes_hold : Sizes c → Holds (lengths c)
  sizes_hold z = search

  pub hold_sizes : Holds (lengths c) → Sizes c
  hold_sizes h = search

  pub ranges_hold : Ranges c.state → Holds (ranges c)
  ranges_hold r = search

  pub hold_ranges : Holds (ranges c) → Ranges c.state
  hold_ranges h = search

  good_range : Good c → InRange c
  good_range g = search (g.sizes, g.ranges)

  short_is : ¬ Sizes c → short c ≡ true
  short_is h = not_fails (lengths c) (λ g. h (hold_sizes g))

  whole_is : Sizes c → short c ≡ false
  whole_is z = holds_passes (lengths c) (sizes_hold z)

  one : (k : Call) → Asks k → ¬ Sizes c → called k c ≡ refusing 1 0 c
  one (writes port b) a h = called_one refusals does _ c (short_is h)
  one (reads port) a h = called_one refusals does _ c (short_is h)
  one resets a h = absurd a
  one (looks place) a h = called_one refusals does _ c (short_is h)

  bad : ¬ Ranges c.state → outside c ≡ true
  bad h = not_fails (ranges c) (λ g. h (hold_ranges g))

  nine : (k : Call) → Asks k → Sizes c → ¬ Ranges c.state → called k c ≡ refusing 9 0 c
  nine (writes port b) a z h =
      called_nine refusals does _ c (whole_is z) (fails_right (below b 256 ∷ []) (ranges c) (bad h))
  nine (reads port) a z h = called_nine refusals does _ c (whole_is z) (bad h)
  nine resets a z h = absurd a
  nine (looks place) a z h = called_nine refusals does _ c (whole_is z) (bad h)

  no_byte : Sizes c → (port b : ℕ) → 256 ≤ b → called (writes port b) c ≡ refusing 9 0 c
  no_byte z port b l =
      called_nine refusals does _ c (whole_is z) (not_fails (below b 256 ∷ ranges c) (λ g. omega arith))

-- ---- A good chip: register 0x000E, what is refused by index and port, and the places of a look
module _ (c : Chip) (r : InRange c) where
  update_write : (b : ℕ) → b < 256 → c.state.index ≡ 0x000E
      → called (writes 6 b) c ≡ accepting 0 0 (updating b c)
  unfolding update_control
  update_write b h e = sym (write_data c r b h (ap (λ (row : Space). row.on_write) (space_update _ e)))

  update_read : c.state.index ≡ 0x000E → called (reads 6) c ≡ accepting c.state.update 0 c
  unfolding update_control
  update_read e = sym (read_data c r (ap (λ (row : Space). row.on_read) (space_update _ e)))

  no_write : (b : ℕ) → b < 256 → ¬ (c.state.index ≡ 0x000E)
      → (0x4000 ≤ c.state.index → c.state.index < 0x4400 → ⊥)
      → called (writes 6 b) c ≡ refusing 4 0 c
  unfolding called_by register_at
  no_write b h other off =
      sym (no_index_lem (below b 256 ∷ []) index_data _ c _ r (byte_passes c r b h) refl (unwritten _ other off))

  no_read : ¬ (c.state.index ≡ 0x000E) → (0x8000 ≤ c.state.index → c.state.index < 0x8400 → ⊥)
      → called (reads 6) c ≡ refusing 4 0 c
  unfolding called_by register_at
  no_read other off = sym (no_index_lem [] index_data _ c _ r (state_passes c r) refl (unread _ other off))

  not_served_lem : (port : ℕ) → ¬ FromTo 4 6 port → no_port (register_at port) ≡ true
  not_served_lem port off =
      ap no_port (no_register_lem port (λ e. off (omega arith)) (λ e. off (omega arith)) (λ e. off (omega arith)))

  other_port : (port b : ℕ) → ¬ FromTo 4 6 port → b < 256
      → (called (writes port b) c ≡ refusing 3 0 c) × (called (reads port) c ≡ refusing 3 0 c)
  unfolding called_by
  other_port port b off h = (
    sym (no_port_lem (below b 256 ∷ []) (register_at port) _ c _ r (byte_passes c r b h) (not_served_lem port off)),
    sym (no_port_lem [] (register_at port) _ c _ r (state_passes c r) (not_served_lem port off)),
  )

  look_place : (i : ℕ) → i < 8 → called (looks i) c ≡ accepting (get_or (places c.state) i 0) 0 c
  look_place =
      let (t0, t1, t2, t3, t4, t5, t6, t7) = look_state c r in
      any (λ i n. called (looks i) c ≡ accepting n 0 c) (places c.state)
      (t0, (t1, (t2, (t3, (t4, (t5, (t6, (t7, tt))))))))

accesses : (c : Chip) → Good c → Accesses called c
accesses c g =
    let r = good_range c g in
    record {
      index = index_rows c r;
      write = write_rows c r;
      read = read_rows c r;
      update_write = update_write c r;
      update_read = update_read c r;
      no_write = λ b h other off. no_write c r b h other (λ l u. off (l, omega arith));
      no_read = λ other off. no_read c r other (λ l u. off (l, omega arith));
      no_port_lem = other_port c r;
      no_byte = no_byte c g.sizes;
      look_state = look_place c r;
      look_table = λ i h. look_table c r _ i refl h;
      look_nowhere = λ place l off. look_nowhere c r place l (λ a b. off (a, omega arith));
    }

pub scope : Scope called
unfolding called_by
scope = record {
  one = λ k c. one c k;
  nine = λ k c. nine c k;
  reset = λ c. sym (goes_on [] 0 c (does resets c) tt);
  accesses = accesses;
}
