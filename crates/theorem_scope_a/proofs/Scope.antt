-- The HD153108 meets every row. Assumes nothing.
use Prim.Native.Nat.{ℕ, zero, suc, ◌+◌, ◌<◌}
use mathlib.Core.Path.{◌≡◌, refl, sym, ap, ◌∙◌}
use mathlib.Core.Bool.{true, false, ◌&&◌, ◌||◌}
use mathlib.Core.List.{[], ◌∷◌}
use native.Mathlib.Nat.{add-zero}
use native.Mathlib.Omega.{arith}
use borrow.Author.Tests.{ne_eqb}
use lib.Dec.{eqb}
use lib.ListN.{get_or, get_or-eq_default}
use Rattle.vocabulary.specs.Choice.{pick}
use Rattle.vocabulary.specs.Face.{called_by}
use Rattle.vocabulary.specs.Line.{line}
use Rattle.vocabulary.specs.Outcome.{accepting, refusing}
use Rattle.vocabulary.specs.Range.{below}
use Rattle.vocabulary.proofs.Call.{goes_on}
use Rattle.vocabulary.proofs.Face.{called_one, called_nine}
use Rattle.vocabulary.proofs.Cases.{any}
use Rattle.vocabulary.proofs.Range.{not_fails, holds_passes, fails_right}
use Rattle.hd153108.specs.Hd153108.{Chip, Table, colour, overlay, reserved, register_mapping, register_at, no_register}
use Rattle.hd153108.specs.Hd153108.{short, table_of, colour_at, overlay_number, shown_table}
use Rattle.hd153108.specs.Hd153108.{selected, shown_entry, shown, colour_of, written, answers, outside, ranges}
use Rattle.hd153108.specs.Hd153108.{tick_refusals, pixel_ranges, Call, writes, reads, resets, ticks}
use Rattle.hd153108.specs.Hd153108.{pixels, looks, refusals, does, called}
use Rattle.hd153108.proofs.Access.{writing, reading}
use Rattle.hd153108.proofs.Captions.{captions}
use Rattle.hd153108.proofs.Data.{byte_at_lem}
use Rattle.hd153108.proofs.Look.{look_state, look_overlay, look_colour, look_nowhere}
use Rattle.theorem_scope_a.specs.Scope as S
use Rattle.theorem_scope_a.specs.Scope.{Sizes, Ranges, Good, Asks, Accesses, Scope}
use Rattle.theorem_scope_a.proofs.Good.{sizes_hold, hold_sizes, clock_holds, holds_clock, hold_ranges}
use Rattle.theorem_scope_a.proofs.Good.{good_in_range, control_lines}
use Rattle.theorem_scope_a.proofs.Pixel.{byte_seen_lem, number_seen_lem}
use Rattle.theorem_scope_a.proofs.Rows

-- ---- Refusals 1 and 9

is_short : (c : Chip) → ¬ Sizes c → short c ≡ true
is_short c h = not_fails _ (λ l. h (hold_sizes c l))

is_long : (c : Chip) → Sizes c → short c ≡ false
is_long c h = holds_passes _ (sizes_hold c h)

is_outside : (c : Chip) → ¬ Ranges c.state → outside c ≡ true
is_outside c h = not_fails _ (λ l. h (hold_ranges c.state l))

one : (k : Call) (c : Chip) → Asks k → ¬ Sizes c → called k c ≡ refusing 1 0 c
one (writes select b) c a h = called_one refusals does _ c (is_short c h)
one (reads select) c a h = called_one refusals does _ c (is_short c h)
one (pixels enable number b) c a h = called_one refusals does _ c (is_short c h)
one (looks place) c a h = called_one refusals does _ c (is_short c h)
one resets c a h = absurd a
one ticks c a h = absurd a

-- 9 is due, whatever else the call asks
module _ (c : Chip) (l : Sizes c) (h : ¬ Ranges c.state) where
  nine : (k : Call) → Asks k → called k c ≡ refusing 9 0 c
  nine (writes select b) a =
      called_nine refusals does _ c (is_long c l) (fails_right (below b 256 ∷ []) (ranges c) (is_outside c h))
  nine (reads select) a = called_nine refusals does _ c (is_long c l) (is_outside c h)
  nine (pixels enable number b) a =
      called_nine refusals does _ c (is_long c l)
      (fails_right (pixel_ranges enable number) (ranges c) (is_outside c h))
  nine (looks place) a = called_nine refusals does _ c (is_long c l) (is_outside c h)
  nine resets a = absurd a
  nine ticks a = absurd a

-- ---- Good chips

-- the colour that shows: of the table that is selected, at its entry
module _ (enable number byte : ℕ) (c : Chip) where
  abbrev entry_shown : Table → ℕ
  entry_shown t = shown_entry t number byte c.state

  colour_word_lem : (t : Table)
      → colour_of (colour_at (entry_shown t) (table_of t c)) ≡ S.colour_at (entry_shown t) (table_of t c)
  colour_word_lem t =
      let b = byte_at_lem (table_of t c) (entry_shown t) in
      rw (b 0 (omega arith), b 1 (omega arith), b 2 (omega arith), add-zero) refl

  -- which table: by the enable, bit 6 and the masked number
  selected_is : (e b6 n : ℕ) → e < 2 → b6 < 2 → (x : Table → ℕ)
      → x (selected e b6 n) ≡ pick (eqb e 0 || (eqb b6 1 && eqb n 0)) (x colour) (x overlay)
  unfolding selected pick
  selected_is zero b6 n h g x = refl
  selected_is (suc zero) zero n h g x = refl
  selected_is (suc zero) (suc zero) zero h g x = refl
  selected_is (suc zero) (suc zero) (suc n) h g x = rw (ne_eqb (suc n) 0 (λ z. omega arith)) refl
  selected_is (suc zero) (suc (suc b6)) n h g x = absurd (let z : ⊥ = omega arith in z)
  selected_is (suc (suc e)) b6 n h g x = absurd (let z : ⊥ = omega arith in z)

  shown_word : enable < 2 → colour_of (shown enable number byte c) ≡ S.shown enable number byte c
  unfolding shown shown_entry
  shown_word h =
      let s = c.state in
      colour_word_lem (shown_table enable number s)
      ∙ (selected_is enable (line s.control 6) (overlay_number number s) h (omega arith)
      (λ t. S.colour_at (entry_shown t) (table_of t c))
      ∙ rw (byte_seen_lem s byte, number_seen_lem s number) refl)

  pixel_outside : Good c → ¬ ((enable < 2) × (number < 4)) → called (pixels enable number byte) c ≡ refusing 9 0 c
  pixel_outside g h =
      called_nine refusals does _ c (is_long c g.sizes) (not_fails _ (λ f. h (f.0, f.1.0)))

state_places : (c : Chip) → Good c → (i : ℕ) → i < 9
    → called (looks i) c ≡ accepting (get_or (S.places c.state) i 0) 0 c
state_places c g =
    let (t0, t1, t2, t3, t4, t5, t6, t7, t8) = look_state c (good_in_range c g) in
    any (λ i n. called (looks i) c ≡ accepting n 0 c) (S.places c.state)
    (t0, (t1, (t2, (t3, (t4, (t5, (t6, (t7, (t8, tt)))))))))

over_seven : (select : ℕ) → 7 < select → no_register (register_at select) ≡ true
unfolding register_at
over_seven select h = ap no_register (get_or-eq_default register_mapping reserved h)

good_rows : (c : Chip) → Good c → Accesses called c
unfolding register_at written answers
good_rows c g =
    let r = good_in_range c g in
    record {
      address_write = Rows.address_write c g;
      address_read = Rows.address_read c g;
      colours = Rows.data_rows c g colour 1 refl;
      overlays = Rows.data_rows c g overlay 3 refl;
      readmask = Rows.register_row c g 4 _ _ refl (λ b h. refl) refl;
      blinkmask = Rows.register_row c g 5 _ _ refl (λ b h. refl) refl;
      control = Rows.register_row c g 6 _ _ refl (λ b h. rw (control_lines b h) refl) refl;
      timing = Rows.register_row c g 7 _ _ refl (λ b h. refl) refl;
      reserved = λ b h. (Rows.no_register_lem c g (writing h) refl, Rows.no_register_lem c g reading refl);
      over_seven = λ select b h l.
          let none = over_seven select h in
          (Rows.no_register_lem c g (writing l) none, Rows.no_register_lem c g reading none);
      no_byte = Rows.no_byte c g;
      pixel = λ enable number byte e n.
          (captions number byte c).tells enable r e n
          ∙ ap (λ (v : ℕ). accepting v 0 c) (shown_word enable number byte c e);
      no_pixel = λ enable number byte h. pixel_outside enable number byte c g h;
      look_state = state_places c g;
      look_overlay = λ i h. look_overlay c r (0x100 + i) i refl h;
      look_colour = λ i h. look_colour c r (0x1000 + i) i refl h;
      look_nowhere = λ place h o k. look_nowhere c r place h (λ l u. o (l, u)) (λ l u. k (l, u));
    }

pub scope : Scope called
unfolding called_by
scope = record {
  one = one;
  nine = λ k c a l h. nine c l h k a;
  tick = λ c h.
      sym (goes_on (tick_refusals c.state.clock) 0 c _ (holds_passes _ (clock_holds c.state.clock h), tt));
  no_tick = λ c h. called_nine refusals does ticks c refl (not_fails _ (λ f. h (holds_clock c.state.clock f)));
  reset = λ c. sym (goes_on [] 0 c _ tt);
  accesses = good_rows;
}
