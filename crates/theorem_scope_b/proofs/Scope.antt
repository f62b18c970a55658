-- THE MS622424 meets every row. Assumes nothing.
use Prim.Native.Nat.{ℕ, ◌+◌, ◌<◌, min}
use mathlib.Core.Path.{◌≡◌, refl, sym, ap, ◌∙◌}
use mathlib.Core.List.{◌∷◌}
use native.Mathlib.Omega.{arith}
use lib.ListN.{length, get_or}
use Rattle.vocabulary.specs.Component.{red, green}
use Rattle.vocabulary.specs.Face.{called_by}
use Rattle.vocabulary.specs.Outcome.{accepting, refusing}
use Rattle.vocabulary.specs.Range.{below}
use Rattle.vocabulary.proofs.Call.{goes_on}
use Rattle.vocabulary.proofs.Cases.{any}
use Rattle.vocabulary.proofs.Range.{holds_passes}
use Rattle.ms622424.specs.Ms622424.{Chip, InRange, ranges, register_at, writable, written, readable, answers, stepped}
use Rattle.ms622424.specs.Ms622424.{buffer_byte, buffer_stepped, made, pixel_byte, entry_shown, signal_refusals}
use Rattle.ms622424.specs.Ms622424.{writes, reads, blanks, signals, looks, called}
use Rattle.ms622424.proofs.Access.{is_red, is_green, is_blue}
use Rattle.ms622424.proofs.Blank.{blank_too_many, blank_does}
use Rattle.ms622424.proofs.Look as L
use Rattle.ms622424.proofs.Moves.{moves_least}
use Rattle.ms622424.proofs.Pixel.{pixel_outside, pixel_does}
use Rattle.ms622424.proofs.Read.{read_does, read_outside_mode, read_waiting, read_buffer, read_no_blue, not_read}
use Rattle.ms622424.proofs.Reset.{reset_does}
use Rattle.ms622424.proofs.Write.{write_does, write_read_mode, not_written}
use Rattle.theorem_scope_b.specs.Scope.{places, moved, Ranges, Good, Accesses, Scope, timing}
use Rattle.theorem_scope_b.proofs.Good.{ranges_hold, ident_holds, good_in_range}
use Rattle.theorem_scope_b.proofs.Asked.{one, nine, is_long_queue, no_byte, no_signal}
use Rattle.theorem_scope_b.proofs.Select as T
use Rattle.theorem_scope_b.proofs.Shown.{status_is, timing_is}

state_places : (c : Chip) → InRange c → (i : ℕ) → i < 9 → called (looks i) c ≡ accepting (get_or (places c) i 0) 0 c
state_places c r =
    let (t0, t1, t2, t3, t4, t5, t6, t7, t8, _) = L.look_state c r in
    any (λ i n. called (looks i) c ≡ accepting n 0 c) (places c)
    (t0, (t1, (t2, (t3, (t4, (t5, (t6, (t7, (t8, tt)))))))))

blank : (c : Chip) → InRange c → (slots : ℕ) → slots < 65536
    → let n = min slots (length c.waiting) in
    called (blanks slots) c ≡ accepting 0 n (moved n c)
blank c r slots h =
    let n = min slots (length c.waiting) in
    sym (blank_does slots c r h (sym (moves_least slots n c refl ∙ ap (made n) (T.moved_is n c r.first))))

-- ---- selects that are not served
module _ (c : Chip) (r : InRange c) (select : ℕ) where
  no_write : (b : ℕ) → b < 256 → 3 < select → ¬ (select ≡ 7) → called (writes select b) c ≡ refusing 3 0 c
  no_write b l h n =
      sym (not_written select b c r l (λ z. omega arith) (λ z. omega arith) (λ z. omega arith) (λ z. omega arith) n)

  over_seven : (b : ℕ) → 7 < select → b < 256
      → (called (writes select b) c ≡ refusing 3 0 c) × (called (reads select) c ≡ refusing 3 0 c)
  over_seven b h l = (
    no_write b l (omega arith) (λ z. omega arith),
    sym (not_read select c r (λ z. omega arith) (λ z. omega arith) (λ z. omega arith) (λ z. omega arith)
        (λ z. omega arith) (λ z. omega arith) (λ z. omega arith) (λ z. omega arith)),
  )

accesses : (c : Chip) → Good c → Accesses called c
unfolding register_at writable written readable answers buffer_byte buffer_stepped stepped entry_shown pixel_byte
accesses c g =
    let r = good_in_range c g in
    record {
      low_write = λ b h. sym (write_does 0 b c r h 0 refl refl refl refl);
      low_read = sym (read_does 0 c r 0 refl refl refl refl refl);
      high_write = λ b h. sym (write_does 1 b c r h 1 refl refl refl refl);
      high_read = sym (read_does 1 c r 1 refl refl refl refl refl);
      full = T.full c r;
      roomy = T.roomy c r;
      no_store = λ b h m. sym (write_read_mode 2 b c r h refl m);
      map_read = T.map_read c r;
      outside_mode = λ m. sym (read_outside_mode 2 c r refl m);
      still_waiting_lem = λ m w. sym (read_waiting 2 c r refl (λ z. omega arith) w);
      command_write = λ b h. sym (write_does 3 b c r h 3 refl refl refl refl);
      command_read = sym (read_does 3 c r 3 refl refl refl refl refl);
      status_read = sym (read_does 4 c r 4 refl refl refl refl (ap (λ (v : ℕ). accepting v 0 c) (status_is c)));
      buffer_red = λ e. sym (read_buffer 5 c r red refl (is_red e) refl refl);
      buffer_green = λ e. sym (read_buffer 5 c r green refl (is_green e) refl refl);
      buffer_blue = λ e. sym (read_no_blue 5 c r refl (is_blue _ (λ z. omega arith) (λ z. omega arith)));
      revision_read = sym (read_does 6 c r 6 refl refl refl refl refl);
      mode_on = λ b h. sym (write_does 7 b c r h 7 refl refl refl refl);
      mode_off = sym (read_does 7 c r 7 refl refl refl refl refl);
      no_write = λ select b h u l. no_write c r select b l h (λ z. omega arith);
      over_seven = λ select b h l. over_seven c r select b (omega arith) l;
      no_byte = no_byte c g.sizes;
      blank = blank c r;
      no_blank = λ slots h. sym (blank_too_many slots c r h);
      mode_0 = λ word h. sym (pixel_does 0 word c r (omega arith) h refl refl refl);
      mode_1 = λ word h. sym (pixel_does 1 word c r (omega arith) h refl refl refl);
      mode_2 = λ word h. sym (pixel_does 2 word c r (omega arith) h refl refl refl);
      mode_3 = λ word h. sym (pixel_does 3 word c r (omega arith) h refl refl refl);
      no_pixel = λ mode word h. sym (pixel_outside mode word c r (λ m w. h (m, w)));
      look_state = state_places c r;
      look_first = (L.look_state c r).9;
      look_map = λ i h. L.look_map c r (0x10000 + i) i refl h;
      look_nowhere = λ place h f o. L.look_nowhere c r place h f (λ l u. o (l, u));
    }

signal : (s : ℕ) (c : Chip) → c.lent.places ≡ 64 → Ranges c → s < 16
    → called (signals s) c ≡ accepting (timing s c.control.command) 0 c
unfolding called_by
signal s c l r h =
    sym (goes_on (signal_refusals s c) 0 c _
    (is_long_queue c l, (holds_passes (below s 16 ∷ ranges c) (h, ranges_hold c r), tt)))
    ∙ ap (λ (v : ℕ). accepting v 0 c) (sym (timing_is s c.control.command))

pub scope : Scope called
scope = record {
  one = one;
  nine = nine;
  accesses = accesses;
  signal = signal;
  no_signal = λ s c l r. no_signal s c l;
  reset = λ c l i. sym (reset_does c l (ident_holds c.ident i));
}
