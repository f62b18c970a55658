-- Laws of the pixel rule: which refusal, and which entry shows, as the code knows it; then what whoever is given the
-- decision knows. Assumes nothing.
use Prim.Native.Nat.{ℕ, zero, suc, ◌/◌, ◌≤◌, ◌<◌}
use mathlib.Core.Path.{◌≡◌, refl, sym, ap, ◌∙◌}
use mathlib.Core.List.{List, [], ◌∷◌}
use mathlib.Core.Bool.{Bool, true, false}
use native.Mathlib.Omega.{arith}
use lib.Dec.{eqb}
use borrow.Author.Tests.{ne_eqb}
use Rattle.vocabulary.specs.Line.{line}
use Rattle.vocabulary.specs.Range.{Holds}
use Rattle.std.specs.Prelude.{Result, Ok, Err}
use Rattle.vocabulary.specs.Refusal.{number as number_of}
use Rattle.vocabulary.specs.declared.Refusal.{Refusal}
use Rattle.vocabulary.specs.declared.Refusal.TheVariants.{LentLength, OutOfRange}
use Rattle.vocabulary.specs.Outcome.{Outcome, accepting}
use Rattle.vocabulary.proofs.Range.{clash, not_fails, holds_parts, fails_right}
use Rattle.vocabulary.proofs.Refusals.{number_positive}
use Rattle.vocabulary.proofs.Call.{tried_first, stops, goes_on}
use Rattle.hd153108.specs.declared.State.{State}
use Rattle.hd153108.specs.Hd153108.{Chip, chip, Table, colour, overlay, table_of, is_off, masked, selected}
use Rattle.hd153108.specs.Hd153108.{shown_table, shown_entry, colour_at, shown, ranges, short, outside, InRange, pixel_ranges}
use Rattle.hd153108.specs.Hd153108.{pixel_refusals, pixel_part, told, pixels, called}
use Rattle.hd153108.proofs.InRange.{not_short, pixel_clear}
use Rattle.hd153108.proofs.Access.{tried, known}
use Rattle.hd153108.proofs.Lent.{pixel_lent}
use Rattle.hd153108.proofs.Masks.{masked_fits}
use Rattle.hd153108_shown.specs.declared.Pick.{Pick}
use Rattle.hd153108_shown.specs.declared.Pick.TheVariants.{Colour, Overlay}
use Rattle.hd153108_shown.specs.Picked.{is_colour, meaning, Inside, Picked}

is_colour_lem : (t : Table) → is_colour t ≡ true → t ≡ colour
is_colour_lem colour e = refl
is_colour_lem overlay e = clash (sym e)

is_overlay : (t : Table) → is_colour t ≡ false → t ≡ overlay
is_overlay overlay e = refl
is_overlay colour e = clash e

module _ (enable number byte : ℕ) (c : Chip) where
  -- refused for the enable or the number
  outside_refused : InRange c → (Holds (pixel_ranges enable number) → ⊥)
      → Picked enable number byte c (Err OutOfRange)
  unfolding pixel_part
  outside_refused g h = record {
    means =
        stops (pixel_refusals enable number c) 0 [] _ (LentLength ∷ []) OutOfRange 8 _ refl refl (not_short c g, tt)
        (not_fails _ (λ f. h (holds_parts (pixel_ranges enable number) (ranges c) f).0));
    inside = tt;
    which = tt;
  }

  -- the table's entry, and its part
  shows : InRange c → enable < 2 → number < 4 → (t : Table) → shown_table enable number c.state ≡ t
      → accepting 0 0 (colour_at (shown_entry t number byte c.state) (table_of t c)) ≡ pixel_part enable number byte c
  unfolding pixel_part shown
  shows g e n t h =
      rw (sym h) (goes_on (pixel_refusals enable number c) 0 [] _ (pixel_clear c g enable number e n))

-- the decision's five ends
module _ (enable number byte : ℕ) (s : State) (cs os : List ℕ) where
  -- refused by what every call tries first
  pub picked_first : (r : Refusal) → number_of r ≡ tried (chip s cs os)
      → Picked enable number byte (chip s cs os) (Err r)
  unfolding pixel_part
  picked_first r e =
      let c = chip s cs os in
      record {
        means =
            tried_first (pixel_refusals enable number c) 0 [] _ (short c) (outside c) (number_of r) refl
            (fails_right (pixel_ranges enable number) (ranges c)) e (number_positive r);
        inside = tt;
        which = tt;
      }

  module _ (clear : 0 ≡ tried (chip s cs os)) where
    abbrev fine : InRange (chip s cs os)
    fine = known _ clear

    pub picked_enable : 2 ≤ enable → Picked enable number byte (chip s cs os) (Err OutOfRange)
    picked_enable h = outside_refused enable number byte _ fine (λ g. omega arith)

    pub picked_number : 4 ≤ number → Picked enable number byte (chip s cs os) (Err OutOfRange)
    picked_number h = outside_refused enable number byte _ fine (λ g. omega arith)

    module _ (i : ℕ) {b off : Bool} (low : enable < 2) (few : number < 4)
        (test : b
        ≡ is_colour (selected enable (line s.control 6) (masked 2 off s.control (s.control / 4) number)))
        (blink : off ≡ is_off s.clock) where
      table : b ≡ is_colour (shown_table enable number s)
      table = test ∙ rw blink

      pub picked_colour : b ≡ true → i ≡ masked 8 off s.readmask s.blinkmask byte
          → Picked enable number byte (chip s cs os) (Ok (Colour i))
      unfolding shown_entry
      picked_colour h p =
          let entry : i ≡ shown_entry colour number byte s = p ∙ rw blink in
          let shown = is_colour_lem _ (sym table ∙ h) in
          record {
            means = rw entry (shows enable number byte _ fine low few colour shown);
            inside = omega (arith, fine.colours, masked_fits 8 (is_off s.clock) s.readmask s.blinkmask byte);
            which = (shown, entry);
          }

      pub picked_overlay : b ≡ false → i ≡ masked 2 off s.control (s.control / 4) number
          → Picked enable number byte (chip s cs os) (Ok (Overlay i))
      unfolding shown_entry
      picked_overlay h p =
          let entry : i ≡ shown_entry overlay number byte s = p ∙ rw blink in
          let shown = is_overlay _ (sym table ∙ h) in
          record {
            means = rw entry (shows enable number byte _ fine low few overlay shown);
            inside =
                omega (arith, fine.overlays, masked_fits 2 (is_off s.clock) s.control (s.control / 4) number);
            which = (shown, entry);
          }

-- what is known of a decision that is q: the pixel's outcome, and where the entry lies
module _ {enable number byte : ℕ} {c : Chip} {p q : Result Pick Refusal} (k : Picked enable number byte c p)
    (e : p ≡ q) where
  means_as : meaning c q ≡ pixel_part enable number byte c
  means_as = rw e at k.means

  pub told_as : told (meaning c q) c ≡ called (pixels enable number byte) c
  told_as = ap (λ (o : Outcome (List ℕ)). told o c) means_as ∙ sym (pixel_lent enable number byte c)

  refusal_as : (meaning c q).refusal ≡ (called (pixels enable number byte) c).refusal
  refusal_as = ap (λ (o : Outcome Chip). o.refusal) told_as

  pub inside_as : Inside c q
  inside_as = rw e at k.inside

-- so the refusal is the decision's
no_refusal : (c : Chip) (x : Pick) → 0 ≡ (meaning c (Ok x)).refusal
no_refusal c (Colour e) = refl
no_refusal c (Overlay e) = refl

module _ {enable number byte : ℕ} {c : Chip} {p : Result Pick Refusal} (k : Picked enable number byte c p) where
  pub accepts : (x : Pick) → p ≡ Ok x → 0 ≡ (called (pixels enable number byte) c).refusal
  accepts x e = no_refusal c x ∙ refusal_as k e

  pub refuses : (r : Refusal) → p ≡ Err r → number_of r ≡ (called (pixels enable number byte) c).refusal
  refuses r e = refusal_as k e

-- the test of the table: without enable; where b6 is 0; where b6 is 1
module _ (enable b6 number : ℕ) where
  pub without_enable : enable ≡ 0 → true ≡ is_colour (selected enable b6 number)
  unfolding selected
  without_enable h = rw h

  pub without_b6 : (enable ≡ 0 → ⊥) → b6 ≡ 0 → false ≡ is_colour (selected enable b6 number)
  unfolding selected
  without_b6 h k = rw k (off enable h)
    where
      off : (n : ℕ) → (n ≡ 0 → ⊥) → false ≡ is_colour (selected n 0 number)
      off zero h = absurd (h refl)
      off (suc n) h = refl

pub with_b6 : (enable b6 number : ℕ) → (enable ≡ 0 → ⊥) → (b6 ≡ 0 → ⊥)
    → eqb number 0 ≡ is_colour (selected enable b6 number)
unfolding selected
with_b6 zero b6 number h k = absurd (h refl)
with_b6 (suc enable) zero number h k = absurd (k refl)
with_b6 (suc enable) (suc b6) zero h k = refl
with_b6 (suc enable) (suc b6) (suc number) h k = ne_eqb (suc number) 0 (λ e. omega arith)
