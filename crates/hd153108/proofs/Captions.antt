-- Captions leave no patch: the laws that specs/Captions.antt states. Assumes nothing.
use Prim.Native.Nat.{ℕ, zero, suc, ◌+◌, ◌*◌, ◌/◌, ◌<◌}
use mathlib.Core.Path.{◌≡◌, refl, sym, ap, ◌∙◌}
use mathlib.Core.Bool.{Bool, true}
use mathlib.Core.List.{List}
use native.Mathlib.Omega.{arith}
use Rattle.vocabulary.specs.Face.{called_by}
use Rattle.vocabulary.specs.Line.{line}
use Rattle.vocabulary.specs.Outcome.{accepting}
use Rattle.vocabulary.specs.Range.{meets, fails}
use Rattle.vocabulary.proofs.Call.{goes_on}
use Rattle.hd153108.specs.Hd153108.{Chip, Table, colour, overlay, table_of, line_reads, is_off, selected}
use Rattle.hd153108.specs.Hd153108.{overlay_number, shown_table, shown_entry, colour_at, shown, colour_of, InRange}
use Rattle.hd153108.specs.Hd153108.{pixel_refusals, pixels, called}
use Rattle.hd153108.specs.Captions.{bit, caption_line, picture_colour, caption_colour, ShowsPicture, shown_before}
use Rattle.hd153108.specs.Captions.{NoPatch}
use Rattle.hd153108.proofs.InRange.{pixel_clear}
use Rattle.hd153108.proofs.Masks.{line_zero, line_blinks, masked_by_line, masked_fits, masked_zero}

-- a line reads 0 if it is 0, or 1 with its read mask bit 1
hidden_line : (off : Bool) (read blink x : ℕ) → x < 2 → (x ≡ 1 → read ≡ 1) → line_reads off read blink x ≡ 0
unfolding line_reads
hidden_line off read blink zero h f = line_zero off read blink
hidden_line off read blink (suc zero) h f = rw (f refl)
hidden_line off read blink (suc (suc x)) h f = absurd (let z : ⊥ = omega arith in z)

-- ---- Which table, by the enable, bit 6 and the number

selected_seen : (b6 n : ℕ) → (n ≡ 0 → ⊥) → selected 1 b6 n ≡ overlay
unfolding selected
selected_seen b6 zero h = absurd (h refl)
selected_seen zero (suc n) h = refl
selected_seen (suc b6) (suc n) h = refl

selected_clear : (b6 n : ℕ) → b6 ≡ 0 → selected 1 b6 n ≡ overlay
unfolding selected
selected_clear b6 n e = rw e

-- n, and m that it is masked to: what they select shows alike, or n the overlays and m, 0, the colours
selected_apart : (show : Table → List ℕ) (enable b6 n m : ℕ) → (n ≡ 0 → m ≡ 0)
    → (show (selected enable b6 m) ≡ show (selected enable b6 n) → ⊥)
    → (m ≡ 0) × (selected enable b6 n ≡ overlay) × (selected enable b6 m ≡ colour)
unfolding selected
selected_apart show zero b6 n m z h = absurd (h refl)
selected_apart show (suc enable) zero n m z h = absurd (h refl)
selected_apart show (suc enable) (suc b6) zero m z h = absurd (h (rw (z refl)))
selected_apart show (suc enable) (suc b6) (suc n) zero z h = (refl, refl, refl)
selected_apart show (suc enable) (suc b6) (suc n) (suc m) z h = absurd (h refl)

-- ---- A caption's number, line by line

two_lines : (n : ℕ) → n < 4 → n ≡ line n 1 * 2 + line n 0
two_lines zero h = refl
two_lines (suc zero) h = refl
two_lines (suc (suc zero)) h = refl
two_lines (suc (suc (suc zero))) h = refl
two_lines (suc (suc (suc (suc n)))) h = absurd (let z : ⊥ = omega arith in z)

module _ (number : ℕ) (c : Chip) where
  -- the blink mask stands two bits above the read mask
  caption_line_lem : (k : ℕ) → k < 2 → line (overlay_number number c.state) k ≡ caption_line k number c
  caption_line_lem k h =
      let s = c.state in
      masked_by_line 2 k (is_off s.clock) s.control (s.control / 4) number h
      ∙ ap (λ (b : ℕ). line_reads (is_off s.clock) (bit k c) b (line number k)) (above k h)
    where
      above : (k : ℕ) → k < 2 → line (c.state.control / 4) k ≡ bit (k + 2) c
      above zero h = omega arith
      above (suc zero) h = omega arith
      above (suc (suc k)) h = absurd (let z : ⊥ = omega arith in z)

  caption_number : overlay_number number c.state ≡ caption_line 1 number c * 2 + caption_line 0 number c
  caption_number =
      let s = c.state in
      two_lines _ (masked_fits 2 (is_off s.clock) s.control (s.control / 4) number)
      ∙ rw (caption_line_lem 1 (omega arith), caption_line_lem 0 (omega arith))

  caption_hidden : ((k : ℕ) → k < 2 → caption_line k number c ≡ 0) → overlay_number number c.state ≡ 0
  caption_hidden h = caption_number ∙ rw (h 1 (omega arith), h 0 (omega arith))

  caption_seen : (k : ℕ) → k < 2 → caption_line k number c ≡ 1 → overlay_number number c.state ≡ 0 → ⊥
  caption_seen zero h e z = let n = caption_number in omega arith
  caption_seen (suc zero) h e z = let n = caption_number in omega arith
  caption_seen (suc (suc k)) h e z = absurd (let z : ⊥ = omega arith in z)

  -- the table of a caption: with bit 6 the colours where each line is hidden
  table_hidden : bit 6 c ≡ 1 → ((k : ℕ) → k < 2 → caption_line k number c ≡ 0) → shown_table 1 number c.state ≡ colour
  unfolding selected
  table_hidden b h = simp (b, caption_hidden h)

  -- the overlays where a line is seen, and with bit 6 clear
  table_seen : (k : ℕ) → k < 2 → caption_line k number c ≡ 1 → shown_table 1 number c.state ≡ overlay
  table_seen k h e = selected_seen _ _ (caption_seen k h e)

  table_clear : bit 6 c ≡ 0 → shown_table 1 number c.state ≡ overlay
  table_clear b = selected_clear _ _ b

-- ---- What shows

module _ (number byte : ℕ) (c : Chip) where
  -- the entry of a table
  abbrev entry_of : Table → List ℕ
  entry_of t = colour_at (shown_entry t number byte c.state) (table_of t c)

  pixel_tells : (enable : ℕ) → InRange c → enable < 2 → number < 4
      → called (pixels enable number byte) c ≡ accepting (colour_of (shown enable number byte c)) 0 c
  unfolding called_by
  pixel_tells enable g e n = sym (goes_on (pixel_refusals enable number c) 0 c _ (pixel_clear c g enable number e n))

  shows_picture : bit 6 c ≡ 1 → ((k : ℕ) → k < 2 → caption_line k number c ≡ 0)
      → shown 1 number byte c ≡ shown 0 number byte c
  unfolding shown selected
  shows_picture b h = ap entry_of (table_hidden number c b h)

  shows_caption : shown_table 1 number c.state ≡ overlay → shown 1 number byte c ≡ caption_colour number c
  unfolding shown shown_entry
  shows_caption e = ap entry_of e ∙ ap (λ (n : ℕ). colour_at n c.overlays) (caption_number number c)

  -- the two calls are refused alike
  each_hidden : bit 6 c ≡ 1 → ((k : ℕ) → k < 2 → caption_line k number c ≡ 0) → ShowsPicture number byte c
  unfolding called_by fails meets
  each_hidden b h = rw (shows_picture b h)

  blinked_off : is_off c.state.clock ≡ true → bit 2 c ≡ 0 → bit 3 c ≡ 0 → (k : ℕ) → k < 2
      → caption_line k number c ≡ 0
  blinked_off off low high zero h = rw (off, low) (line_blinks _ _)
  blinked_off off low high (suc zero) h = rw (off, high) (line_blinks _ _)
  blinked_off off low high (suc (suc k)) h = absurd (let z : ⊥ = omega arith in z)

  patch_alone : (enable : ℕ) → ¬ (shown enable number byte c ≡ shown_before enable number byte c)
      → (shown_before enable number byte c ≡ colour_at 0 c.overlays)
      × (shown enable number byte c ≡ picture_colour byte c)
  unfolding shown shown_entry
  patch_alone enable h =
      let s = c.state in
      let masks : number ≡ 0 → overlay_number number s ≡ 0 = λ e. rw e (masked_zero 2 (is_off s.clock) _ _) in
      let (none, before, after) = selected_apart entry_of enable _ number _ masks h in
      (ap entry_of before ∙ rw none, ap entry_of after)

  pub captions : NoPatch number byte c
  unfolding shown shown_entry selected
  captions = record {
    tells = pixel_tells;
    picture = refl;
    blinked_off = λ b off low high. each_hidden b (blinked_off off low high);
    read_masked = λ b hides. each_hidden b (λ k h. hidden_line _ _ _ _ (omega arith) (hides k h));
    each_hidden = each_hidden;
    seen = λ k h e. shows_caption (table_seen number c k h e);
    bit_six_clear = λ b.
        let e = table_clear number c b in (shows_caption e, ap entry_of (e ∙ sym (selected_clear _ _ b)));
    patch_alone = patch_alone;
  }
