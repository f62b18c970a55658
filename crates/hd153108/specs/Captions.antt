-- CAPTIONS LEAVE NO PATCH (request P3): "a blinking caption over the picture goes to overlay colour 0 in its off time
-- instead of showing the picture. Measured on two original chips, the test for overlay number 0 with bit 6 set is made
-- on the number after read mask and blink." A caption is a pixel with the overlay enabled; the picture is what shows
-- without it. The chip's definitions do not rest on this file.
use Rattle.std.specs.Prelude.{ℕ, ◌+◌, ◌*◌, ◌<◌, ◌≡◌, true, List}
use Rattle.vocabulary.specs.Line.{line}
use Rattle.vocabulary.specs.Outcome.{accepting}
use Rattle.hd153108.specs.Hd153108.{Chip, table_of, line_reads, masked, is_off, selected, shown_entry, colour_at}
use Rattle.hd153108.specs.Hd153108.{shown, colour_of, InRange, pixels, called}

-- a bit of the overlay control (Table 1.2): b0 and b1 are the read mask of lines 0 and 1, b2 and b3 their blink mask
abbrev pub bit : ℕ → Chip → ℕ
bit k c = line c.state.control k

-- what line k of a caption's number reads
abbrev pub caption_line : ℕ → ℕ → Chip → ℕ
caption_line k number c = line_reads (is_off c.state.clock) (bit k c) (bit (k + 2) c) (line number k)

-- the colour of the picture, at the masked byte, and of a caption, at the number that its two lines read
abbrev pub picture_colour : ℕ → Chip → List ℕ
picture_colour byte c =
    let s = c.state in colour_at (masked 8 (is_off s.clock) s.readmask s.blinkmask byte) c.colours

abbrev pub caption_colour : ℕ → Chip → List ℕ
caption_colour number c = colour_at (caption_line 1 number c * 2 + caption_line 0 number c) c.overlays

-- a caption shows what the picture shows there; refused, both are
abbrev pub ShowsPicture : ℕ → ℕ → Chip → Type 0
ShowsPicture number byte c = called (pixels 1 number byte) c ≡ called (pixels 0 number byte) c

-- what showed before this request, by document 01: the number was tested as given
abbrev pub shown_before : ℕ → ℕ → ℕ → Chip → List ℕ
shown_before enable number byte c =
    let t = selected enable (bit 6 c) number in colour_at (shown_entry t number byte c.state) (table_of t c)

-- of any chip whatever, a caption's number and the picture's byte under it
pub record NoPatch (number byte : ℕ) (c : Chip) : Type 0 where
  -- a pixel of a chip in range tells the colour that shows, and leaves the chip
  pub tells : (enable : ℕ) → InRange c → enable < 2 → number < 4
      → called (pixels enable number byte) c ≡ accepting (colour_of (shown enable number byte c)) 0 c
  pub picture : shown 0 number byte c ≡ picture_colour byte c
  -- in the off time a caption whose two lines blink shows what the picture shows there
  pub blinked_off : bit 6 c ≡ 1 → is_off c.state.clock ≡ true → bit 2 c ≡ 0 → bit 3 c ≡ 0
      → ShowsPicture number byte c
  -- a caption number hidden by the read mask shows the picture, in the on time and in the off time
  pub read_masked : bit 6 c ≡ 1 → ((k : ℕ) → k < 2 → line number k ≡ 1 → bit k c ≡ 1) → ShowsPicture number byte c
  -- so does one whose lines are hidden each in its way, as one by the read mask and the other by blink
  pub each_hidden : bit 6 c ≡ 1 → ((k : ℕ) → k < 2 → caption_line k number c ≡ 0) → ShowsPicture number byte c
  -- a caption with a line that is seen shows its colour, whatever bit 6 is
  pub seen : (k : ℕ) → k < 2 → caption_line k number c ≡ 1 → shown 1 number byte c ≡ caption_colour number c
  -- with bit 6 clear every caption does, and nothing changes
  pub bit_six_clear : bit 6 c ≡ 0
      → (shown 1 number byte c ≡ caption_colour number c) × (shown 1 number byte c ≡ shown_before 1 number byte c)
  -- what changes anywhere was the patch, overlay colour 0, and is the picture
  pub patch_alone : (enable : ℕ) → ¬ (shown enable number byte c ≡ shown_before enable number byte c)
      → (shown_before enable number byte c ≡ colour_at 0 c.overlays)
      × (shown enable number byte c ≡ picture_colour byte c)
