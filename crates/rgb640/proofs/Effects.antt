-- What a write of each port and the last transfer do, and what they leave as it was. Assumes nothing.
use Prim.Native.Nat.{ℕ, ◌+◌, ◌*◌, ◌/◌, ◌%◌, ◌≤◌, ◌<◌}
use mathlib.Core.Path.{◌≡◌, refl, sym, ap, ◌∙◌}
use mathlib.Core.Bool.{false}
use native.Mathlib.Omega.{arith}
use Rattle.vocabulary.specs.Outcome.{Outcome}
use Rattle.vocabulary.specs.Component.{put}
use Rattle.vocabulary.specs.Line.{line}
use Rattle.vocabulary.proofs.Face.{called_holds}
use Rattle.expand.specs.Expand.{ten}
use Rattle.expand.proofs.Width.{ten_top}
use Rattle.rgb640.specs.declared.State.{State}
use Rattle.rgb640.specs.declared.Answer.{Answer}
use Rattle.rgb640.specs.Rgb640.{Chip, chip, at, updating, next, offset, entry, writing, reading, increments}
use Rattle.rgb640.specs.Rgb640.{three_bytes, stepped, palette_taken}
use Rattle.rgb640.specs.Rgb640.{Space, update_control, palette_write, palette_read, nowhere, space_of}
use Rattle.rgb640.specs.Rgb640.{index_high, register_at, wrote, writes, reads, refusals, does, called, InRange}
use Rattle.rgb640.proofs.Index.{space_holds, space_update, space_write, space_read}
use Rattle.rgb640.proofs.Order.{red_latched, blue_stored, blue_told, restarts, steps, stays}
use Rattle.rgb640.proofs.Order.{write_enabled, write_disabled, read_enabled, read_disabled}
use Rattle.rgb640.proofs.Access.{write_data, read_data}

-- ---- Ports 4 and 5
module _ (c : Chip) where
  -- a write of port 4 changes the index alone: it neither restarts the order nor fetches
  abbrev Indexed : Chip → Type 0
  Indexed d = d ≡ chip (at c.state d.state.index c.state.place) c.table

  pub low_keeps : (b : ℕ) → Indexed (called (writes 4 b) c).left
  unfolding register_at wrote
  low_keeps b = called_holds refusals does (writes 4 b) c Indexed refl (λ none. refl)

  -- after one of port 5, an index in read space has its entry fetched
  pub high_fetches : (b : ℕ) → space_of (b * 256 + c.state.index % 256) ≡ palette_read
      → (wrote index_high b c).state.fetched ≡ entry (offset (b * 256 + c.state.index % 256)) c.table
  unfolding wrote palette_read
  high_fetches b e = rw e

  -- and port 5 keeps the latches, register 0x000E and the table
  abbrev Latched : Chip → Type 0
  Latched d =
      (d.state.red ≡ c.state.red) × (d.state.green ≡ c.state.green) × (d.state.update ≡ c.state.update)
      × (d.table ≡ c.table)

  fetches_latched : (i j : ℕ) → Latched (chip ((space_of i).on_index c.table (at c.state j 0)) c.table)
  unfolding update_control palette_write palette_read nowhere
  fetches_latched i j =
      space_holds i (λ (row : Space). Latched (chip (row.on_index c.table (at c.state j 0)) c.table))
      (λ l. (refl, refl, refl, refl), (λ l. (refl, refl, refl, refl), (λ l. (refl, refl, refl, refl), tt)))
      (λ out. (refl, refl, refl, refl))

  pub high_keeps_latches : (b : ℕ) → Latched (called (writes 5 b) c).left
  unfolding register_at wrote
  high_keeps_latches b =
      called_holds refusals does (writes 5 b) c Latched (refl, refl, refl, refl) (λ none. fetches_latched _ _)

  -- a byte to the palette is linearized: the top eight of the ten bits that are latched are the byte
  pub linearized : (b : ℕ) → b < 256 → c.state.place ≡ 0 → (palette_taken three_bytes b c).state.red / 4 ≡ b
  linearized b h p =
      ap (λ (d : Chip). d.state.red / 4) (sym (red_latched c.state c.table b refl p))
      ∙ ten_top 8 b h (omega arith)

-- ---- Port 6, on a chip in range
module _ (c : Chip) (r : InRange c) where
  -- register 0x000E is written and read, and its access moves neither index nor order
  module _ (e : c.state.index ≡ 0x000E) where
    pub register_written : (b : ℕ) → b < 256 → (called (writes 6 b) c).left ≡ chip (updating c.state b) c.table
    unfolding update_control
    register_written b h =
        ap (λ (o : Outcome Chip). o.left)
        (sym (write_data c r b h (ap (λ (row : Space). row.on_write) (space_update _ e))))

    pub register_read : ((called (reads 6) c).value ≡ c.state.update) × ((called (reads 6) c).left ≡ c)
    unfolding update_control
    register_read =
        let o = sym (read_data c r (ap (λ (row : Space). row.on_read) (space_update _ e))) in
        (ap (λ (p : Outcome Chip). p.value) o, ap (λ (p : Outcome Chip). p.left) o)

  -- the third write stores at the index as it then stands, wherever red and green were latched
  pub third_write_here : 0x4000 ≤ c.state.index → c.state.index < 0x4400 → c.state.place ≡ 2 → (b : ℕ) → b < 256
      → (called (writes 6 b) c).left.table
      ≡ put (offset c.state.index) c.state.red c.state.green (ten 8 b) c.table
  unfolding palette_write
  third_write_here l u p b h =
      ap (λ (o : Outcome Chip). o.left.table)
      (sym (write_data c r b h (ap (λ (row : Space). row.on_write) (space_write _ l u))))
      ∙ ap (λ (d : Chip). d.table) (sym (blue_stored c.state c.table b refl p refl refl))

  -- the third read without auto-increment: the index and the fetched entry stay
  pub third_read_stays : 0x8000 ≤ c.state.index → c.state.index < 0x8400 → c.state.place ≡ 2
      → increments reading c.state.update ≡ false
      → (called (reads 6) c).left ≡ chip (at c.state c.state.index 0) c.table
  unfolding palette_read
  third_read_stays l u p off =
      ap (λ (o : Outcome Chip). o.left)
      (sym (read_data c r (ap (λ (row : Space). row.on_read) (space_read _ l u))))
      ∙ ap (λ (a : Answer). chip a.state c.table) (sym (blue_told c.state c.table p refl refl))
      ∙ ap (λ (s : State). chip s c.table) (stays reading _ c.state off)

-- ---- The step after the last transfer
-- each space's last index is followed by its first
pub offset_wraps : (next 0x43FF ≡ 0x4000) × (next 0x83FF ≡ 0x8000)
offset_wraps = (refl, refl)

-- register 0x000E, whatever its other bits: bit 1 (WRAI) is the writes' and bit 2 (RDAI) the reads'; at 0 the index
-- steps, at 1 it stays
module _ (fetch : State → State) (s : State) (p : s.place ≡ 2) where
  pub write_bit_steps : line s.update 1 ≡ 0 → stepped three_bytes writing fetch s ≡ fetch (at s (next s.index) 0)
  write_bit_steps e = restarts three_bytes writing fetch s (rw p) ∙ steps writing fetch s (write_enabled _ e)

  pub write_bit_stops : line s.update 1 ≡ 1 → stepped three_bytes writing fetch s ≡ at s s.index 0
  write_bit_stops e = restarts three_bytes writing fetch s (rw p) ∙ stays writing fetch s (write_disabled _ e)

  pub read_bit_steps : line s.update 2 ≡ 0 → stepped three_bytes reading fetch s ≡ fetch (at s (next s.index) 0)
  read_bit_steps e = restarts three_bytes reading fetch s (rw p) ∙ steps reading fetch s (read_enabled _ e)

  pub read_bit_stops : line s.update 2 ≡ 1 → stepped three_bytes reading fetch s ≡ at s s.index 0
  read_bit_stops e = restarts three_bytes reading fetch s (rw p) ∙ stays reading fetch s (read_disabled _ e)
