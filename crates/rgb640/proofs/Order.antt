-- The order of transfers: what a transfer of any order does, then the three bytes of Table 26, and the bits of
-- register 0x000E as the code masks them. Assumes nothing.
use Prim.Native.Nat.{ℕ, ◌+◌, ◌/◌}
use mathlib.Core.Path.{◌≡◌, sym, ap}
use mathlib.Core.Bool.{true, false}
use mathlib.Core.List.{List}
use native.Mathlib.Omega.{arith}
use borrow.Author.Tests.{eq-eqb, ne_eqb}
use lib.Bits.{bit_and, and_high}
use Rattle.vocabulary.specs.Component.{Component, red, green, blue, part, put}
use Rattle.vocabulary.specs.Line.{line}
use Rattle.vocabulary.proofs.Choice.{picks_first, picks_second}
use Rattle.expand.specs.Expand.{ten}
use Rattle.rgb640.specs.declared.Colour.{Colour}
use Rattle.rgb640.specs.declared.State.{State}
use Rattle.rgb640.specs.declared.Answer.{Answer}
use Rattle.rgb640.specs.Rgb640.{chip, colour, at, latching, Direction, writing, reading, increments}
use Rattle.rgb640.specs.Rgb640.{offset, next, fetches_nothing, fetches_entry, Transfer, eight_bits, three_bytes}
use Rattle.rgb640.specs.Rgb640.{transfer_at, follows, restarted, stepped, taken, palette_taken, palette_told}
use Rattle.rgb640.specs.Rgb640.{accept, accept_told, InRange}

-- ---- Any order
module _ (order : List Transfer) (s : State) (t : List ℕ) (k : Transfer) (is : transfer_at order s.place ≡ k) where
  -- a written byte that another follows is latched; the last is stored
  module _ (b : ℕ) where
    abbrev pub underway : Colour
    underway = k.takes b (colour s.red s.green 0)

    abbrev pub full : List ℕ
    full = put (offset s.index) underway.red underway.green underway.blue t

    pub latches : follows order s.place ≡ true
        → chip (at (latching s underway.red underway.green) s.index (s.place + 1)) t
        ≡ palette_taken order b (chip s t)
    unfolding palette_taken taken stepped
    latches e = rw (is, picks_first _ _ e) (ap (λ (n : State). chip n t) (sym (picks_first _ _ e)))

    pub stores : follows order s.place ≡ false
        → chip (restarted writing (fetches_nothing full) s) full ≡ palette_taken order b (chip s t)
    unfolding palette_taken taken stepped
    stores e = rw (is, picks_second _ _ e) (ap (λ (n : State). chip n full) (sym (picks_second _ _ e)))

  -- a byte is read, and another follows or not
  pub goes_on : follows order s.place ≡ true
      → (k.tells s.fetched, at s s.index (s.place + 1)) ≡ palette_told order (chip s t)
  unfolding palette_told stepped
  goes_on e = rw (is, picks_first _ _ e)

  pub ends : follows order s.place ≡ false
      → (k.tells s.fetched, restarted reading (fetches_entry t) s) ≡ palette_told order (chip s t)
  unfolding palette_told stepped
  ends e = rw (is, picks_second _ _ e)

-- after the last transfer the order restarts, ..
pub restarts : (order : List Transfer) (d : Direction) (fetch : State → State) (s : State)
    → follows order s.place ≡ false → stepped order d fetch s ≡ restarted d fetch s
unfolding stepped
restarts order d fetch s e = picks_second _ _ e

-- .. and the index steps, or stays
module _ (d : Direction) (fetch : State → State) (s : State) where
  pub steps : increments d s.update ≡ true → restarted d fetch s ≡ fetch (at s (next s.index) 0)
  unfolding restarted
  steps e = picks_first _ _ e

  pub stays : increments d s.update ≡ false → restarted d fetch s ≡ at s s.index 0
  unfolding restarted
  stays e = picks_second _ _ e

-- ---- Three bytes
pub byte_at_lem : (p : ℕ) (k : Component) → p ≡ part k → transfer_at three_bytes p ≡ eight_bits k
unfolding transfer_at
byte_at_lem p red e = rw e
byte_at_lem p green e = rw e
byte_at_lem p blue e = rw e

module _ (s : State) (t : List ℕ) where
  -- which is the last, in a state in range
  pub last_place : InRange (chip s t) → (s.place ≡ 0 → ⊥) → (s.place ≡ 1 → ⊥) → s.place ≡ 2
  last_place r f g = omega arith

  module _ (b : ℕ) {v : ℕ} (e : v ≡ ten 8 b) where
    pub red_latched : s.place ≡ 0
        → chip (at (latching s v s.green) s.index 1) t ≡ palette_taken three_bytes b (chip s t)
    red_latched p = let l = latches three_bytes s t _ (byte_at_lem _ red p) b (rw p) in cc

    pub green_latched : s.place ≡ 1
        → chip (at (latching s s.red v) s.index 2) t ≡ palette_taken three_bytes b (chip s t)
    green_latched p = let l = latches three_bytes s t _ (byte_at_lem _ green p) b (rw p) in cc

    pub blue_stored : {u : List ℕ} {n : State} → s.place ≡ 2
        → u ≡ put (offset s.index) s.red s.green v t → n ≡ restarted writing (fetches_nothing u) s
        → chip n u ≡ palette_taken three_bytes b (chip s t)
    blue_stored p f g = let l = stores three_bytes s t _ (byte_at_lem _ blue p) b (rw p) in cc

  module _ {a : Answer} where
    pub red_told : s.place ≡ 0 → a ≡ accept (s.fetched.red / 4) (at s s.index 1)
        → a ≡ accept_told (palette_told three_bytes (chip s t))
    red_told p e = let l = goes_on three_bytes s t _ (byte_at_lem _ red p) (rw p) in cc

    pub green_told : s.place ≡ 1 → a ≡ accept (s.fetched.green / 4) (at s s.index 2)
        → a ≡ accept_told (palette_told three_bytes (chip s t))
    green_told p e = let l = goes_on three_bytes s t _ (byte_at_lem _ green p) (rw p) in cc

    pub blue_told : {n : State} → s.place ≡ 2 → a ≡ accept (s.fetched.blue / 4) n
        → n ≡ restarted reading (fetches_entry t) s → a ≡ accept_told (palette_told three_bytes (chip s t))
    blue_told p e f = let l = ends three_bytes s t _ (byte_at_lem _ blue p) (rw p) in cc

-- ---- Register 0x000E: bit 1 is the writes' and bit 2 the reads', 0 enables and 1 disables; the code's masks 2 and 4
module _ (u : ℕ) where
  pub write_enabled : line u 1 ≡ 0 → increments writing u ≡ true
  write_enabled e = eq-eqb _ _ e

  pub write_disabled : line u 1 ≡ 1 → increments writing u ≡ false
  write_disabled e = ne_eqb (line u 1) 0 (λ z. omega arith)

  pub read_enabled : line u 2 ≡ 0 → increments reading u ≡ true
  read_enabled e = eq-eqb _ _ e

  pub read_disabled : line u 2 ≡ 1 → increments reading u ≡ false
  read_disabled e = ne_eqb (line u 2) 0 (λ z. omega arith)

  pub write_steps : bit_and u 2 ≡ 0 → increments writing u ≡ true
  write_steps e = let m = and_high u 1 1 in write_enabled (omega arith)

  pub write_stays : (bit_and u 2 ≡ 0 → ⊥) → increments writing u ≡ false
  write_stays e = let m = and_high u 1 1 in ne_eqb (line u 1) 0 (λ z. e (omega arith))

  pub read_steps : bit_and u 4 ≡ 0 → increments reading u ≡ true
  read_steps e = let m = and_high u 1 2 in read_enabled (omega arith)

  pub read_stays : (bit_and u 4 ≡ 0 → ⊥) → increments reading u ≡ false
  read_stays e = let m = and_high u 1 2 in ne_eqb (line u 2) 0 (λ z. e (omega arith))
