-- A chip in range passes the table of its lengths and ranges, and every call leaves it in range. Assumes nothing.
use Prim.Native.Nat.{ℕ, zero, suc, ◌<◌}
use mathlib.Core.Path.{◌≡◌, refl, sym, subst}
use mathlib.Core.List.{List, ◌∷◌}
use native.Mathlib.Omega.{arith}
use lib.ListN.{length}
use borrow.Author.Tests.{ltb-true}
use Rattle.vocabulary.specs.Range.{Holds, below}
use Rattle.vocabulary.specs.Run.{Keeps}
use Rattle.vocabulary.proofs.Choice.{picks_first, picks_second, cases}
use Rattle.vocabulary.proofs.Component.{put_length}
use Rattle.vocabulary.proofs.Range.{passes_holds}
use Rattle.vocabulary.proofs.Refusals.{standing_clear}
use Rattle.vocabulary.proofs.Face.{called_holds}
use Rattle.expand.proofs.Width.{ten_below}
use Rattle.rgb640.specs.declared.State.{State}
use Rattle.rgb640.specs.declared.Colour.{Colour}
use Rattle.rgb640.specs.Rgb640.{Chip, chip, lengths, ranges, standing_of, InRange, entry, increments, Direction}
use Rattle.rgb640.specs.Rgb640.{colour, fetches_entry, three_bytes, transfer_at, follows, restarted, stepped, taken}
use Rattle.rgb640.specs.Rgb640.{palette_taken, palette_told, Space, update_control, palette_write, palette_read}
use Rattle.rgb640.specs.Rgb640.{nowhere, space_of, Register, index_low, index_high, index_data, not_served, register_at}
use Rattle.rgb640.specs.Rgb640.{at, served, wrote, data_written, told, data_read, writes, reads, resets, refusals}
use Rattle.rgb640.specs.Rgb640.{looks, does, called}
use Rattle.rgb640.proofs.Index.{space_holds}
use Rattle.rgb640.proofs.Order.{steps, stays}

pub in_range_lem : (c : Chip) → Holds (lengths c) → Holds (ranges c) → InRange c
in_range_lem c h g = search

pub range_holds : (c : Chip) → InRange c → Holds (lengths c) × Holds (ranges c)
range_holds c h = search

-- past the refusals that every access tries first, a chip is in range
pub stands_range : (s : State) (t : List ℕ) → standing_of (length t) s ≡ 0 → InRange (chip s t)
stands_range s t e =
    let k = standing_clear _ _ e in
    in_range_lem (chip s t) (passes_holds _ k.0) (passes_holds _ k.1)

-- ---- What a transfer of the three bytes leaves
-- every transfer keeps a colour's components below 1,024
Low : Colour → Type 0
Low f = (f.red < 1024) × (f.green < 1024) × (f.blue < 1024)

takes_low : (b : ℕ) → b < 256 → (f : Colour) → Low f → (place : ℕ) → Low ((transfer_at three_bytes place).takes b f)
unfolding Low transfer_at
takes_low b h f l zero = let v = ten_below 8 b in omega arith
takes_low b h f l (suc zero) = let v = ten_below 8 b in omega arith
takes_low b h f l (suc (suc zero)) = let v = ten_below 8 b in omega arith
takes_low b h f l (suc (suc (suc place))) = let v = ten_below 8 b in omega arith

module _ (s : State) (t : List ℕ) (h : InRange (chip s t)) (d : Direction) (fetch : State → State)
    (keeps : (n : State) → InRange (chip n t) → InRange (chip (fetch n) t)) where
  restarted_range : InRange (chip (restarted d fetch s) t)
  restarted_range =
      cases (increments d s.update)
      (λ e. rw (steps d fetch s e) (keeps _ (omega arith)))
      (λ e. rw (stays d fetch s e) (omega arith))

  stepped_range : InRange (chip (stepped three_bytes d fetch s) t)
  unfolding stepped
  stepped_range =
      cases (follows three_bytes s.place)
      (λ e. rw (picks_first _ _ e) (omega (arith, ltb-true)))
      (λ e. rw (picks_second _ _ e) restarted_range)

entry_range : (s : State) (t : List ℕ) → InRange (chip s t) → InRange (chip (fetches_entry t s) t)
unfolding entry
entry_range s t h = omega arith

relent : (s : State) (t : List ℕ) → InRange (chip s t) → (u : List ℕ) → length u ≡ length t → InRange (chip s u)
relent s t r u e = omega arith

taken_range : (b : ℕ) (c : Chip) → b < 256 → InRange c → InRange (taken three_bytes b c)
unfolding taken Low
taken_range b c h r =
    let s = c.state in
    let l = takes_low b h (colour s.red s.green 0) (omega arith) s.place in
    cases (follows three_bytes s.place)
    (λ e. rw (picks_first _ _ e) (omega arith))
    (λ e. rw (picks_second _ _ e) (relent s c.table r _ (put_length _ _ _ _ _)))

-- ---- What every call leaves
-- setting the index, and a data access, by the index's space
module _ (i : ℕ) (c : Chip) (r : InRange c) where
  fetched_range : InRange (chip ((space_of i).on_index c.table c.state) c.table)
  unfolding update_control palette_write palette_read nowhere
  fetched_range =
      space_holds i (λ (row : Space). InRange (chip (row.on_index c.table c.state) c.table))
      (λ l. r, (λ l. r, (λ l. entry_range c.state c.table r, tt)))
      (λ out. r)

  data_written_range : (b : ℕ) → b < 256 → InRange (data_written (space_of i) b c)
  unfolding update_control palette_write palette_read nowhere served palette_taken
  data_written_range b h =
      let n = taken three_bytes b c in
      let stored = stepped_range n.state n.table (taken_range b c h r) _ _ (λ m k. k) in
      space_holds i (λ (row : Space). InRange (data_written row b c))
      (λ l. omega arith, (λ l. stored, (λ l. r, tt))) (λ out. r)

  data_read_range : InRange (chip (data_read (space_of i) c).1 c.table)
  unfolding update_control palette_write palette_read nowhere served palette_told
  data_read_range =
      let steps = stepped_range c.state c.table r _ _ (λ m k. entry_range m c.table k) in
      space_holds i (λ (row : Space). InRange (chip (data_read row c).1 c.table))
      (λ l. r, (λ l. r, (λ l. steps, tt))) (λ out. r)

module _ (c : Chip) (r : InRange c) where
  wrote_range : (b : ℕ) → b < 256 → (k : Register) → InRange (wrote k b c)
  unfolding wrote
  wrote_range b h index_low = omega arith
  wrote_range b h index_high = fetched_range _ (chip (at c.state _ 0) c.table) (omega arith)
  wrote_range b h index_data = data_written_range _ c r b h
  wrote_range b h not_served = r

  told_range : (k : Register) → InRange (chip (told k c).1 c.table)
  unfolding told
  told_range index_low = r
  told_range index_high = r
  told_range index_data = data_read_range _ c r
  told_range not_served = r

-- an accepted look leaves its chip
pub look_leaves : (place : ℕ) (c : Chip) → (does (looks place) c).left ≡ c
look_leaves place c = refl

-- and a reset the table
pub reset_leaves : (c : Chip) → (does resets c).left.table ≡ c.table
reset_leaves c = refl

pub called_keeps_range : Keeps called InRange
called_keeps_range (writes port b) c r =
    called_holds refusals does (writes port b) c InRange r
    (λ none. wrote_range c r b (passes_holds (below b 256 ∷ ranges c) none.1.0).0 (register_at port))
called_keeps_range (reads port) c r =
    called_holds refusals does (reads port) c InRange r (λ none. told_range c r (register_at port))
called_keeps_range resets c r = called_holds refusals does resets c InRange r (λ none. omega arith)
called_keeps_range (looks place) c r =
    called_holds refusals does (looks place) c InRange r (λ none. subst InRange (sym (look_leaves place c)) r)
