-- What the statements rule out of chip B's queue, beside the edits that must fail. Assumes nothing.
use Prim.Native.Nat.{ℕ, suc, ◌-◌, ◌<◌, ◌≤◌}
use mathlib.Core.Path.{◌≡◌, refl, ap, ◌∙◌}
use native.Mathlib.Omega.{arith}
use lib.ListN.{length}
use Rattle.vocabulary.specs.Component.{Component, red, green, blue}
use Rattle.vocabulary.specs.Outcome.{Outcome}
use Rattle.ms622424.specs.Ms622424.{Chip, InRange, selected, complete, Moves, taken, written, writes, blanks, called}
use Rattle.ms622424.proofs.Blank.{blank_count, blank_shrinks}
use Rattle.ms622424.proofs.Moves.{room_left}
use Rattle.theorem_queue_unseen.proofs.Accepting.{palette_accepted}

module _ (c : Chip) (h : InRange c) where
  -- one that empties the queue on the first slot: with two or more waiting a slot leaves one at least
  pub first_slot_leaves : 1 < length c.waiting → length (called (blanks 1) c).left.waiting ≡ 0 → ⊥
  first_slot_leaves l e = let w = blank_shrinks 1 c h (omega arith) in omega (arith, w, e)

  -- and idles on the next: while an entry waits, a slot more moves one more
  pub next_slot_moves : (slots : ℕ) → suc slots < 65536 → slots < length c.waiting
      → (called (blanks (suc slots)) c).count ≡ suc (called (blanks slots) c).count
  next_slot_moves slots few l =
      let a = blank_count (suc slots) c h few in
      let b = blank_count slots c h (omega arith) in
      omega (arith, a, b)

  -- an invented count: the queue shrinks by the count, and the count is no more than the slots
  pub count_is_of_moves : (slots : ℕ) → slots < 65536
      → (length (called (blanks slots) c).left.waiting ≡ length c.waiting - (called (blanks slots) c).count)
      × ((called (blanks slots) c).count ≤ slots)
  count_is_of_moves slots few =
      let n = blank_count slots c h few in
      let w = blank_shrinks slots c h few in
      (omega (arith, n, w), omega (arith, n))

  -- one that writes the map at once: a write to select 2 that finds room leaves the map
  taken_keeps_map : (k : Component) (byte : ℕ) (d : Chip) → (taken k byte d).map ≡ d.map
  unfolding taken complete
  taken_keeps_map red byte d = refl
  taken_keeps_map green byte d = refl
  taken_keeps_map blue byte d = refl

  pub write_keeps_map : (byte : ℕ) → byte < 256 → c.control.readmode ≡ 0 → (length c.waiting ≡ 64 → ⊥)
      → (called (writes 2 byte) c).left.map ≡ c.map
  unfolding written
  write_keeps_map byte hb out room =
      ap (λ (o : Outcome Chip). o.left.map) (palette_accepted c h byte out hb)
      ∙ (taken_keeps_map (selected c.port) byte _ ∙ ap (λ (m : Moves). m.after.map) (room_left c room))
