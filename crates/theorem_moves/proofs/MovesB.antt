-- Chip B: an access to a register leaves the others, which reads move, and which calls change queue and map.
-- Assumes nothing.
use Prim.Native.Nat.{ℕ}
use mathlib.Core.Path.{◌≡◌, refl, sym, ap, subst, ◌∙◌}
use Rattle.vocabulary.specs.Component.{Component, red, green, blue}
use Rattle.vocabulary.proofs.Face.{called_holds}
use Rattle.ms622424.specs.Ms622424.{Chip, Register, address_low, address_high, palette, command, status, buffer}
use Rattle.ms622424.specs.Ms622424.{revision, initialization, none, register_at, selected, stepped, buffer_stepped}
use Rattle.ms622424.specs.Ms622424.{complete, Moves, moves, room_made, taken, with_port, with_queue, with_first, written}
use Rattle.ms622424.specs.Ms622424.{answers, writes, reads, blanks, pixels, signals, refusals, does, called}
use Rattle.ms622424.proofs.Moves.{moves_are, room_cases}
use Rattle.theorem_moves.specs.MovesB.{QueueAlone, PaletteAlone, PlaceAlone, CounterAlone, WriteLeaves}
use Rattle.theorem_moves.specs.MovesB.{ReadLeaves}

-- ---- as it was
kept_by_write : (r : Register) (c : Chip) → WriteLeaves r c c
kept_by_write address_low c = refl
kept_by_write address_high c = refl
kept_by_write palette c = refl
kept_by_write command c = refl
kept_by_write status c = refl
kept_by_write buffer c = refl
kept_by_write revision c = refl
kept_by_write initialization c = refl
kept_by_write none c = refl

kept_by_read : (r : Register) (c : Chip) → ReadLeaves r c c
kept_by_read address_low c = refl
kept_by_read address_high c = refl
kept_by_read palette c = refl
kept_by_read command c = refl
kept_by_read status c = refl
kept_by_read buffer c = refl
kept_by_read revision c = refl
kept_by_read initialization c = refl
kept_by_read none c = refl

-- ---- the moves: waiting colours, their first place and map, and nothing else
moves_leave : (slots : ℕ) (c : Chip) → QueueAlone c (moves slots c).after
moves_leave slots c = subst (λ (m : Moves). QueueAlone c m.after) (sym (moves_are slots c)) refl

-- ---- a write
taken_leaves : (k : Component) (byte : ℕ) (c : Chip) → PaletteAlone c (taken k byte c)
unfolding taken stepped complete
taken_leaves red byte c = refl
taken_leaves green byte c = refl
taken_leaves blue byte c = refl

-- what leaves the rest of a chip that has another queue leaves the rest of the chip
palette_after : (c d n : Chip) → QueueAlone c d → PaletteAlone d n → PaletteAlone c n
palette_after c d n e h =
    h
    ∙ ap (λ (x : Chip). with_port n.port (with_queue n.waiting n.map (with_first n.lent.first x))) e

written_leaves : (r : Register) (byte : ℕ) (c : Chip) → WriteLeaves r c (written r byte c).left
unfolding written
written_leaves address_low byte c = refl
written_leaves address_high byte c = refl
written_leaves palette byte c =
    palette_after c (room_made c).after _ (room_cases c (λ (m : Moves). QueueAlone c m.after) (moves_leave 4 c) refl)
    (taken_leaves (selected c.port) byte (room_made c).after)
written_leaves command byte c = refl
written_leaves status byte c = refl
written_leaves buffer byte c = refl
written_leaves revision byte c = refl
written_leaves initialization byte c = refl
written_leaves none byte c = refl

pub write_leaves : (select byte : ℕ) (c : Chip)
    → WriteLeaves (register_at select) c (called (writes select byte) c).left
write_leaves select byte c =
    let r = register_at select in
    called_holds refusals does (writes select byte) c (WriteLeaves r c) (kept_by_write r c)
    (λ none. written_leaves r byte c)

-- ---- a read
stepped_leaves : (k : Component) (c : Chip) → PlaceAlone c (with_port (stepped k c.port) c)
unfolding stepped
stepped_leaves red c = refl
stepped_leaves green c = refl
stepped_leaves blue c = refl

buffer_leaves : (k : Component) (c : Chip) → CounterAlone c (with_port (buffer_stepped k c.port) c)
unfolding buffer_stepped stepped
buffer_leaves red c = refl
buffer_leaves green c = refl
buffer_leaves blue c = refl

answers_leave : (r : Register) (c : Chip) → ReadLeaves r c (answers r c).left
unfolding answers
answers_leave address_low c = refl
answers_leave address_high c = refl
answers_leave palette c = stepped_leaves (selected c.port) c
answers_leave command c = refl
answers_leave status c = refl
answers_leave buffer c = buffer_leaves (selected c.port) c
answers_leave revision c = refl
answers_leave initialization c = refl
answers_leave none c = refl

pub read_leaves : (select : ℕ) (c : Chip) → ReadLeaves (register_at select) c (called (reads select) c).left
read_leaves select c =
    let r = register_at select in
    called_holds refusals does (reads select) c (ReadLeaves r c) (kept_by_read r c) (λ none. answers_leave r c)

-- ---- the other calls: blanking changes waiting colours, their first place and map alone, pixel and timing signals
-- nothing at all; a reset keeps the map (`reset_keeps_map` of ms622424)
pub blank_leaves : (slots : ℕ) (c : Chip) → QueueAlone c (called (blanks slots) c).left
blank_leaves slots c =
    called_holds refusals does (blanks slots) c (QueueAlone c) refl (λ none. moves_leave slots c)

pub pixel_moves_nothing : (mode word : ℕ) (c : Chip) → (called (pixels mode word) c).left ≡ c
pixel_moves_nothing mode word c =
    called_holds refusals does (pixels mode word) c (λ (d : Chip). d ≡ c) refl (λ none. refl)

pub signals_move_nothing : (s : ℕ) (c : Chip) → (called (signals s) c).left ≡ c
signals_move_nothing s c = called_holds refusals does (signals s) c (λ (d : Chip). d ≡ c) refl (λ none. refl)
