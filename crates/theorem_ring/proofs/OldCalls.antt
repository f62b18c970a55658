-- What an accepted call leaves in the old places are the waiting colours that the chip's own definition leaves.
-- Assumes nothing.
use Prim.Native.Nat.{ℕ, zero, suc, ◌<◌, min}
use mathlib.Core.Path.{◌≡◌, refl, sym, ap, ◌∙◌}
use mathlib.Core.List.{List, ◌∷◌}
use native.Mathlib.Omega.{arith}
use borrow.Author.Tests.{eq-eqb, ne_eqb}
use Rattle.vocabulary.specs.Choice.{pick}
use Rattle.vocabulary.specs.Component.{Component, red, green, blue}
use Rattle.vocabulary.specs.Range.{below}
use Rattle.vocabulary.proofs.Cases.{equals}
use Rattle.vocabulary.proofs.Choice.{picks_first, picks_second}
use Rattle.vocabulary.proofs.Face.{called_clear}
use Rattle.vocabulary.proofs.Range.{passes_holds}
use Rattle.ms622424.specs.declared.Port.{Port}
use Rattle.ms622424.specs.Ms622424.{Chip, Entry, InRange, ranges, Moves, moves, room_made, completed, complete, taken}
use Rattle.ms622424.specs.Ms622424.{selected, register_at, written, answers, Register, address_low, address_high}
use Rattle.ms622424.specs.Ms622424.{palette, command, status, buffer, revision, initialization, none}
use Rattle.ms622424.specs.Ms622424.{Call, writes, reads, blanks, pixels, signals, resets, looks, refusals, does, called}
use Rattle.ms622424.proofs.InRange.{in_range_lem}
use Rattle.ms622424.proofs.Moves.{moves_least, room_forced, room_left, room_keeps}
use Rattle.ms622424_places.proofs.Places.{unpacked_packed}
use Rattle.theorem_ring.specs.OldQueue.{Queue, colours_of, gone, Old, seen, roomed, received, queue_after}
use Rattle.theorem_ring.specs.Ring.{Orderly}
use Rattle.theorem_ring.proofs.OldQueue.{many, gone_oldest, put_colours, put_orderly, emptied_orderly}

-- places that hold some colours, in order
pub record Holding (q : Queue) (es : List Entry) : Type 0 where
  pub colours : colours_of q ≡ es
  pub orderly : Orderly q

module _ (o : Old) (h : Orderly o.queue) where
  as_was : Holding o.queue (seen o).waiting
  as_was = record { colours = refl; orderly = h }

  -- ---- the moves
  moved : (slots : ℕ) → Holding (gone (min slots o.queue.waiting) o.queue) (moves slots (seen o)).after.waiting
  moved slots =
      let q = o.queue in
      let k = min slots q.waiting in
      let g = gone_oldest k q h (omega arith) in
      let left = moves_least slots k (seen o) (ap (min slots) (sym (many q h))) in
      record {
        colours = g.colours ∙ sym (ap (λ (m : Moves). m.after.waiting) left);
        orderly = g.orderly;
      }

  -- room for the incoming data, and a place free
  room : Holding (roomed o.queue) (room_made (seen o)).after.waiting
  unfolding roomed
  room =
      let q = o.queue in
      equals q.waiting 64
      (λ e.
      let g = gone_oldest 4 q h (omega arith) in
      let left = room_forced (seen o) (many q h ∙ e) ∙ moves_least 4 4 (seen o) (omega (arith, many q h, e)) in
      let four : roomed q ≡ gone 4 q = picks_first (gone 4 q) q (eq-eqb q.waiting 64 e) in
      rw (four, left) (record { colours = g.colours; orderly = g.orderly }))
      (λ e.
      rw (picks_second _ q (ne_eqb q.waiting 64 e), room_left (seen o) (λ f. e (sym (many q h) ∙ f))) as_was)

  room_free : (roomed o.queue).waiting < 64
  unfolding roomed
  room_free =
      let q = o.queue in
      let few = h.few in
      equals q.waiting 64
      (λ e.
      rw (picks_first (gone 4 q) q (eq-eqb q.waiting 64 e), (gone_oldest 4 q h (omega arith)).waiting) (omega arith))
      (λ e. rw (picks_second _ q (ne_eqb q.waiting 64 e)) (omega arith))

  -- ---- a byte for the palette
  module _ (range : InRange (seen o)) (byte : ℕ) (small : byte < 256) where
    took : (k : Component)
        → Holding (received k (completed o.port byte) (roomed o.queue))
        (taken k byte (room_made (seen o)).after).waiting
    unfolding received taken complete
    took red = room
    took green = room
    took blue =
        let e = completed o.port byte in
        let p = o.port in
        let same = unpacked_packed p.address p.red p.green byte range.red range.green small in
        let kept = room_keeps (seen o) Port (λ d. d.port) (λ es m n. refl) in
        record {
          colours = put_colours (roomed o.queue) room.orderly room_free e same
              ∙ rw (room.colours, kept) refl;
          orderly = put_orderly (roomed o.queue) room.orderly room_free e;
        }

    wrote_palette : Holding (queue_after (writes 2 byte) o) (written palette byte (seen o)).left.waiting
    unfolding queue_after written pick
    wrote_palette = took (selected o.port)

-- ---- the other registers keep the queue
answered_waits : (r : Register) (c : Chip) → (answers r c).left.waiting ≡ c.waiting
unfolding answers
answered_waits address_low c = refl
answered_waits address_high c = refl
answered_waits palette c = refl
answered_waits command c = refl
answered_waits status c = refl
answered_waits buffer c = refl
answered_waits revision c = refl
answered_waits initialization c = refl
answered_waits none c = refl

module _ (o : Old) (h : Orderly o.queue) where
  wrote : (select byte : ℕ) → InRange (seen o) → byte < 256
      → Holding (queue_after (writes select byte) o) (written (register_at select) byte (seen o)).left.waiting
  unfolding queue_after register_at written pick
  wrote zero byte range small = as_was o h
  wrote (suc zero) byte range small = as_was o h
  wrote (suc (suc zero)) byte range small = wrote_palette o h range byte small
  wrote (suc (suc (suc zero))) byte range small = as_was o h
  wrote (suc (suc (suc (suc zero)))) byte range small = as_was o h
  wrote (suc (suc (suc (suc (suc zero))))) byte range small = as_was o h
  wrote (suc (suc (suc (suc (suc (suc zero)))))) byte range small = as_was o h
  wrote (suc (suc (suc (suc (suc (suc (suc zero))))))) byte range small = as_was o h
  wrote (suc (suc (suc (suc (suc (suc (suc (suc n)))))))) byte range small =
      rw (ne_eqb (suc (suc (suc (suc (suc (suc (suc (suc n)))))))) 2 (λ z. omega arith)) (as_was o h)

  -- THE PLACES after an accepted call
  pub left_holding : (k : Call) → (called k (seen o)).refusal ≡ 0
      → Holding (queue_after k o) (does k (seen o)).left.waiting
  unfolding queue_after
  left_holding (writes select byte) a =
      let t = called_clear refusals does (writes select byte) (seen o) a in
      let (small, range) = passes_holds (below byte 256 ∷ ranges (seen o)) t.1.0 in
      wrote select byte (in_range_lem (seen o) (passes_holds _ t.0) range) small
  left_holding (reads select) a = record { colours = sym (answered_waits (register_at select) (seen o)); orderly = h }
  left_holding (blanks slots) a = moved o h slots
  left_holding (pixels mode word) a = as_was o h
  left_holding (signals s) a = as_was o h
  left_holding resets a = record { colours = refl; orderly = emptied_orderly }
  left_holding (looks place) a = as_was o h
