-- THE PREMISES CAN BE MET: after an accepted reset of a chip with a whole map, any 192 bytes for the palette fill the
-- queue, and one more forces a transfer of four; pixels and a read that the theorem is about follow. Assumes nothing.
use Prim.Native.Nat.{ℕ, suc, ◌+◌, ◌*◌, ◌%◌, ◌<◌}
use mathlib.Core.Path.{◌≡◌, refl, sym, ap, ◌∙◌}
use mathlib.Core.Bool.{true}
use mathlib.Core.List.{List, [], ◌∷◌}
use native.Mathlib.Omega.{arith}
use borrow.Author.Tests.{ne_eqb}
use lib.Dec.{ltb}
use lib.ListN.{length, replicate, length-replicate, drop_of_length-le}
use Rattle.vocabulary.specs.Every.{every}
use Rattle.vocabulary.specs.Face.{called_by}
use Rattle.vocabulary.specs.Outcome.{Outcome, answered_at}
use Rattle.vocabulary.specs.Range.{fails, meets}
use Rattle.vocabulary.specs.Refusal.{refusal_of}
use Rattle.vocabulary.specs.Run.{after, Along, Accepted}
use Rattle.vocabulary.proofs.Choice.{picks_second}
use Rattle.vocabulary.proofs.Every.{every_replicate}
use Rattle.vocabulary.proofs.Range.{clash}
use Rattle.vocabulary.proofs.Run.{after_append, along_append, run_keeps}
use Rattle.ms622424.specs.Ms622424.{Chip, InRange, written, answers, Moves, control}
use Rattle.ms622424.specs.Ms622424.{writes, reads, blanks, resets, called}
use Rattle.ms622424.proofs.Blank.{blank_does}
use Rattle.ms622424.proofs.Kept.{called_keeps_range}
use Rattle.ms622424.proofs.Moves.{moves_are, room_forced}
use Rattle.theorem_queue_unseen.specs.Unseen.{NoReset, are_bytes, byte_of, gun_entry, ReadsNoWaiting}
use Rattle.theorem_premises.specs.Premises.{for_palette, emptied, Met, zeros}
use Rattle.theorem_queue_unseen.proofs.Accepting.{palette_accepted, initialized, table_read, pixel_accepted}
use Rattle.theorem_premises.proofs.Fill.{Filling, fill, fresh_filling}

-- ---- writes and blankings are no resets
no_reset : (bytes : List ℕ) (c : Chip) → NoReset (for_palette bytes) c
unfolding Along
no_reset [] c = tt
no_reset (byte ∷ bytes) c = ((λ h. clash (sym h.0)), no_reset bytes (called (writes 2 byte) c).left)

emptied_no_reset : (c : Chip) → NoReset emptied c
unfolding Along
emptied_no_reset c = ((λ h. clash (sym h.0)), ((λ h. clash (sym h.0)), tt))

-- ---- a pixel of modes 1 to 3 reads entries from 7,424 up
reads_high : (mode word n : ℕ) (c : Chip) → Filling n c → ReadsNoWaiting (suc mode) word c
unfolding ReadsNoWaiting gun_entry
reads_high mode word n c f k =
    let high = picks_second (word % 8192) (7168 + 256 * suc mode + byte_of k word)
    (ne_eqb (suc mode) 0 (λ z. omega arith)) in
    f.low (gun_entry (suc mode) word k) (omega (arith, high))

-- ---- a full queue
module _ (c : Chip) (h : InRange c) (full : length c.waiting ≡ 64) where
  forced : (byte : ℕ) → c.control.readmode ≡ 0 → byte < 256
      → Accepted called (writes 2 byte) c × ((called (writes 2 byte) c).count ≡ 4)
  unfolding written
  forced byte e hb =
      let done = palette_accepted c h byte e hb in (
        ap (λ (o : Outcome Chip). o.refusal) done,
        ap (λ (o : Outcome Chip). o.count) done
            ∙ (ap (λ (m : Moves). m.count) (room_forced c full ∙ moves_are 4 c) ∙ omega arith),
      )

  read_after : Accepted called (reads 2) (after called emptied c)
  unfolding after written answers
  read_after =
      let d = (called (blanks 64) c).left in
      let hd = called_keeps_range (blanks 64) c h in
      let done = initialized d hd in
      let none : d.waiting ≡ [] =
      ap (λ (o : Outcome Chip). o.left.waiting) (sym (blank_does 64 c h (omega arith) (sym (moves_are 64 c))))
      ∙ drop_of_length-le c.waiting {i = 64} (omega arith) in
      ap (λ (o : Outcome Chip). o.refusal)
      (table_read (called (writes 7 0) d).left (called_keeps_range (writes 7 0) d hd)
      (ap (λ (o : Outcome Chip). o.left.control.readmode) done)
      (ap (λ (o : Outcome Chip). o.left.waiting) done ∙ none))

pub premises_met : (before : Chip) (bytes : List ℕ) → Accepted called resets before → length before.map ≡ 24576
    → are_bytes bytes ≡ true → length bytes ≡ 192 → Met (called resets before).left (for_palette bytes)
premises_met before bytes a m b l =
    let start = (called resets before).left in
    let (h, f) = fresh_filling before a m in
    let c = after called (for_palette bytes) start in
    let hc = run_keeps called InRange called_keeps_range (for_palette bytes) start h in
    let g = fill bytes 0 start b h f (omega arith) in
    let full : length c.waiting ≡ 64 = omega arith in
    record {
      run = no_reset bytes start;
      full = full;
      transfer = λ byte hb. forced c hc full byte g.writing hb;
      pixel = λ mode word hm hw.
          (pixel_accepted c hc (suc mode) word (omega arith) hw, reads_high mode word _ c g);
      longer = along_append called _ (for_palette bytes) emptied start (no_reset bytes start) (emptied_no_reset c);
      read = rw (after_append called (for_palette bytes) emptied start) (read_after c hc full);
    }

-- and there is such a chip
pub zeros_in_range : InRange zeros
unfolding every
zeros_in_range = let size = length-replicate {A = ℕ} 24576 0 in search arith

pub one_run : Met (called resets zeros).left (for_palette (replicate 192 0))
unfolding called_by refusal_of answered_at fails meets
one_run =
    premises_met zeros (replicate 192 0) refl (length-replicate {A = ℕ} 24576 0)
    (every_replicate (λ (n : ℕ). ltb n 256) 192 0 refl) (length-replicate {A = ℕ} 192 0)
