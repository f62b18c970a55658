-- After an accepted reset of a chip with a whole map, bytes for the palette fill the queue: by induction over the
-- bytes, with 3 × waiting + counter the number of those taken. Assumes nothing.
use Prim.Native.Nat.{ℕ, zero, suc, ◌+◌, ◌*◌, ◌<◌, ◌≤◌}
use mathlib.Core.Path.{◌≡◌, refl, sym, ap, subst}
use mathlib.Core.Bool.{true, not}
use mathlib.Core.List.{List, [], ◌∷◌, map}
use native.Mathlib.Nat.{add-zero}
use native.Mathlib.Omega.{arith}
use borrow.Author.Tests.{ne_eqb, ltb-true}
use lib.Dec.{ltb, eqb}
use lib.ListN.{length, length-append}
use Rattle.vocabulary.specs.Component.{component_at}
use Rattle.vocabulary.specs.Every.{every}
use Rattle.vocabulary.specs.Outcome.{Outcome}
use Rattle.vocabulary.specs.Run.{after, Accepted}
use Rattle.vocabulary.proofs.Every.{every_append, every_one}
use Rattle.vocabulary.proofs.Face.{called_clear, called_does}
use Rattle.vocabulary.proofs.Range.{passes_holds, both, pair}
use Rattle.ms622424.specs.Ms622424.{Chip, Entry, queue_lengths, ident_ranges, InRange, selected, stepped, complete}
use Rattle.ms622424.specs.Ms622424.{Moves, taken, written, writes, resets, refusals, does, called}
use Rattle.ms622424.proofs.Kept.{fresh_in_range, called_keeps_range}
use Rattle.ms622424.proofs.Moves.{room_left}
use Rattle.theorem_queue_unseen.specs.Unseen.{are_bytes}
use Rattle.theorem_premises.specs.Premises.{for_palette}
use Rattle.theorem_queue_unseen.proofs.Accepting.{palette_accepted}

-- ---- a chip on its way: so many bytes taken since the reset, and no transfer yet
pub record Filling (n : ℕ) (c : Chip) : Type 0 where
  pub writing : c.control.readmode ≡ 0
  pub bytes : 3 * length c.waiting + c.port.counter ≡ n
  pub placed : c.port.address ≡ length c.waiting
  -- all waiting addresses lie below 64
  pub low : (a : ℕ) → 64 ≤ a → every (λ (e : Entry). not (eqb e.address a)) c.waiting ≡ true

taken_fills : (k n byte : ℕ) (c : Chip) → c.port.counter ≡ k → InRange c → Filling n c → n < 192
    → Filling (n + 1) (taken (component_at k) byte c)
unfolding component_at taken stepped complete
taken_fills zero n byte c e h f hn = search arith
taken_fills (suc zero) n byte c e h f hn = search arith
taken_fills (suc (suc zero)) n byte c e h f hn =
    record {
      writing = f.writing;
      bytes = simp length-append (omega arith);
      placed = simp length-append (omega arith);
      low = λ a l.
          rw (every_append, every_one)
          (pair (f.low a l) (ap not (ne_eqb c.port.address a (λ z. omega arith))));
    }
taken_fills (suc (suc (suc k))) n byte c e h f hn = absurd (omega arith)

-- ---- bytes for the palette, one after another
fill_step : (n byte : ℕ) (c : Chip) → InRange c → Filling n c → n < 192 → byte < 256
    → Filling (n + 1) (called (writes 2 byte) c).left
unfolding written
fill_step n byte c h f hn hb =
    let space = room_left c (λ z. omega arith) in
    subst (λ (o : Outcome Chip). Filling (n + 1) o.left) (sym (palette_accepted c h byte f.writing hb))
    (subst (λ (m : Moves). Filling (n + 1) (taken (selected c.port) byte m.after)) (sym space)
    (taken_fills c.port.counter n byte c refl h f hn))

pub fill : (bytes : List ℕ) (n : ℕ) (c : Chip) → are_bytes bytes ≡ true → InRange c → Filling n c
    → n + length bytes ≤ 192 → Filling (n + length bytes) (after called (for_palette bytes) c)
unfolding after every
fill [] n c e h f hn = rw add-zero f
fill (byte ∷ bytes) n c e h f hn =
    let (small, rest) = both (ltb byte 256) _ e in
    let next = fill_step n byte c h f (omega arith) (ltb-true byte 256 small) in
    let same : n + 1 + length bytes ≡ n + suc (length bytes) = omega arith in
    rw same at (fill bytes (n + 1) _ rest (called_keeps_range (writes 2 byte) c h) next (omega arith))

pub fresh_filling : (c : Chip) → Accepted called resets c → length c.map ≡ 24576
    → InRange (called resets c).left × Filling 0 (called resets c).left
unfolding every
fresh_filling c a m =
    let (long, (inside, _)) = called_clear refusals does resets c a in
    let (places, _) = passes_holds (queue_lengths c) long in
    let kept = passes_holds (ident_ranges c.ident) inside in
    subst (λ (o : Outcome Chip). InRange o.left × Filling 0 o.left) (sym (called_does refusals does resets c a))
    (fresh_in_range c places m kept, record { writing = refl; bytes = refl; placed = refl; low = λ a l. refl })
