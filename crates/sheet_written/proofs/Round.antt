-- Reading what the writer wrote gives what was written. Assumes nothing.
use Prim.Native.Nat.{ℕ, suc, ◌+◌, ◌≤◌}
use mathlib.Core.Path.{◌≡◌, refl, ◌∙◌}
use mathlib.Core.Bool.{false}
use mathlib.Core.List.{List, [], ◌∷◌, ◌++◌, map, append-nil}
use native.Mathlib.Omega.{arith}
use lib.ListN.{length, take, drop, length-map}
use lib.Seq.{take-append_seam}
use borrow.Author.Tests.{eq-eqb}
use Rattle.vocabulary.specs.Choice.{pick}
use Rattle.vocabulary.specs.Refusal.{refusal_of}
use Rattle.vocabulary.specs.Outcome.{accepting}
use Rattle.vocabulary.proofs.Range.{neither}
use Rattle.vocabulary.proofs.Outcome.{accepted_does, accepted_none}
use Rattle.vocabulary.proofs.Refusals.{none_exactly}
use Rattle.hd153108.specs.Hd153108.{Chip, InRange}
use Rattle.hd153108.proofs.InRange.{in_range_lem}
use Rattle.std.specs.Prelude.{Some}
use Rattle.sheet.specs.Sheet.{keys, key_at, good, sheet_of, colours_in, values, chip_lines, text_of}
use Rattle.sheet.specs.Sheet.{pasted, over_fifteen_in, write_refusals, write}
use Rattle.sheet.specs.Grammar.{Lawful}
use Rattle.sheet.proofs.Texts.{width_entry, takes_entry}
use Rattle.sheet.proofs.Back.{lawful_good}
use Rattle.sheet_written.specs.Writer.{Writable}
use Rattle.sheet_written.proofs.Values.{low_first, length_values, writable}

-- a table's colours, with no byte over 15, and lines behind them
lawful_colours : (t : List ℕ) (k : ℕ) (rest : List ℕ) → 5 ≤ k → over_fifteen_in t ≡ false
    → Lawful (k + length (colours_in t)) (map Some rest) → Lawful k (map Some (colours_in t ++ rest))
unfolding colours_in
lawful_colours [] k rest h e g = let s : k + 0 ≡ k = omega arith in rw s at g
lawful_colours (r ∷ []) k rest h e g = let s : k + 0 ≡ k = omega arith in rw s at g
lawful_colours (r ∷ g ∷ []) k rest h e l = let s : k + 0 ≡ k = omega arith in rw s at l
lawful_colours (r ∷ g ∷ b ∷ t) k rest h e l =
    let one = low_first r (g ∷ b ∷ t) e in
    let two = low_first g (b ∷ t) one.1 in
    let three = low_first b t two.1 in
    let s : k + suc (length (colours_in t)) ≡ k + 1 + length (colours_in t) = omega arith in (
      rw (width_entry k h) (omega arith),
      takes_entry k _ h,
      lawful_colours t (k + 1) rest (omega arith) three.1 (rw s at l),
    )

-- so a chip's lines are lawful
chip_lawful : (a : Chip) → Writable a → Lawful 0 (chip_lines a)
unfolding values key_at pick
chip_lawful a w =
    let s : InRange a = in_range_lem a (w.colours, (w.overlays, tt)) w.state in
    let os = colours_in a.overlays in
    let cs = colours_in a.colours in
    let colours = lawful_colours a.colours (5 + length os) [] (omega arith) w.low_colours tt in
    let entries = lawful_colours a.overlays 5 cs (omega arith) w.low_overlays (rw (append-nil cs) at colours) in
    let reserved = eq-eqb _ _ s.nothing_reserved in
    (omega arith, refl, (omega arith, refl, (omega arith, refl, (omega arith, reserved, (omega arith, refl, entries)))))

-- Reading what the writer wrote gives what was written, of any state and tables that it takes.
pub round : (a : Chip) → Writable a → sheet_of (text_of a) ≡ good (chip_lines a)
round a w =
    let long : length (chip_lines a) ≡ keys =
    length-map (values a) Some ∙ length_values a w.overlays w.colours in
    lawful_good (chip_lines a) long (chip_lawful a w)

-- the first bytes of a buffer that a word is written over are the word
pub first_of : (out word : List ℕ) → take (length word) (pasted out 0 word) ≡ word
unfolding pasted
first_of out word = take-append_seam word (drop (0 + length word) out)

-- a call that was accepted was of a chip that the writer takes
pub write_writable : (a : Chip) (out : List ℕ) → (write a out).refusal ≡ 0 → Writable a
unfolding write
write_writable a out e =
    let n = accepted_none (refusal_of (write_refusals a out)) 0 out _ e in
    let (Short-none, (range_none, (_, (_, (_, (_, (over_none, _))))))) = none_exactly (write_refusals a out) n in
    let low = neither (over_fifteen_in a.colours) _ over_none in
    writable a Short-none range_none low.0 low.1

-- and its count of bytes of the buffer, read, gives what was written
pub write_round : (a : Chip) (out : List ℕ) → (write a out).refusal ≡ 0
    → sheet_of (take (write a out).count (write a out).left) ≡ good (chip_lines a)
unfolding write
write_round a out e =
    let n = accepted_none (refusal_of (write_refusals a out)) 0 out _ e in
    let is : write a out ≡ accepting 0 (length (text_of a)) (pasted out 0 (text_of a)) = accepted_does 0 out _ n in
    rw (is, first_of out (text_of a)) (round a (write_writable a out e))
