-- Laws of what every call tries first: which refusal the tests give. Assumes nothing.
use Prim.Native.Nat.{ℕ, ◌<◌}
use mathlib.Core.Path.{◌≡◌, refl, sym, ◌∙◌}
use mathlib.Core.List.{List, []}
use Rattle.std.specs.Array.{IsWholeChunk}
use mathlib.Core.Bool.{Bool, true, false}
use Rattle.vocabulary.specs.Range.{meets}
use Rattle.vocabulary.specs.Refusal.{refusal_of, standing}
use lib.ListN.{length}
use Rattle.vocabulary.proofs.Range.{agree, meets_holds, holds_meets, not_fails}
use Rattle.vocabulary.proofs.Range.{holds_passes, misses_fails, meets_passes}
use Rattle.ms622424.specs.Ms622424.{Chip, InRange, queue_lengths, lengths, short_queue, short}
use Rattle.ms622424.specs.Ms622424.{queue_ranges, ranges, outside}
use Rattle.ms622424.proofs.InRange.{in_range_lem}
use Rattle.ms622424_places.specs.declared.State.{State}
use Rattle.ms622424_places.specs.Places.{handed, view}

-- the registers in their ranges, the queue's tests decide
pub queue_decides : (c : Chip) → c.port.address < 8192 → c.port.counter < 3 → c.port.red < 256
    → c.port.green < 256 → c.control.command < 32 → c.control.readmode < 2 → c.ident.revision < 8
    → c.ident.board < 16 → meets (queue_ranges c) ≡ meets (ranges c)
queue_decides c a n r g d m v b =
    agree (meets (queue_ranges c)) (meets (ranges c))
    (λ t. holds_meets (ranges c) (a, (n, (r, (g, (d, (m, (v, (b, meets_holds (queue_ranges c) t)))))))))
    (λ t. let (_, (_, (_, (_, (_, (_, (_, (_, q)))))))) = meets_holds (ranges c) t in holds_meets (queue_ranges c) q)

-- which refusal the two tests give
module _ (short outside : Bool) where
  pub stands_short : short ≡ true → 1 ≡ refusal_of (standing short outside)
  unfolding refusal_of
  stands_short e = rw e refl

  pub stands_outside : short ≡ false → outside ≡ true → 9 ≡ refusal_of (standing short outside)
  unfolding refusal_of
  stands_outside e f = rw (e, f) refl

  pub stands : short ≡ false → outside ≡ false → 0 ≡ refusal_of (standing short outside)
  unfolding refusal_of
  stands e f = rw (e, f) refl

-- the same of a chip with its queue
module _ (c : Chip) (l : c.lent.places ≡ 64) where
  pub queue_outside : meets (ranges c) ≡ false → 9 ≡ refusal_of (standing (short_queue c) (outside c))
  queue_outside e = stands_outside _ _ (holds_passes (queue_lengths c) (l, tt)) (misses_fails (ranges c) e)

  pub queue_stands : meets (ranges c) ≡ true → 0 ≡ refusal_of (standing (short_queue c) (outside c))
  queue_stands e = stands _ _ (holds_passes (queue_lengths c) (l, tt)) (meets_passes (ranges c) e)

-- the same of a chip with both tables
module _ (c : Chip) where
  pub short_stands : (c.lent.places ≡ 64 → length c.map ≡ 24576 → ⊥) → 1 ≡ refusal_of (standing (short c) (outside c))
  short_stands h = stands_short _ _ (not_fails (lengths c) (λ g. h g.0 g.1.0))

  module _ (l : c.lent.places ≡ 64) (m : length c.map ≡ 24576) where
    pub outside_stands : meets (ranges c) ≡ false → 9 ≡ refusal_of (standing (short c) (outside c))
    outside_stands e = stands_outside _ _ (holds_passes (lengths c) (l, (m, tt))) (misses_fails (ranges c) e)

    pub met_in_range : meets (ranges c) ≡ true → InRange c
    met_in_range e = in_range_lem c (l, (m, tt)) (meets_holds (ranges c) e)

-- the same of lent tables that the code has as arrays, with what `in_range` answers of them
module _ (s : State) (q m p b : List ℕ) (w : IsWholeChunk q p 64) (v : IsWholeChunk m b 24576) (t : Bool)
    (e : t ≡ meets (ranges (view (handed s p [])))) where
  pub arrays_outside : t ≡ false
      → 9 ≡ refusal_of (standing (short (view (handed s q m))) (outside (view (handed s q m))))
  arrays_outside f = outside_stands (view (handed s q m)) w.long v.long (sym (rw w.same at e) ∙ f)

  pub arrays_in_range : t ≡ true → InRange (view (handed s q m))
  arrays_in_range f = met_in_range (view (handed s q m)) w.long v.long (sym (rw w.same at e) ∙ f)
