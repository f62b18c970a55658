-- THE EDGES: p1 to p12. Assumes nothing.
use Prim.Native.Nat.{ℕ, ◌+◌, ◌<◌, ◌≤◌}
use mathlib.Core.Path.{◌≡◌, refl, sym, ap, subst, ◌∙◌}
use native.Mathlib.Omega.{arith}
use lib.Dec.{leb, eqb}
use lib.ListN.{length-replicate}
use Rattle.vocabulary.specs.Choice.{pick}
use Rattle.vocabulary.specs.Outcome.{Outcome, accepting}
use Rattle.vocabulary.proofs.Every.{every_replicate}
use Rattle.vocabulary.proofs.Face.{called_clear, called_does}
use Rattle.vocabulary.proofs.Range.{passes_holds}
use Rattle.expand.specs.Expand.{filled, ten}
use Rattle.expand.proofs.Width.{expansion_accepted}
use Rattle.ms622424.specs.Ms622424.{Chip, Entry, InRange, is_in_map, places, fresh, register_at}
use Rattle.ms622424.specs.Ms622424.{readable, answers, active_low, mark, status_of, status_byte, resets, refusals, does}
use Rattle.ms622424.proofs.Read.{read_does}
use Rattle.ms622424.proofs.Kept.{fresh_in_range}
use Rattle.theorem_edges.specs.Edges.{Answers, Fresh, Status, Edges, black, waiting_chip}

-- the status byte at counter 0, of command bit 4 and how many wait
edge_status : ℕ → ℕ → ℕ
edge_status bit waiting =
    0 +
    active_low 2 (eqb waiting 0) +
    active_low 3 (leb (pick (eqb bit 0) 32 56) waiting) +
    active_low 4 (eqb waiting 64)

status_is : (bit waiting : ℕ) → Status bit waiting (edge_status bit waiting)
unfolding register_at readable answers status_byte status_of mark edge_status
status_is bit waiting c h e f g = sym (read_does 4 c h 4 refl refl refl refl (rw (e, f, g) refl))

module _ (bit waiting byte : ℕ) where
  status_answers : edge_status bit waiting ≡ byte → Status bit waiting byte
  status_answers e c h b k w = status_is bit waiting c h b k w ∙ ap (λ (n : ℕ). accepting n 0 c) e

fresh_answers : (byte : ℕ) → edge_status 0 0 ≡ byte → Fresh byte
fresh_answers byte e c m a =
    let (short, (kept, _)) = called_clear refusals does resets c a in
    let (places, _) = passes_holds _ short in
    subst (λ (o : Outcome Chip). Answers o.left byte) (sym (called_does refusals does resets c a))
    (status_answers 0 0 byte e (fresh c) (fresh_in_range c places m (passes_holds _ kept)) refl refl refl)

pub edges : Edges
unfolding ten filled edge_status pick
edges = record {
  p1 = sym (expansion_accepted 8 63 (omega arith) (omega arith) (omega arith));
  p2 = sym (expansion_accepted 8 64 (omega arith) (omega arith) (omega arith));
  p3 = sym (expansion_accepted 8 128 (omega arith) (omega arith) (omega arith));
  p4 = sym (expansion_accepted 8 255 (omega arith) (omega arith) (omega arith));
  p5 = sym (expansion_accepted 6 4 (omega arith) (omega arith) (omega arith));
  p6 = sym (expansion_accepted 6 63 (omega arith) (omega arith) (omega arith));
  p7 = fresh_answers 0x18 refl;
  p8 = status_answers 0 31 0x1C refl;
  p9 = status_answers 0 32 0x14 refl;
  p10 = status_answers 0 64 0x04 refl;
  p11 = status_answers 1 55 0x1C refl;
  p12 = status_answers 1 56 0x14 refl;
}

-- ---- such chips are there

pub edge_met : (command waiting : ℕ) → command < 32 → waiting ≤ 64 → InRange (waiting_chip command waiting)
edge_met command waiting h w =
    let many = length-replicate {A = Entry} waiting black in
    let size = length-replicate {A = ℕ} 24576 0 in
    let inside = every_replicate is_in_map waiting black refl in
    record {
      address = omega arith;
      counter = omega arith;
      red = omega arith;
      green = omega arith;
      command = h;
      readmode = omega arith;
      revision = omega arith;
      board = omega arith;
      first = omega arith;
      few = omega (arith, many);
      in_map = inside;
      size = size;
      places = refl;
    }
