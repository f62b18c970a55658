-- How a call keeps its promise: by a refusal, or accepted. Assumes nothing.
use Prim.Native.Nat.{ℕ, ◌<◌}
use mathlib.Core.Path.{◌≡◌, refl, ap, ◌∙◌}
use mathlib.Core.List.{List}
use native.Mathlib.Omega.{arith}
use lib.ListN.{length}
use Rattle.vocabulary.specs.Outcome.{accepting, refusing}
use Rattle.ms622424.specs.Ms622424.{Chip, InRange, Moves, made, room_made, port, control, fresh, Call, called}
use Rattle.ms622424.proofs.Moves.{room_first, room_space}
use Rattle.ms622424_places.specs.declared.Answer.{Answer}
use Rattle.ms622424_places.specs.declared.State.{State}
use Rattle.ms622424_places.specs.Places.{ringed, colours, handed, view, outcome, refuse, accept, seen, Does}
use Rattle.ms622424_places.proofs.Places.{fifo, how_many}

module _ (s : State) (q m : List ℕ) (a : Answer) (k : Call) where
  -- a refusal hands all back
  pub refuses : {n : ℕ} → a ≡ refuse n s → refusing n 0 (view (handed s q m)) ≡ called k (view (handed s q m))
      → Does (handed s q m) (outcome a q m) (called k)
  refuses e r =
      record {
        chip = ap (λ (b : Answer). seen (outcome b q m)) e ∙ r;
        keeps = λ z. ap (λ (b : Answer). handed b.state q m) e;
      }

  -- an accepted call does what it does
  pub accepts : (p n : List ℕ) {v w : ℕ} {t : State} → a ≡ accept v w t
      → accepting v w (view (handed t p n)) ≡ called k (view (handed s q m))
      → Does (handed s q m) (outcome a p n) (called k)
  accepts p n e r =
      record {
        chip = ap (λ (b : Answer). seen (outcome b p n)) e ∙ r;
        keeps = λ z. absurd (z (ap (λ (b : Answer). b.refusal) e));
      }

-- with room made, a place is free
pub has_room : (s : State) (q m : List ℕ) (c : Chip) (n : ℕ) → InRange c → made n (view (handed s q m)) ≡ room_made c
    → (s.fifo.first < 64) × (s.fifo.waiting < 64)
has_room s q m c n h e =
    let at = ap (λ (x : Moves). x.after.lent.first) e in
    let many = how_many s.fifo q in
    let same = ap (λ (x : Moves). length x.after.waiting) e in
    (omega (arith, at, room_first c h), omega (arith, many, same, room_space c h))

-- with the queue emptied and the registers as a reset sets them, the chip is fresh, whatever the places hold
pub fresh_chip : (s : State) (q m : List ℕ) (first waiting : ℕ) → first ≡ 0 → waiting ≡ 0
    → view (handed (record {
      port = port 0 0 0 0;
      control = control 3 0;
      ident = s.ident;
      fifo = fifo first waiting;
    }) q m) ≡ fresh (view (handed s q m))
unfolding colours ringed
fresh_chip s q m first waiting e f = rw (e, f) refl
