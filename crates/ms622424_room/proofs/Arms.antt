-- Room for the incoming data, by the state's count, as the code knows it. Assumes nothing.
use Prim.Native.Nat.{ℕ}
use mathlib.Core.Path.{◌≡◌, sym, ◌∙◌}
use mathlib.Core.List.{List}
use lib.ListN.{length}
use Rattle.ms622424.specs.Ms622424.{Moves, made, moves, room_made}
use Rattle.ms622424.proofs.Moves.{room_forced, room_left}
use Rattle.ms622424_places.specs.declared.State.{State}
use Rattle.ms622424_places.specs.Places.{colours, handed, view}
use Rattle.ms622424_places.proofs.Places.{how_many}

module _ (s : State) (q m : List ℕ) where
  many : length (colours s.fifo q) ≡ s.fifo.waiting
  many = how_many s.fifo q

  pub forced : {x : Moves} → s.fifo.waiting ≡ 64 → x ≡ moves 4 (view (handed s q m))
      → x ≡ room_made (view (handed s q m))
  forced e f = f ∙ sym (room_forced _ (many ∙ e))

  pub has : (s.fifo.waiting ≡ 64 → ⊥) → made 0 (view (handed s q m)) ≡ room_made (view (handed s q m))
  has e = sym (room_left _ (λ f. e (sym many ∙ f)))
