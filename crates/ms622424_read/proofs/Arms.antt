-- How a read of the status ends, as the code knows it. Assumes nothing.
use Prim.Native.Nat.{ℕ}
use mathlib.Core.Path.{◌≡◌, refl, ap, ◌∙◌}
use mathlib.Core.List.{List}
use Rattle.vocabulary.specs.Outcome.{accepting}
use Rattle.ms622424.specs.Ms622424.{InRange, register_at, status_of, status_byte, readable, answers, reads, called}
use Rattle.ms622424.proofs.Read.{read_does}
use Rattle.ms622424_places.specs.declared.Answer.{Answer}
use Rattle.ms622424_places.specs.declared.State.{State}
use Rattle.ms622424_places.specs.Places.{handed, view, outcome, accept, Does}
use Rattle.ms622424_places.proofs.Places.{how_many}
use Rattle.ms622424_places.proofs.Does.{accepts}

pub status_served : (s : State) (q m : List ℕ) (select : ℕ) (a : Answer) → InRange (view (handed s q m)) → {v : ℕ}
    → select ≡ 4 → v ≡ status_of s.port.counter s.fifo.waiting s.control → a ≡ accept v 0 s
    → Does (handed s q m) (outcome a q m) (called (reads select))
unfolding register_at readable answers status_byte
status_served s q m select a h e g f =
    accepts s q m a _ q m f
    (read_does select _ h 4 e refl refl refl
    (ap (λ (v : ℕ). accepting v 0 (view (handed s q m)))
    (g ∙ rw (how_many s.fifo q) refl)))
