-- How a register's write ends, as the code knows it. Assumes nothing.
use Prim.Native.Nat.{ℕ, ◌<◌}
use mathlib.Core.Path.{◌≡◌, refl}
use mathlib.Core.Bool.{true, false, ◌&&◌}
use mathlib.Core.List.{List}
use lib.Dec.{eqb}
use Rattle.vocabulary.specs.Outcome.{accepting}
use Rattle.ms622424.specs.Ms622424.{InRange, register_at, writable, written, writes, called}
use Rattle.ms622424.proofs.Write.{write_does}
use Rattle.ms622424_places.specs.declared.Answer.{Answer}
use Rattle.ms622424_places.specs.declared.State.{State}
use Rattle.ms622424_places.specs.Places.{handed, view, outcome, accept, Does}
use Rattle.ms622424_places.proofs.Does.{accepts}

pub register_set : (s : State) (q m : List ℕ) (a : Answer) (k byte : ℕ) {t : State} → InRange (view (handed s q m))
    → byte < 256 → a ≡ accept 0 0 t → writable (register_at k) ≡ true
    → (eqb k 2 && eqb s.control.readmode 1) ≡ false
    → accepting 0 0 (view (handed t q m)) ≡ written (register_at k) byte (view (handed s q m))
    → Does (handed s q m) (outcome a q m) (called (writes k byte))
register_set s q m a k byte h b f w p d = accepts s q m a _ q m f (write_does k byte _ h b k refl w p d)
