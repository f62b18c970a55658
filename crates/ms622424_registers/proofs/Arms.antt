-- How reads of the registers end, as the code knows it. Assumes nothing.
use Prim.Native.Nat.{ℕ}
use mathlib.Core.Path.{◌≡◌, refl, ap}
use mathlib.Core.Bool.{true, false, not, ◌&&◌}
use mathlib.Core.List.{List}
use lib.Dec.{eqb}
use lib.ListN.{length}
use Rattle.vocabulary.specs.Outcome.{accepting}
use Rattle.vocabulary.specs.Component.{component_at}
use Rattle.ms622424.specs.Ms622424.{InRange, register_at, selected, with_port, buffer, buffer_byte, buffer_stepped}
use Rattle.ms622424.specs.Ms622424.{readable, answers, reads, called}
use Rattle.ms622424.proofs.Access.{is_blue}
use Rattle.ms622424.proofs.Read.{read_does, read_buffer, read_no_blue}
use Rattle.ms622424_places.specs.declared.Answer.{Answer}
use Rattle.ms622424_places.specs.declared.State.{State}
use Rattle.ms622424_places.specs.Places.{handed, view, outcome, refuse, accept, Does}
use Rattle.ms622424_places.proofs.Does.{refuses, accepts}

module _ (s : State) (q m : List ℕ) (a : Answer) (h : InRange (view (handed s q m))) where
  -- the buffer at red and at green, by the counter, and at blue
  pub buffer_served : {n v : ℕ} {t : State} → s.port.counter ≡ n → readable buffer (component_at n) ≡ true
      → a ≡ accept v 0 t → v ≡ buffer_byte (component_at n) s.port
      → view (handed t q m) ≡ with_port (buffer_stepped (component_at n) s.port) (view (handed s q m))
      → Does (handed s q m) (outcome a q m) (called (reads 5))
  buffer_served {n} g r f u w =
      accepts s q m a _ q m f
      (read_buffer 5 _ h (component_at n) refl (ap component_at g) r (cc))

  pub blue_refused : (s.port.counter ≡ 0 → ⊥) → (s.port.counter ≡ 1 → ⊥) → a ≡ refuse 3 s
      → Does (handed s q m) (outcome a q m) (called (reads 5))
  blue_refused g i f = refuses s q m a _ f (read_no_blue 5 _ h refl (is_blue _ g i))

  -- a register that is always read
  pub register_served : (k : ℕ) {v : ℕ} {t : State} → a ≡ accept v 0 t
      → readable (register_at k) (selected s.port) ≡ true → (eqb k 2 && eqb s.control.readmode 0) ≡ false
      → (eqb k 2 && not (eqb (length (view (handed s q m)).waiting) 0)) ≡ false
      → accepting v 0 (view (handed t q m)) ≡ answers (register_at k) (view (handed s q m))
      → Does (handed s q m) (outcome a q m) (called (reads k))
  register_served k f r p w d = accepts s q m a _ q m f (read_does k _ h k refl r p w d)
