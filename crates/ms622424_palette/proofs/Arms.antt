-- A write to the palette in read mode and outside it, as the code knows it. Assumes nothing.
use Prim.Native.Nat.{ℕ, ◌<◌}
use mathlib.Core.Path.{◌≡◌, refl, ap}
use mathlib.Core.List.{List}
use borrow.Author.Tests.{ne_eqb}
use Rattle.vocabulary.specs.Outcome.{Outcome}
use Rattle.ms622424.specs.Ms622424.{Chip, InRange, register_at, writable, palette, written, writes, called}
use Rattle.ms622424.proofs.Write.{write_does, write_read_mode}
use Rattle.ms622424_places.specs.declared.Answer.{Answer}
use Rattle.ms622424_places.specs.declared.State.{State}
use Rattle.ms622424_places.specs.Places.{handed, view, outcome, refuse, seen, Does}
use Rattle.ms622424_places.proofs.Does.{refuses}

module _ (s : State) (q m : List ℕ) (byte : ℕ) (a : Answer) (h : InRange (view (handed s q m))) (b : byte < 256) where
  pub palette_stopped : s.control.readmode ≡ 1 → a ≡ refuse 5 s
      → Does (handed s q m) (outcome a q m) (called (writes 2 byte))
  palette_stopped e f = refuses s q m a _ f (write_read_mode 2 byte _ h b refl e)

  pub palette_served : (p n : List ℕ) → (s.control.readmode ≡ 1 → ⊥)
      → seen (outcome a p n) ≡ written palette byte (view (handed s q m))
      → Does (handed s q m) (outcome a p n) (called (writes 2 byte))
  unfolding register_at writable written
  palette_served p n r w =
      record {
        chip = write_does 2 byte _ h b 2 refl refl (ne_eqb _ 1 r) w;
        keeps = λ z. absurd (z (ap (λ (o : Outcome Chip). o.refusal) w));
      }
