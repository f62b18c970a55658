-- How a read of the palette ends, as the code knows it. Assumes nothing.
use Prim.Native.Nat.{ℕ}
use mathlib.Core.Path.{◌≡◌, refl, sym, ap, ◌∙◌}
use mathlib.Core.Bool.{not}
use mathlib.Core.List.{List}
use lib.ListN.{length}
use borrow.Author.Tests.{eq-eqb, ne_eqb}
use Rattle.vocabulary.specs.Outcome.{accepting}
use Rattle.ms622424.specs.declared.Port.{Port}
use Rattle.ms622424.specs.Ms622424.{InRange, register_at, palette, selected, stepped, with_port, readable, answers}
use Rattle.ms622424.specs.Ms622424.{reads, called}
use Rattle.ms622424.proofs.Read.{read_does, read_outside_mode, read_waiting}
use Rattle.ms622424_places.specs.declared.Answer.{Answer}
use Rattle.ms622424_places.specs.declared.State.{State}
use Rattle.ms622424_places.specs.Places.{colours, handed, view, outcome, refuse, accept, Does}
use Rattle.ms622424_places.proofs.Places.{how_many}
use Rattle.ms622424_places.proofs.Does.{refuses, accepts}

module _ (s : State) (q m : List ℕ) (a : Answer) (h : InRange (view (handed s q m))) where
  abbrev Served : Type 0
  Served = Does (handed s q m) (outcome a q m) (called (reads 2))

  many : length (colours s.fifo q) ≡ s.fifo.waiting
  many = how_many s.fifo q

  pub outside_refused : s.control.readmode ≡ 0 → a ≡ refuse 5 s → Served
  outside_refused e f = refuses s q m a _ f (read_outside_mode 2 _ h refl e)

  pub waiting_refused : (s.control.readmode ≡ 0 → ⊥) → (s.fifo.waiting ≡ 0 → ⊥) → a ≡ refuse 6 s → Served
  waiting_refused g i f = refuses s q m a _ f (read_waiting 2 _ h refl g (λ z. i (sym many ∙ z)))

  pub palette_served : {v : ℕ} {p : Port} → (s.control.readmode ≡ 0 → ⊥) → s.fifo.waiting ≡ 0
      → p ≡ stepped (selected s.port) s.port
      → a ≡ accept v 0 (record { port = p; control = s.control; ident = s.ident; fifo = s.fifo })
      → accepting v 0 (with_port (stepped (selected s.port) s.port) (view (handed s q m)))
      ≡ answers palette (view (handed s q m)) → Served
  unfolding register_at readable
  palette_served i j e f d =
      accepts s q m a _ q m (rw e at f)
      (read_does 2 _ h 2 refl refl (ne_eqb _ 0 i) (ap not (eq-eqb _ 0 (many ∙ j))) d)
