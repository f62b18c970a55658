-- How the arms of a data write end, with the address after it as the code makes it, and those that a part of the call
-- has served. Assumes nothing.
use Prim.Native.Nat.{ℕ, ◌%◌}
use mathlib.Core.Path.{◌≡◌, refl, ap, ◌∙◌}
use mathlib.Core.List.{List}
use Rattle.vocabulary.specs.Component.{component_at}
use Rattle.hd153108.specs.declared.State.{State}
use Rattle.hd153108.specs.declared.Answer.{Answer}
use Rattle.hd153108.specs.Hd153108.{chip, register_at, written, data_write, colour, overlay, next, stepped, latched}
use Rattle.hd153108.specs.Hd153108.{stored, InRange, writes, called, accept, outcome}
use Rattle.hd153108.proofs.Access.{tried, known, Access, served}

module _ (s : State) (cs os : List ℕ) (a : Answer) {select byte : ℕ} (u : Access (writes select byte))
    (e : 0 ≡ tried (chip s cs os)) where
  abbrev moves : ℕ → State
  moves m = stepped (component_at s.pointer) m (latched (component_at s.pointer) byte s)

  pub colour_written : {t : State} {m : ℕ} (ds : List ℕ) → select ≡ 1 → a ≡ accept 0 t → t ≡ moves m
      → m ≡ next colour s.address → ds ≡ stored (component_at s.pointer) s.address byte s cs
      → outcome a ds os ≡ called (writes select byte) (chip s cs os)
  unfolding register_at written data_write
  colour_written ds k f g p d = served s cs os a u e ds os k f (g ∙ ap moves p) refl (rw d)

  pub overlay_written : {t : State} {m : ℕ} (ps : List ℕ) → select ≡ 3 → a ≡ accept 0 t → t ≡ moves m
      → m ≡ next overlay s.address → ps ≡ stored (component_at s.pointer) (s.address % 4) byte s os
      → outcome a cs ps ≡ called (writes select byte) (chip s cs os)
  unfolding register_at written data_write
  overlay_written ps k f g p d = served s cs os a u e cs ps k f (g ∙ ap moves p) refl (rw d)

pub register_served : (s : State) (cs os : List ℕ) (a : Answer) (select k byte : ℕ) → 0 ≡ tried (chip s cs os)
    → select ≡ k
    → ((ds ps : List ℕ) → InRange (chip s ds ps) → outcome a ds ps ≡ called (writes k byte) (chip s ds ps))
    → outcome a cs os ≡ called (writes select byte) (chip s cs os)
register_served s cs os a select k byte e m f = rw m (f cs os (known _ e))
