-- How the arms of a data read end, with the address after it as the code makes it. Assumes nothing.
use Prim.Native.Nat.{ℕ, ◌+◌, ◌*◌, ◌%◌}
use mathlib.Core.Path.{◌≡◌, refl, ap}
use mathlib.Core.List.{List}
use lib.ListN.{get_or}
use Rattle.vocabulary.specs.Component.{component_at}
use Rattle.hd153108.specs.declared.State.{State}
use Rattle.hd153108.specs.declared.Answer.{Answer}
use Rattle.hd153108.specs.Hd153108.{chip, register_at, answers, colour, overlay, next, stepped, reads, called}
use Rattle.hd153108.specs.Hd153108.{accept, outcome}
use Rattle.hd153108.proofs.Access.{tried, reading, served}

module _ (s : State) (cs os : List ℕ) (a : Answer) (select : ℕ) (e : 0 ≡ tried (chip s cs os)) where
  abbrev moves : ℕ → State
  moves m = stepped (component_at s.pointer) m s

  pub colour_read : {v m : ℕ} → select ≡ 1 → a ≡ accept v (moves m) → m ≡ next colour s.address
      → v ≡ get_or cs (3 * s.address + s.pointer) 0 → outcome a cs os ≡ called (reads select) (chip s cs os)
  unfolding register_at answers
  colour_read k f p d = served s cs os a reading e cs os k f (ap moves p) refl (rw d)

  pub overlay_read : {v m : ℕ} → select ≡ 3 → a ≡ accept v (moves m) → m ≡ next overlay s.address
      → v ≡ get_or os (3 * (s.address % 4) + s.pointer) 0 → outcome a cs os ≡ called (reads select) (chip s cs os)
  unfolding register_at answers
  overlay_read k f p d = served s cs os a reading e cs os k f (ap moves p) refl (rw d)
