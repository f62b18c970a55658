-- How a register's write ends, as the code knows it. Assumes nothing.
use Prim.Native.Nat.{ℕ, ◌<◌}
use mathlib.Core.Path.{◌≡◌, ap, ◌∙◌}
use mathlib.Core.List.{List}
use Rattle.vocabulary.specs.Outcome.{accepting}
use Rattle.hd153108.specs.declared.State.{State}
use Rattle.hd153108.specs.declared.Answer.{Answer}
use Rattle.hd153108.specs.Hd153108.{chip, register_at, written, accept, outcome, writes}
use Rattle.hd153108_set.specs.Serves.{Serves}
use Rattle.hd153108.proofs.Access.{Served, writing, access_goes}

pub register_set : (s : State) (a : Answer) (k byte : ℕ) {t : State} → byte < 256 → a ≡ accept 0 t → Served k
    → ((cs os : List ℕ) → accepting 0 0 (chip t cs os) ≡ written (register_at k) byte (chip s cs os))
    → Serves (writes k byte) s a
register_set s a k byte b f r w cs os g =
    ap (λ (x : Answer). outcome x cs os) f ∙ (w cs os ∙ access_goes _ g (writing b) r)
