use mathlib.Core.Path.{refl}
use Rattle.hd153108.specs.Hd153108.{register_at, written}
use Rattle.hd153108_set.proofs.Arms.{register_set}
use borrow.Author.Rules.{rules}
use Rattle.hd153108_set.proofs.set_address.Goals as goal

pub returns : goal.returns
unfolding register_at written
returns c = register_set _ _ 0 _ (search rules) c.accepted.ensures refl (λ cs os. refl)
