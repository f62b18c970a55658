use Prim.Native.Nat.{ℕ, ◌/◌, ◌%◌}
use native.Mathlib.Omega.{arith}
use mathlib.Core.Path.{ap, ◌∙◌}
use lib.Dec.{eqb}
use Rattle.hd153108_shown.proofs.Rule.{without_enable, without_b6, with_b6}
use Rattle.hd153108_shown.proofs.shows_colour.Goals as goal

pub returns-then-enable-eq0 : goal.returns-then-enable-eq0
returns-then-enable-eq0 c = without_enable _ _ _ c.if-enable-eq0.true

pub returns-then-control-eq0 : goal.returns-then-control-eq0
returns-then-control-eq0 c = without_b6 _ (c.args.control / 64 % 2) _ c.if-enable-eq0.false (omega arith)

pub returns : goal.returns
returns c =
    ap (λ (n : ℕ). eqb n 0) c.masked_number-selects.ensures
    ∙ with_b6 _ (c.args.control / 64 % 2) _ c.if-enable-eq0.false (λ e. omega arith)
