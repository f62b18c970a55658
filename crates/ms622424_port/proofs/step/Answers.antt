-- What a counter's arm leaves is what its component says (`is_red`, `is_green`, `is_blue`).
use Rattle.std.proofs.Common.{ℕ, refl, ap, arith}
use Rattle.ms622424.specs.Ms622424.{stepped, port}
use Rattle.ms622424.proofs.Access.{is_red, is_green, is_blue}
use Rattle.ms622424_port.proofs.step.Goals as goal

pub returns-in-0 : goal.returns-in-0
unfolding stepped
returns-in-0 c = rw (is_red c.in-0.is) refl

pub returns-in-1 : goal.returns-in-1
unfolding stepped
returns-in-1 c = rw (is_green c.in-1.is) refl

pub returns-in_default : goal.returns-in_default
unfolding stepped
returns-in_default c =
    let p = c.args.p in
    rw (is_blue p.counter (λ e. omega arith) (λ e. omega arith))
    (ap (λ (n : ℕ). port n 0 p.red p.green) (omega arith))
