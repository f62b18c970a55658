-- Every byte that the loop has passed is held.
use Rattle.std.proofs.Common.{◌≡◌, take}
use Rattle.hold.specs.Hold.{hold as held, holding_all}
use Rattle.hold.proofs.scan.Given as goal

abbrev pub invariant-loop-b : goal.invariant-loop-b
invariant-loop-b l = held l.hold l.n ≡ holding_all (take l.b-index l.b-items) (held l.initial.hold l.initial.n)
