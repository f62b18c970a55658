use Rattle.std.proofs.Common.{◌≡◌, arith}
use borrow.Author.Tests.{eq-eqb}
use Rattle.vocabulary.specs.Range.{meets, fails}
use Rattle.vocabulary.proofs.Range.{not_fails}
use Rattle.ms622424_range.proofs.Standing.{stands_short}
use Rattle.ms622424_range.proofs.standing_tables.Goals as goal

pub returns-then-size-ne24576 : goal.returns-then-size-ne24576
returns-then-size-ne24576 c = stands_short _ _ (not_fails _ (λ g. let e = g.1.0 in omega arith))

pub returns : goal.returns
unfolding fails meets
returns c = let e : c.args.size ≡ 24576 = omega arith in rw (eq-eqb _ 24576 e) c.standing_queue.ensures
