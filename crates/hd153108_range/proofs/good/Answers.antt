-- A number past its range contradicts that all ranges hold (`not_meets`). The last test is the answer, so both ways
-- are shown (`agree`): true gives all ranges, with those that were passed, and all ranges give true.
use native.Mathlib.Omega.{arith}
use mathlib.Core.Path.{sym}
use borrow.Author.Tests.{ltb-true, lt-ltb}
use Rattle.vocabulary.proofs.Range.{not_meets, agree, meets_holds, holds_meets}
use Rattle.hd153108.specs.Hd153108.{state_ranges}
use Rattle.hd153108_range.proofs.good.Goals as goal

pub returns-then-s-ne0 : goal.returns-then-s-ne0
returns-then-s-ne0 c = sym (not_meets _ (λ g. omega arith))

pub returns : goal.returns
returns c =
    let s = c.args.s in
    let p = c.period_of.result in
    agree _ _
    (λ e. holds_meets (state_ranges s) (omega (arith, ltb-true s.clock.position p e)))
    (λ e. let g = meets_holds (state_ranges s) e in lt-ltb s.clock.position p (omega arith))
