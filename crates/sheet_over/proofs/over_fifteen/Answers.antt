-- The test of each byte, over the bytes of the table.
use Rattle.std.proofs.Common.{ℕ, rules, tests, ltb, ◌∙◌}
use Rattle.std.proofs.lemmas.Iterator.{YieldsList-from_slice}
use Rattle.std.proofs.lemmas.Iterator.Search.{any_from_yields_List}
use Rattle.sheet_over.proofs.Over.{over_any}
use Rattle.sheet_over.proofs.over_fifteen.Goals as goal

pub returns : goal.returns
returns c =
    any_from_yields_List (λ (x : ℕ). ltb 15 x) _ _ c.any.result c.any.ensures.ran
    (YieldsList-from_slice c.args.table.now (cc)) (λ x b q k. search (rules, tests))
    ∙ over_any c.args.table.now
