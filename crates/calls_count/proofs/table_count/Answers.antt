-- A turn counts an entry (`counts_on`); at the end none is left (`counts_all`).
use Rattle.std.proofs.Common.{rules}
use Rattle.calls.proofs.Count.{counts_on, counts_all}
use Rattle.calls_count.proofs.table_count.Goals as goal

pub loop-line-preserved : goal.loop-line-preserved
loop-line-preserved c =
    let counted = counts_on _ _ _ _ c.loop-line.invariant.all c.loop-line-test.true c.entry_count-count.ensures.0 in
    record { few = search rules; all = rw c.is_some-joined.ensures counted }

pub returns : goal.returns
returns c = search (counts_all, rules)
