-- An index in read space has its entry fetched (`fetches_entry_lem`), one below or above it none.
use Rattle.std.proofs.Common.{sym, arith}
use Rattle.rgb640.proofs.Index.{fetches_entry_lem, fetches_nothing_lem}
use Rattle.rgb640_fetch.proofs.prefetch.Goals as goal

pub returns-in-32768-to-33791 : goal.returns-in-32768-to-33791
returns-in-32768-to-33791 c = fetches_entry_lem c.args.s.index (omega arith) (omega arith) _ _ c.fetch.ensures

pub returns-in_default : goal.returns-in_default
returns-in_default c = sym (fetches_nothing_lem _ (λ l h. omega arith) _ _)

pub returns-in_default-2 : goal.returns-in_default-2
returns-in_default-2 c = sym (fetches_nothing_lem _ (λ l h. omega arith) _ _)
