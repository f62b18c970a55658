-- The invariant: what is read so far (`SoFar`). Each turn takes a key that is due or a later one.
use Rattle.std.proofs.Common.{◌-◌}
use Rattle.sheet.specs.Sheet.{keys}
use Rattle.sheet_reader.proofs.Kept.{SoFar}
use Rattle.sheet_reader.proofs.read.Given as goal

abbrev pub invariant-loop-at : goal.invariant-loop-at
invariant-loop-at l = SoFar l.text l.kept l.due l.n l.at

abbrev pub decreases-loop-at : goal.decreases-loop-at
decreases-loop-at l = keys - l.due
