-- What a read gave stands behind what was read before.
use Rattle.std.proofs.Common.{◌-◌, length, rules, subst}
use Rattle.std.specs.Io.KnownBytes.{Consumes}
use Rattle.std.proofs.KnownBytes.{Consumes-trans}
use Rattle.script.proofs.Joined.{joined}
use Rattle.script.proofs.read_full.Goals as goal

pub loop-done-preserved : goal.loop-done-preserved
loop-done-preserved g c =
    let done = c.loop-done.done in
    let text = c.loop-done.text in
    let same = joined done (length text - done) c.in_ok-n.n text c.read.new.buf c.loop-done.invariant.0
    c.in_ok-n.ensures.bound.0 in (
      search rules,
      subst (Consumes _ _) same (Consumes-trans _ _ _ _ _ c.loop-done.invariant.1
          c.in_ok-n.ensures.bytes.0),
    )
