-- So many of the unread bytes are left out, or all.
use Rattle.input.proofs.Taken.{taken}
use Rattle.input.proofs.Input.take.Goals as goal

pub returns : goal.returns
returns g c =
    rw (c.min.ensures, ← c.self.view_is)
    (taken c.self.inside.bytes c.args.n c.self.inside.at c.self.inside.end c.self.invariant.0)
