-- Nothing is read and nothing waits.
use Rattle.replay.specs.Replay.{desk_of}
use Rattle.replay.proofs.First.{replays}
use Rattle.replay.proofs.run.Goals as goal

pub returns : goal.returns
returns g c =
    replays c.replay.result (g.R.Read.remaining c.args.from.now) (g.W.Write.contents c.args.to.now)
    (g.W.Write.contents c.replay.new.to) (desk_of c.begun.result.0 c.begun.result.1) c.new.result.unread
    c.new-2.result c.new.ensures c.new-2.ensures c.begun.ensures c.replay.ensures
