use Rattle.board.proofs.Resets.{a_zeroed}
use Rattle.board_start.proofs.a_start.Goals as goal

pub returns : goal.returns
returns c = a_zeroed _ c.zk_a_reset.ensures
