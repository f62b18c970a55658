use Rattle.board.proofs.Resets.{c_zeroed}
use Rattle.board_start.proofs.c_start.Goals as goal

pub returns : goal.returns
returns c = c_zeroed _ c.zk_c_reset.ensures
