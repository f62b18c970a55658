-- The bytes of a colour's three calls, copied to the buffer's start (`stored`).
use Rattle.calls.specs.Calls.{call_bytes}
use Rattle.calls.proofs.Stored.{stored}
use Rattle.calls_colour.proofs.put_colour.Goals as goal

pub returns : goal.returns
unfolding call_bytes
returns c = stored c.args.out.now _ _ c.copy_from_slice.ensures.after
