-- The bytes of the four registers' calls, copied to the buffer's start (`registers_wrote`).
use Rattle.std.proofs.Common.{rules}
use Rattle.calls.proofs.Stored.{registers_wrote}
use Rattle.calls_registers.proofs.register_calls.Goals as goal

pub returns : goal.returns
returns c =
    registers_wrote c.args.lines.now c.args.out.now _ c.in-Some.read c.in-Some.blink c.in-Some.control c.in-Some.timing
    c.in-Some.len_at_least (search rules) (search rules) (search rules) (search rules) c.copy_from_slice.ensures.after
