-- No bytes where the entry follows (`nothing`), else the two of a call, copied to the buffer's start (`stored`).
use Rattle.std.proofs.Common.{rules}
use Rattle.calls.specs.Calls.{call_bytes}
use Rattle.calls.proofs.Stored.{nothing, stored}
use Rattle.calls_entry.proofs.put_address.Goals as goal

pub returns-then-follows : goal.returns-then-follows
unfolding call_bytes
returns-then-follows c = rw c.if-follows.true (nothing _)

pub slice_bounds-copy_from_slice-end : goal.slice_bounds-copy_from_slice-end
unfolding call_bytes
slice_bounds-copy_from_slice-end c = let h = rw c.if-follows.false at c.requires in search rules

pub returns : goal.returns
unfolding call_bytes
returns c = rw c.if-follows.false (stored c.args.out.now _ _ c.copy_from_slice.ensures.after)

pub slice_bounds-copy_from_slice-end-2 : goal.slice_bounds-copy_from_slice-end-2
unfolding call_bytes
slice_bounds-copy_from_slice-end-2 c = let h = rw c.if-follows.false at c.requires in search rules

pub copy_from_slice-requires : goal.copy_from_slice-requires
unfolding call_bytes
copy_from_slice-requires c = let h = rw c.if-follows.false at c.requires in search rules
