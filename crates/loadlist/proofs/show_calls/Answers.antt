-- No call has no line, and each call's line stands behind those before it.
use Rattle.loadlist.proofs.Lines.{none_printed, more_printed}
use Rattle.loadlist.proofs.show_calls.Goals as goal

pub loop-select-init : goal.loop-select-init
loop-select-init g c = none_printed (g.W.Write.contents c.args.out.now) c.args.calls.now

pub loop-select-preserved : goal.loop-select-preserved
loop-select-preserved g c =
    more_printed c.args.calls.now _ c.as_chunks.result.0.now c.loop-select.select-index c.as_chunks.ensures.front
    c.as_chunks.ensures.front_len c.loop-select-test.true _ _ _ c.call_line.result c.call_line.ensures
    c.loop-select.invariant c.in_ok-write_all.ensures.bytes
