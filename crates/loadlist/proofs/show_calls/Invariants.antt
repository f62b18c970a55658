-- The calls up to the index are printed.
use Rattle.std.specs.Io.KnownBytes.{Appends}
use Rattle.loadlist.specs.Listing.{call_lines}
use Rattle.loadlist.proofs.show_calls.Given as goal

abbrev pub invariant-loop-select : goal.invariant-loop-select
invariant-loop-select g l =
    Appends (g.W.Write.contents l.initial.out) (g.W.Write.contents l.out) (call_lines l.select-index l.calls)
