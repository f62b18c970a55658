-- The text from key k on is left to write, it fits, and with it the buffer is as promised (`Going`).
use Rattle.hd153108.specs.Hd153108.{chip}
use Rattle.sheet.specs.Sheet.{text_of}
use Rattle.sheet.proofs.Going.{Going}
use Rattle.sheet_lines.proofs.Turn.{left}
use Rattle.sheet_lines.proofs.write_lines.Given as goal

abbrev pub invariant-loop-k : goal.invariant-loop-k
invariant-loop-k l =
    Going (text_of (chip l.s l.colours l.overlays)) l.fn.out l.out l.at (left (chip l.s l.colours l.overlays) l.k)
