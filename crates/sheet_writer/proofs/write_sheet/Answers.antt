-- All tests but that of the buffer give a chip that can be written (`takes_it`).
use Rattle.std.proofs.Common.{rules}
use Rattle.hd153108.specs.Hd153108.{chip}
use Rattle.sheet_written.proofs.Ends.{takes_it}
use Rattle.sheet_writer.proofs.write_sheet.Goals as goal

pub write_lines-requires : goal.write_lines-requires
write_lines-requires c = (
  takes_it (chip c.args.s c.args.colours.now c.args.overlays.now) c.in_ok-standing.ensures c.over_fifteen.ensures
      c.if-over_fifteen.false c.over_fifteen-else-over_fifteen.ensures c.if-over_fifteen-2.false,
  search rules,
)
