-- Every arm of the match by the laws of how an access ends.
use Rattle.hd153108.proofs.Access.{writing, stopped, unserved, colour_room, overlay_room}
use Rattle.hd153108_write.proofs.Arms.{colour_written, overlay_written, register_served}
use Rattle.vocabulary.proofs.Refusals.{number_positive}
use borrow.Author.Rules.{rules}
use Rattle.hd153108_write.proofs.zk_a_write.Goals as goal

ruleset ends = (writing, unserved, colour_written, overlay_written, register_served, rules)

pub returns-in-Err : goal.returns-in-Err
returns-in-Err c = search (stopped, writing, number_positive, rules)

pub data_write-requires : goal.data_write-requires
data_write-requires c = colour_room _ _ c.args.overlays.now c.in_default.ensures (search rules)

pub data_write-requires-in-3 : goal.data_write-requires-in-3
data_write-requires-in-3 c = overlay_room _ c.args.colours.now _ c.in_default.ensures

pub returns-in-0 : goal.returns-in-0
returns-in-0 c = search (c.in_default.ensures, ends)

pub returns-in-1 : goal.returns-in-1
returns-in-1 c = search (c.in_default.ensures, ends)

pub returns-in-3 : goal.returns-in-3
returns-in-3 c = search (c.in_default.ensures, ends)

pub returns-in-4 : goal.returns-in-4
returns-in-4 c = search (c.in_default.ensures, ends)

pub returns-in-5 : goal.returns-in-5
returns-in-5 c = search (c.in_default.ensures, ends)

pub returns-in-6 : goal.returns-in-6
returns-in-6 c = search (c.in_default.ensures, ends)

pub returns-in-7 : goal.returns-in-7
returns-in-7 c = search (c.in_default.ensures, ends)

pub returns-in_default-select : goal.returns-in_default-select
returns-in_default-select c = search (c.in_default.ensures, ends)
