-- Every arm of the match by the laws of how an access ends.
use mathlib.Core.Path.{refl}
use Rattle.hd153108.specs.Hd153108.{register_at, answers}
use Rattle.hd153108.proofs.Access.{reading, stopped, unserved, served, kept, colour_room, overlay_room, pointer_low}
use Rattle.hd153108_read.proofs.Arms.{colour_read, overlay_read}
use Rattle.vocabulary.proofs.Refusals.{number_positive}
use borrow.Author.Rules.{rules}
use Rattle.hd153108_read.proofs.zk_a_read.Goals as goal

pub returns-in-Err : goal.returns-in-Err
returns-in-Err c = search (stopped, reading, number_positive, rules)

pub data_read-requires : goal.data_read-requires
data_read-requires c =
    (colour_room _ _ c.args.overlays.now c.in_default.ensures (search rules), pointer_low _ _ _ c.in_default.ensures)

pub data_read-requires-in-3 : goal.data_read-requires-in-3
data_read-requires-in-3 c =
    (overlay_room _ c.args.colours.now _ c.in_default.ensures, pointer_low _ _ _ c.in_default.ensures)

pub returns-in-0 : goal.returns-in-0
unfolding register_at answers
returns-in-0 c = served _ _ _ _ reading c.in_default.ensures _ _ c.in-0.is c.accepted.ensures refl refl refl

pub returns-in-1 : goal.returns-in-1
returns-in-1 c = search (c.in_default.ensures, colour_read, rules)

pub returns-in-3 : goal.returns-in-3
returns-in-3 c = search (c.in_default.ensures, overlay_read, rules)

pub returns-in-4 : goal.returns-in-4
unfolding register_at answers
returns-in-4 c = kept _ _ _ _ reading c.in_default.ensures c.in-4.is c.accepted-in-4.ensures refl refl

pub returns-in-5 : goal.returns-in-5
unfolding register_at answers
returns-in-5 c = kept _ _ _ _ reading c.in_default.ensures c.in-5.is c.accepted-in-5.ensures refl refl

pub returns-in-6 : goal.returns-in-6
unfolding register_at answers
returns-in-6 c = kept _ _ _ _ reading c.in_default.ensures c.in-6.is c.accepted-in-6.ensures refl refl

pub returns-in-7 : goal.returns-in-7
unfolding register_at answers
returns-in-7 c = kept _ _ _ _ reading c.in_default.ensures c.in-7.is c.accepted-in-7.ensures refl refl

pub returns-in_default-select : goal.returns-in_default-select
returns-in_default-select c = search (c.in_default.ensures, reading, unserved, rules)
