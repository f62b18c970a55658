-- No call where the entry is missing; else its address write, and its colour in the rest of the buffer, which is lent on.
use Rattle.std.proofs.Common.{rules}
use Rattle.calls.proofs.Lent.{entry_none, address_fits, address_inside, colour_fits, entry_wrote}
use Rattle.calls_entry.proofs.put_entry.Goals as goal

pub returns-in_default : goal.returns-in_default
returns-in_default c = rw c.in_default.is (entry_none c.args.select c.args.entry c.args.follows _)

pub put_address-n-requires : goal.put_address-n-requires
put_address-n-requires c =
    address_fits c.args.select c.args.entry c.args.follows c.in-Some.v c.args.out.now (rw c.in-Some.is at c.requires)

pub put_colour-requires : goal.put_colour-requires
put_colour-requires c =
    colour_fits c.args.select c.args.entry c.args.follows c.in-Some.v c.args.out.now
    (rw c.in-Some.is at c.requires) c.put_address-n.ensures

pub returns : goal.returns
returns c =
    rw c.in-Some.is
    (entry_wrote c.args.select c.args.entry c.args.follows c.in-Some.v c.args.out.now
    (rw c.in-Some.is at c.requires) c.put_address-n.ensures c.put_colour.ensures)

pub slice_bounds-put_colour-count : goal.slice_bounds-put_colour-count
slice_bounds-put_colour-count c =
    address_inside c.args.select c.args.entry c.args.follows c.in-Some.v c.args.out.now
    (rw c.in-Some.is at c.requires) c.put_address-n.ensures

pub slice_bounds-put_colour-start : goal.slice_bounds-put_colour-start
slice_bounds-put_colour-start c =
    let h =
    address_inside c.args.select c.args.entry c.args.follows c.in-Some.v c.args.out.now
    (rw c.in-Some.is at c.requires) c.put_address-n.ensures in
    search rules

pub overflow_add-result : goal.overflow_add-result
overflow_add-result c =
    let h = rw c.in-Some.is at c.requires in
    let w =
    entry_wrote c.args.select c.args.entry c.args.follows c.in-Some.v c.args.out.now h c.put_address-n.ensures
    c.put_colour.ensures in
    let e = w.0 in
    search rules
