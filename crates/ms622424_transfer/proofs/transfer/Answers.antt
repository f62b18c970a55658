-- The stores, and the first position past them, leave what `moves` leaves: law `transferred`. The stores ask that each
-- waiting entry's address is one of the map's (`in_map`).
use Rattle.std.proofs.Common.{arith}
use Rattle.ms622424_places.specs.Places.{colours}
use Rattle.ms622424_places.proofs.Places.{how_many}
use Rattle.ms622424_transfer.proofs.Moved.{transferred}
use Rattle.ms622424_transfer.proofs.transfer.Goals as goal

-- no more wait than there are places (`few`)
pub store_oldest-moved-requires : goal.store_oldest-moved-requires
unfolding colours
store_oldest-moved-requires c =
    let h = c.requires in
    let few = h.few in
    let many = how_many c.args.s.fifo c.args.queue.now in
    record { sizes = (h.first, omega arith); in_map = h.in_map }

pub returns : goal.returns
returns c =
    transferred c.args.slots _ c.args.s c.args.queue.now c.args.map.now _ _ _ c.requires
    c.store_oldest-moved.ensures.count c.store_oldest-moved.ensures.map_after (omega arith) (omega arith)
