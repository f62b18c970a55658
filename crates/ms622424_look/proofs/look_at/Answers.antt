-- Past what is tried first the map is whole, and a place from 0x10000 on has its byte.
use Rattle.std.proofs.Common.{rules, arith}
use Rattle.ms622424_look.proofs.Places.{map_whole, told_byte}
use Rattle.ms622424_look.proofs.look_at.Goals as goal

pub unwrap-map-requires : goal.unwrap-map-requires
unwrap-map-requires c = c.as_array.ensures.variant.1 (map_whole _ c.args.queue.now _ c.in_ok-standing_tables.ensures)

pub returns-in-65536-to-90111 : goal.returns-in-65536-to-90111
returns-in-65536-to-90111 c =
    told_byte _ c.args.queue.now c.args.map.now _ c.in_ok-standing_tables.ensures (omega arith) (omega arith) _
    (search rules)
