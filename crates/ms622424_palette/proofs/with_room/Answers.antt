-- `make_room` promises the room, `take_byte` the byte taken on what that left, and `palette_written` joins the two.
-- The free place that `take_byte` asks is there once room is made (`has_room`).
use Rattle.std.proofs.Common.{ap, ◌∙◌}
use Rattle.ms622424.proofs.Write.{palette_written}
use Rattle.ms622424_places.specs.declared.Answer.{Answer}
use Rattle.ms622424_places.specs.Places.{seen, outcome}
use Rattle.ms622424_places.proofs.Does.{has_room}
use Rattle.ms622424_palette.proofs.with_room.Goals as goal

pub take_byte-requires : goal.take_byte-requires
take_byte-requires c = has_room _ _ c.make_room-m.new.map _ _ c.requires c.make_room-m.ensures

pub returns : goal.returns
returns c =
    let r = c.make_room-m in
    let t = c.take_byte in
    ap (λ (x : Answer). seen (outcome x t.new.queue r.new.map)) c.accepted.ensures
    ∙ palette_written _ _ r.ensures (t.ensures r.new.map)
