use Rattle.std.proofs.Common.{refl}
use Rattle.ms622424.specs.Ms622424.{all_stored}
use Rattle.ms622424_store.proofs.Stores.{one_low, stored_next}
use Rattle.ms622424_store.proofs.store_row.Goals as goal

pub loop-place-init : goal.loop-place-init
unfolding all_stored
loop-place-init c = refl

pub store-requires : goal.store-requires
store-requires c = one_low c.args.places.now c.loop-place.place-index c.loop-place-test.true c.requires

pub loop-place-preserved : goal.loop-place-preserved
loop-place-preserved c =
    stored_next c.args.places.now _ c.loop-place.place-index c.loop-place-test.true c.store.ensures
    c.loop-place.invariant
