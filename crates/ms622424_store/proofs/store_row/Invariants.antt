-- The map is the lent one with the places passed stored.
use Rattle.std.proofs.Common.{◌≡◌, take}
use Rattle.ms622424.specs.Ms622424.{all_stored}
use Rattle.ms622424_places.specs.Places.{entries_in}
use Rattle.ms622424_store.proofs.store_row.Given as goal

abbrev pub invariant-loop-place : goal.invariant-loop-place
invariant-loop-place l = l.map ≡ all_stored (entries_in (take l.place-index l.places)) l.initial.map
