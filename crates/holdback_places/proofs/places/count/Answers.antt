-- `holdback_places::places::count` meets its contract.
use Rattle.holdback_places.proofs.PlaceCases.{placing}
use Rattle.holdback_places.proofs.places.count.Goals as goal

pub bounds-holdback-0 : goal.bounds-holdback-0
bounds-holdback-0 c = search placing
