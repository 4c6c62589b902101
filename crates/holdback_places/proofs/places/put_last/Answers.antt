-- `holdback_places::places::put_last` meets its contract.
use Rattle.holdback_places.proofs.PlaceCases.{placing}
use Rattle.holdback_places.proofs.places.put_last.Goals as goal

pub bounds-holdback-0 : goal.bounds-holdback-0
bounds-holdback-0 c = search placing

pub put_at-requires : goal.put_at-requires
put_at-requires c = search placing

pub bounds-holdback-0-2 : goal.bounds-holdback-0-2
bounds-holdback-0-2 c = search placing

pub returns : goal.returns
returns c = search placing
