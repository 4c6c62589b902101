-- `holdback_places::places::is_holdback` meets its contract.
use Rattle.holdback_places.proofs.PlaceCases.{placing}
use Rattle.holdback_places.proofs.places.is_holdback.Goals as goal

pub returns-then-bytes : goal.returns-then-bytes
returns-then-bytes c = search placing

pub returns-then-n-gt-PLACES : goal.returns-then-n-gt-PLACES
returns-then-n-gt-PLACES c = search placing

pub returns : goal.returns
returns c = search placing
