-- `holdback_places::places::free_place` meets its contract.
use Rattle.holdback_places.proofs.PlaceCases.{placing}
use Rattle.holdback_places.proofs.places.free_place.Goals as goal

pub bounds-holdback-0 : goal.bounds-holdback-0
bounds-holdback-0 c = search placing

pub overflow_mul-at : goal.overflow_mul-at
overflow_mul-at c = search placing

pub overflow_add-at : goal.overflow_add-at
overflow_add-at c = search placing

pub close_at-requires : goal.close_at-requires
close_at-requires c = search placing

pub overflow_sub-holdback : goal.overflow_sub-holdback
overflow_sub-holdback c = search placing

pub bounds-holdback-0-2 : goal.bounds-holdback-0-2
bounds-holdback-0-2 c = search placing

pub shape_of-holdback : goal.shape_of-holdback
shape_of-holdback c = search placing

pub returns : goal.returns
returns c = search placing
