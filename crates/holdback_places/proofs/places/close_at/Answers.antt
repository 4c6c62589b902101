-- `holdback_places::places::close_at` meets its contract.
use Rattle.holdback_places.proofs.PlaceCases.{placing}
use Rattle.holdback_places.proofs.places.close_at.Goals as goal

pub slice_bounds-close_up-count : goal.slice_bounds-close_up-count
slice_bounds-close_up-count c = search placing

pub slice_bounds-close_up-start : goal.slice_bounds-close_up-start
slice_bounds-close_up-start c = search placing

pub slice_bounds-close_up-end : goal.slice_bounds-close_up-end
slice_bounds-close_up-end c = search placing

pub close_up-requires : goal.close_up-requires
close_up-requires c = search placing

pub shape_of-holdback : goal.shape_of-holdback
shape_of-holdback c = search placing

pub returns : goal.returns
returns c = search placing
