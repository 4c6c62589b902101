-- `holdback::searching::meet_at` meets its contract.
use Rattle.holdback.proofs.SearchCases.{meets}
use Rattle.holdback.proofs.searching.meet_at.Goals as goal

pub overflow_mul-at : goal.overflow_mul-at
overflow_mul-at c = search meets

pub overflow_add-at : goal.overflow_add-at
overflow_add-at c = search meets

pub overflow_add-to : goal.overflow_add-to
overflow_add-to c = search meets

pub slice_bounds-meet-count : goal.slice_bounds-meet-count
slice_bounds-meet-count c = search meets

pub slice_bounds-meet-start : goal.slice_bounds-meet-start
slice_bounds-meet-start c = search meets

pub slice_bounds-meet-end : goal.slice_bounds-meet-end
slice_bounds-meet-end c = search meets

pub meet-requires : goal.meet-requires
meet-requires c = search meets

pub shape_of-buf : goal.shape_of-buf
shape_of-buf c = search meets

pub returns : goal.returns
returns c = search meets
