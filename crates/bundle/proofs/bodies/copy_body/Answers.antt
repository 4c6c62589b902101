-- `bundle::bodies::copy_body` meets its contract.
use Rattle.bundle.proofs.BodyCases.{bodying}
use Rattle.bundle.proofs.bodies.copy_body.Goals as goal

pub overflow_add-to : goal.overflow_add-to
overflow_add-to c = search bodying

pub overflow_add-end : goal.overflow_add-end
overflow_add-end c = search bodying

pub slice_bounds-put_front-count : goal.slice_bounds-put_front-count
slice_bounds-put_front-count c = search bodying

pub slice_bounds-put_front-start : goal.slice_bounds-put_front-start
slice_bounds-put_front-start c = search bodying

pub slice_bounds-put_front-end : goal.slice_bounds-put_front-end
slice_bounds-put_front-end c = search bodying

pub slice_bounds-put_front-count-2 : goal.slice_bounds-put_front-count-2
slice_bounds-put_front-count-2 c = search bodying

pub slice_bounds-put_front-start-2 : goal.slice_bounds-put_front-start-2
slice_bounds-put_front-start-2 c = search bodying

pub slice_bounds-put_front-end-2 : goal.slice_bounds-put_front-end-2
slice_bounds-put_front-end-2 c = search bodying

pub put_front-requires : goal.put_front-requires
put_front-requires c = search bodying

pub shape_of-out : goal.shape_of-out
shape_of-out c = search bodying

pub returns : goal.returns
returns c = search bodying
