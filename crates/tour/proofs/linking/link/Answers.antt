-- `tour::linking::link` meets its contract.
use Rattle.tour.proofs.LinkingCases.{linking}
use Rattle.tour.proofs.linking.link.Goals as goal

pub loop-i-init : goal.loop-i-init
loop-i-init c = search linking

pub overflow_sub-i : goal.overflow_sub-i
overflow_sub-i c = search linking

pub link_slot-requires : goal.link_slot-requires
link_slot-requires c = search linking

pub overflow_step-i : goal.overflow_step-i
overflow_step-i c = search linking

pub loop-i-smaller : goal.loop-i-smaller
loop-i-smaller c = search linking

pub loop-i-preserved : goal.loop-i-preserved
loop-i-preserved c = search linking

pub shape_of-first : goal.shape_of-first
shape_of-first c = search linking

pub shape_of-next : goal.shape_of-next
shape_of-next c = search linking

pub returns : goal.returns
returns c = search linking
