-- `tour::linking::link_slot` meets its contract.
use Rattle.tour.proofs.LinkingCases.{linking}
use Rattle.tour.proofs.linking.link_slot.Goals as goal

pub returns-then-parent : goal.returns-then-parent
returns-then-parent c = search linking

pub returns-then-hidden-slot-ne0 : goal.returns-then-hidden-slot-ne0
returns-then-hidden-slot-ne0 c = search linking

pub returns : goal.returns
returns c = search linking
