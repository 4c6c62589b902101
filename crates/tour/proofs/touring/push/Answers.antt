-- `tour::touring::push` meets its contract.
use Rattle.tour.proofs.TouringCases.{touring}
use Rattle.tour.proofs.touring.push.Goals as goal

pub returns-then-node-eq0 : goal.returns-then-node-eq0
returns-then-node-eq0 c = search touring

pub returns : goal.returns
returns c = search touring
