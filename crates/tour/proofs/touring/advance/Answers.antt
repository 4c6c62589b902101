-- `tour::touring::advance` meets its contract.
use Rattle.tour.proofs.TouringCases.{touring}
use Rattle.tour.proofs.touring.advance.Goals as goal

pub push-rest-requires : goal.push-rest-requires
push-rest-requires c = search touring

pub push-requires : goal.push-requires
push-requires c = search touring

pub returns : goal.returns
returns c = search touring
