-- `tour::touring::tour` meets its contract.
use Rattle.tour.proofs.TouringCases.{touring}
use Rattle.tour.proofs.touring.tour.Goals as goal

pub loop-i-init : goal.loop-i-init
loop-i-init c = search touring

pub returns-then-top-eq-STACK : goal.returns-then-top-eq-STACK
returns-then-top-eq-STACK c = search touring

pub advance-top-requires : goal.advance-top-requires
advance-top-requires c = search touring

pub loop-i-preserved : goal.loop-i-preserved
loop-i-preserved c = search touring

pub returns : goal.returns
returns c = search touring
