-- `tour::hiding::reveal` meets its contract.
use Rattle.tour.proofs.HidingCases.{hiding}
use Rattle.tour.proofs.hiding.reveal.Goals as goal

pub returns-then-hidden-slot-eq0 : goal.returns-then-hidden-slot-eq0
returns-then-hidden-slot-eq0 c = search hiding

pub loop-i-preserved : goal.loop-i-preserved
loop-i-preserved c = search hiding

pub returns : goal.returns
returns c = search hiding
