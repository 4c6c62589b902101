-- `tour::hiding::reveal_all` meets its contract.
use Rattle.tour.proofs.HidingCases.{hiding}
use Rattle.tour.proofs.hiding.reveal_all.Goals as goal

pub loop-slot-preserved : goal.loop-slot-preserved
loop-slot-preserved c = search hiding

pub returns : goal.returns
returns c = search hiding
