-- `tour::hiding::reveal_slot` meets its contract.
use Rattle.tour.proofs.HidingCases.{hiding}
use Rattle.tour.proofs.hiding.reveal_slot.Goals as goal

pub returns-then-parents-slot : goal.returns-then-parents-slot
returns-then-parents-slot c = search hiding

pub returns-then-marks-slot-ne0 : goal.returns-then-marks-slot-ne0
returns-then-marks-slot-ne0 c = search hiding

pub returns : goal.returns
returns c = search hiding
