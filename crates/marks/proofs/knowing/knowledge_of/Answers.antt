-- `marks::knowing::knowledge_of` meets its contract.
use Rattle.marks.proofs.KnowingCases.{knowing}
use Rattle.marks.proofs.knowing.knowledge_of.Goals as goal

pub known_in-requires : goal.known_in-requires
known_in-requires c = search knowing

pub returns-then-not-known_in : goal.returns-then-not-known_in
returns-then-not-known_in c = search knowing

pub bounds-marks-slot : goal.bounds-marks-slot
bounds-marks-slot c = search knowing

pub returns-then-marks-slot-eq0 : goal.returns-then-marks-slot-eq0
returns-then-marks-slot-eq0 c = search knowing

pub returns : goal.returns
returns c = search knowing
