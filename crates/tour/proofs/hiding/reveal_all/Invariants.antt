-- `tour::hiding::reveal_all`: what its loops keep.
use Rattle.tour.proofs.HidingCases.{HidingFrom}
use Rattle.tour.proofs.hiding.reveal_all.Given as goal

abbrev pub invariant-loop-slot : goal.invariant-loop-slot
invariant-loop-slot l = HidingFrom l.parents l.marks l.initial.hidden l.hidden l.slot
