-- `tour::touring::tour`: what its loops keep.
use Rattle.tour.proofs.TouringCases.{Touring}
use Rattle.tour.proofs.touring.tour.Given as goal

abbrev pub invariant-loop-i : goal.invariant-loop-i
invariant-loop-i l = Touring l.first l.next l.initial.order l.order l.stack l.top l.i
