-- `tour::hiding::reveal`: what its loops keep.
use Rattle.tour.proofs.HidingCases.{Revealing}
use Rattle.tour.proofs.hiding.reveal.Given as goal

abbrev pub invariant-loop-i : goal.invariant-loop-i
invariant-loop-i l = Revealing l.parents l.initial.hidden l.node l.hidden l.at l.i
