-- `view::lines::size_of`: what its loop keeps.
use Rattle.view.proofs.LineCases.{Sizing}
use Rattle.view.proofs.lines.size_of.Given as goal

abbrev pub invariant-loop-visit : goal.invariant-loop-visit
invariant-loop-visit l = Sizing l.order l.size l.visit-index
