-- `view::lines::write_lines`: what its loop keeps.
use Rattle.view.proofs.LineCases.{Lining}
use Rattle.view.proofs.lines.write_lines.Given as goal

abbrev pub invariant-loop-visit : goal.invariant-loop-visit
invariant-loop-visit l = Lining l.order l.marks l.initial.out l.out l.pen l.visit-index
