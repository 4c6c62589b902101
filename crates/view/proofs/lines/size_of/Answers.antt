-- `view::lines::size_of` meets its contract.
use Rattle.view.proofs.LineCases.{lining}
use Rattle.view.proofs.lines.size_of.Goals as goal

pub loop-visit-init : goal.loop-visit-init
loop-visit-init c = search lining

pub loop-visit-preserved : goal.loop-visit-preserved
loop-visit-preserved c = search lining
