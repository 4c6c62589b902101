-- `view::lines::write_lines` meets its contract.
use Rattle.view.proofs.LineCases.{lining}
use Rattle.view.proofs.lines.write_lines.Goals as goal

pub loop-visit-init : goal.loop-visit-init
loop-visit-init c = search lining

pub lend_line-pen-requires : goal.lend_line-pen-requires
lend_line-pen-requires c = search lining

pub loop-visit-preserved : goal.loop-visit-preserved
loop-visit-preserved c = search lining
