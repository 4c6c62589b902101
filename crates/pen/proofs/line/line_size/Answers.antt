-- `pen::line::line_size` meets its contract.
use Rattle.pen.proofs.DecimalCases.{decimals}
use Rattle.pen.proofs.line.line_size.Goals as goal

pub returns : goal.returns
returns c = search decimals
