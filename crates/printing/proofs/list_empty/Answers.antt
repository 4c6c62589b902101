-- `printing::list_empty` meets its contract.
use Rattle.printing.proofs.OutlineCases.{printing}
use Rattle.printing.proofs.list_empty.Goals as goal

pub returns : goal.returns
returns c = search printing
