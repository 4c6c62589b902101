-- `bundle_head::whole::head_size` meets its contract.
use Rattle.bundle_head.proofs.WholeCases.{testing, size_told}
use Rattle.bundle_head.proofs.whole.head_size.Goals as goal

pub returns : goal.returns
returns c = size_told _ _ (search testing)
