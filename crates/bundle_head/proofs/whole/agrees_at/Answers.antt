-- `bundle_head::whole::agrees_at` meets its contract.
use Rattle.bundle_head.proofs.WholeCases.{testing}
use Rattle.bundle_head.proofs.whole.agrees_at.Goals as goal

pub returns : goal.returns
returns c = search testing
