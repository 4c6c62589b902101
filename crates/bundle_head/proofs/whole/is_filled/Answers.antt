-- `bundle_head::whole::is_filled` meets its contract.
use Rattle.bundle_head.proofs.WholeCases.{testing}
use Rattle.bundle_head.proofs.whole.is_filled.Goals as goal

pub returns-then-bundle-size : goal.returns-then-bundle-size
returns-then-bundle-size c = search testing

pub returns : goal.returns
returns c = search testing
