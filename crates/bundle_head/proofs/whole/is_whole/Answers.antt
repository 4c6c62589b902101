-- `bundle_head::whole::is_whole` meets its contract.
use Rattle.bundle_head.proofs.WholeCases.{testing}
use Rattle.bundle_head.proofs.whole.is_whole.Goals as goal

pub returns-then-bundle-eq0 : goal.returns-then-bundle-eq0
returns-then-bundle-eq0 c = search testing

pub returns-then-bundle-size : goal.returns-then-bundle-size
returns-then-bundle-size c = search testing

pub returns-then-not-none_zero : goal.returns-then-not-none_zero
returns-then-not-none_zero c = search testing

pub returns : goal.returns
returns c = search testing
