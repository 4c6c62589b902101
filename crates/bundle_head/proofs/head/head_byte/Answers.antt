-- `bundle_head::head::head_byte` meets its contract.
use Rattle.bundle_head.proofs.HeadCases.{heading}
use Rattle.bundle_head.proofs.head.head_byte.Goals as goal

pub returns : goal.returns
returns c = search heading
