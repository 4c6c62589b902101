-- `bundle_head::head::bit_of` meets its contract.
use Rattle.bundle_head.proofs.HeadCases.{bit_is}
use Rattle.bundle_head.proofs.head.bit_of.Goals as goal

pub returns : goal.returns
returns c = bit_is c.args.count c.from.result c.from.ensures
