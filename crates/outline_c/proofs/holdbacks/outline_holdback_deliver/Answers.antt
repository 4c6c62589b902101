-- `outline_c::holdbacks::outline_holdback_deliver` meets its contract.
use Rattle.outline_c.proofs.NumberCases.{numbering}
use Rattle.outline_c.proofs.holdbacks.outline_holdback_deliver.Goals as goal

pub number-requires : goal.number-requires
number-requires c = search numbering
