-- `outline_c::calls::outline_make` meets its contract.
use Rattle.outline_c.proofs.NumberCases.{numbering}
use Rattle.outline_c.proofs.calls.outline_make.Goals as goal

pub number-requires : goal.number-requires
number-requires c = search numbering
