-- `outline_c::calls::outline_judge` meets its contract.
use Rattle.outline_c.proofs.NumberCases.{numbering}
use Rattle.outline_c.proofs.calls.outline_judge.Goals as goal

pub number-requires : goal.number-requires
number-requires c = search numbering
