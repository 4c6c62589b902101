-- `outline_c::calls::outline_deliver` meets its contract.
use native.Mathlib.Omega.{arith}
use Rattle.outline_c.proofs.NumberCases.{delivered_fits}
use Rattle.outline_c.proofs.calls.outline_deliver.Goals as goal

pub number-requires : goal.number-requires
number-requires c = delivered_fits _ _ _ _ c.deliver.ensures (omega arith)
