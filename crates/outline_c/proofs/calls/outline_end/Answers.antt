-- `outline_c::calls::outline_end` meets its contract.
use native.Mathlib.Omega.{arith}
use Rattle.outline_c.proofs.NumberCases.{ended_fits}
use Rattle.outline_c.proofs.calls.outline_end.Goals as goal

pub number-requires : goal.number-requires
number-requires c = ended_fits _ _ c.file_end.ensures (omega arith)
