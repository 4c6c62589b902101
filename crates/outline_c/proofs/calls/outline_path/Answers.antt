-- `outline_c::calls::outline_path` meets its contract.
use native.Mathlib.Omega.{arith}
use Rattle.outline_c.proofs.NumberCases.{path_written}
use Rattle.outline_c.proofs.calls.outline_path.Goals as goal

pub number-requires : goal.number-requires
number-requires c = path_written _ _ _ _ _ c.path.ensures (omega arith)
