-- `outline_c::bundles::outline_bundle_open` meets its contract.
use native.Mathlib.Omega.{arith}
use Rattle.outline_c.proofs.NumberCases.{opened_fits}
use Rattle.outline_c.proofs.bundles.outline_bundle_open.Goals as goal

pub number-requires : goal.number-requires
number-requires c = opened_fits _ _ _ _ c.open.ensures (omega arith)
