-- `outline_c::bundles::outline_bundle_make` meets its contract.
use native.Mathlib.Omega.{arith}
use Rattle.outline_c.proofs.NumberCases.{bundled_fits}
use Rattle.outline_c.proofs.bundles.outline_bundle_make.Goals as goal

pub number-requires : goal.number-requires
number-requires c = bundled_fits _ _ _ _ _ c.make.ensures (omega arith)
