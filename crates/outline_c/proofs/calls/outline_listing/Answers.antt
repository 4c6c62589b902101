-- `outline_c::calls::outline_listing` meets its contract.
use native.Mathlib.Omega.{arith}
use Rattle.outline_c.proofs.NumberCases.{listing_written}
use Rattle.outline_c.proofs.calls.outline_listing.Goals as goal

pub number-requires : goal.number-requires
number-requires c = listing_written _ _ _ _ _ c.listing.ensures (omega arith)
