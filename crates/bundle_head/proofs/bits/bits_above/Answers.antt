-- `bundle_head::bits::bits_above` meets its contract.
use Rattle.bundle_head.proofs.BitLaws.{bits_above_are}
use Rattle.bundle_head.proofs.bits.bits_above.Goals as goal

pub returns : goal.returns
returns c = bits_above_are _
