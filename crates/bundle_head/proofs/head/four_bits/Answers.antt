-- `bundle_head::head::four_bits` meets its contract.
use Rattle.bundle_head.proofs.HeadCases.{heading, four_are}
use Rattle.bundle_head.proofs.head.four_bits.Goals as goal

pub returns : goal.returns
returns c = four_are _ _ _ _ _ _ _ _ (search heading) (search heading) (search heading) (search heading)
