-- `holdback::delivering::release` meets its contract.
use Rattle.soundness.proofs.SoundCases.{end_asks}
use Rattle.holdback.proofs.HoldbackCases.{holding}
use Rattle.holdback.proofs.delivering.release.Goals as goal

pub end_of-requires : goal.end_of-requires
end_of-requires c = end_asks _ (search holding)

pub returns : goal.returns
returns c = search holding
