-- `batch::putting::issue_all` meets its contract.
use Rattle.soundness.proofs.SoundCases.{end_asks}
use Rattle.batch.proofs.PutCases.{putting}
use Rattle.batch.proofs.putting.issue_all.Goals as goal

pub end_of-requires : goal.end_of-requires
end_of-requires c = end_asks _ (search putting)
