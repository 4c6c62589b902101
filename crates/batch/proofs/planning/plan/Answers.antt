-- `batch::planning::plan` meets its contract.
use Rattle.soundness.proofs.SoundCases.{header_of}
use Rattle.batch.proofs.PutCases.{putting}
use Rattle.batch.proofs.planning.plan.Goals as goal

pub counts_of-held-requires : goal.counts_of-held-requires
counts_of-held-requires c = header_of _ (search putting)

pub plan_all-requires : goal.plan_all-requires
plan_all-requires c = search putting
