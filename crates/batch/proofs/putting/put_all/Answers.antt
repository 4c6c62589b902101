-- `batch::putting::put_all` meets its contract.
use Rattle.soundness.proofs.SoundCases.{header_of}
use Rattle.batch.proofs.PutCases.{putting}
use Rattle.batch.proofs.putting.put_all.Goals as goal

pub counts_of-counts-requires : goal.counts_of-counts-requires
counts_of-counts-requires c = header_of _ (search putting)

pub append_ops-requires : goal.append_ops-requires
append_ops-requires c = search putting

pub returns : goal.returns
returns c = search putting
