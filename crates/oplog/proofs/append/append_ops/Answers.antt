-- `oplog::append::append_ops` meets its contract.
use Rattle.oplog.proofs.InsertLaws.{appending}
use Rattle.oplog.proofs.append.append_ops.Goals as goal

pub end_of-place-requires : goal.end_of-place-requires
end_of-place-requires c = search appending

pub end_of-end-requires : goal.end_of-end-requires
end_of-end-requires c = search appending

pub put_ops-requires : goal.put_ops-requires
put_ops-requires c = (search appending, search appending, search appending, search appending)

pub returns : goal.returns
returns c = search appending
