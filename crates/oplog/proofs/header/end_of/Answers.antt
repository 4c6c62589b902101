-- `oplog::header::end_of` meets its contract.
use Rattle.oplog.proofs.HeaderLaws.{heading}
use Rattle.oplog.proofs.header.end_of.Goals as goal

pub overflow_add-result : goal.overflow_add-result
overflow_add-result c = search heading

pub returns : goal.returns
returns c = search heading
