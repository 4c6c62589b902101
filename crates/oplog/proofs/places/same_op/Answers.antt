-- `oplog::places::same_op` meets its contract.
use Rattle.std.proofs.Common.{rules}
use Rattle.lists.proofs.LibraryLaws.{same_is}
use Rattle.oplog.proofs.places.same_op.Goals as goal

pub returns : goal.returns
returns c = rw same_is (search rules)
