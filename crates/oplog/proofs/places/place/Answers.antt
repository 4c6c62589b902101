-- `oplog::places::place` meets its contract.
use Rattle.oplog.proofs.FieldLaws.{placing}
use Rattle.oplog.proofs.places.place.Goals as goal

pub start_at-requires : goal.start_at-requires
start_at-requires c = search placing

pub overflow_add-result : goal.overflow_add-result
overflow_add-result c = search placing

pub returns : goal.returns
returns c = search placing
