-- `oplog::header::header_right` meets its contract.
use Rattle.oplog.proofs.HeaderLaws.{heading}
use Rattle.oplog.proofs.header.header_right.Goals as goal

pub loop-i-init : goal.loop-i-init
loop-i-init c = search heading

pub loop-i-preserved : goal.loop-i-preserved
loop-i-preserved c = search heading
