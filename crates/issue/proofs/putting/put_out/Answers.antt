-- `issue::putting::put_out` meets its contract.
use Rattle.issue.proofs.IssueCases.{writable, put_added}
use Rattle.issue.proofs.putting.put_out.Goals as goal

pub write_out-requires : goal.write_out-requires
write_out-requires c = writable _ _ c.in_ok-end.ensures _ _ c.requires

pub returns : goal.returns
returns c = put_added _ _ c.in_ok-end.ensures _ _ _ _ c.write_out.ensures
