-- `issue::putting::write_out` meets its contract.
use Rattle.issue.proofs.IssueCases.{issuing}
use Rattle.issue.proofs.putting.write_out.Goals as goal

pub accept-requires : goal.accept-requires
accept-requires c = search issuing

pub returns : goal.returns
returns c = search issuing
