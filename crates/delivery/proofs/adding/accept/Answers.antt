-- `delivery::adding::accept` meets its contract.
use Rattle.delivery.proofs.AddCases.{adding}
use Rattle.delivery.proofs.adding.accept.Goals as goal

pub append_ops-requires : goal.append_ops-requires
append_ops-requires c = search adding

pub returns : goal.returns
returns c = search adding
