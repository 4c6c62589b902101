-- `delivery::delivering::answer_new` meets its contract.
use Rattle.delivery.proofs.DeliverCases.{delivering}
use Rattle.delivery.proofs.delivering.answer_new.Goals as goal

pub closed_in-requires : goal.closed_in-requires
closed_in-requires c = search delivering

pub names-requires : goal.names-requires
names-requires c = search delivering
