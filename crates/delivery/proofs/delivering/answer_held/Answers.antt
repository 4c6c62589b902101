-- `delivery::delivering::answer_held` meets its contract.
use Rattle.delivery.proofs.DeliverCases.{delivering}
use Rattle.delivery.proofs.delivering.answer_held.Goals as goal

pub place-at-requires : goal.place-at-requires
place-at-requires c = search delivering
