-- `structure::turn::Turn::next_place` meets its contract.
use Rattle.structure.proofs.WalkLaws.{walking}
use Rattle.structure.proofs.turn.Turn.next_place.Goals as goal

pub overflow_add-result : goal.overflow_add-result
overflow_add-result c = search walking
