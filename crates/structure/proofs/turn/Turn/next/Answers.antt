-- `structure::turn::Turn::next` meets its contract.
use Rattle.structure.proofs.WalkLaws.{walking}
use Rattle.structure.proofs.turn.Turn.next.Goals as goal

pub overflow_add-result : goal.overflow_add-result
overflow_add-result c = search walking

pub vector_at-requires : goal.vector_at-requires
vector_at-requires c = search walking

pub returns-then-self-count_at : goal.returns-then-self-count_at
returns-then-self-count_at c = search walking

pub returns-else-self-count_at : goal.returns-else-self-count_at
returns-else-self-count_at c = search walking
