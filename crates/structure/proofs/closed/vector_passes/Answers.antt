-- `structure::closed::vector_passes` meets its contract.
use Rattle.structure.proofs.TestLaws.{testing}
use Rattle.structure.proofs.closed.vector_passes.Goals as goal

pub returns-then-from-sequence : goal.returns-then-from-sequence
returns-then-from-sequence c = search testing

pub is_risen-requires : goal.is_risen-requires
is_risen-requires c = search testing

pub returns-then-within : goal.returns-then-within
returns-then-within c = search testing

pub returns-else-within : goal.returns-else-within
returns-else-within c = search testing
