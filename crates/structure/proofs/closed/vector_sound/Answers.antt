-- `structure::closed::vector_sound` meets its contract.
use Rattle.structure.proofs.TestLaws.{alone_asks, testing}
use Rattle.structure.proofs.closed.vector_sound.Goals as goal

pub own_alone-requires : goal.own_alone-requires
own_alone-requires c = alone_asks _ _ _ _ _ _ c.requires

pub returns-then-own_alone : goal.returns-then-own_alone
returns-then-own_alone c = search testing
