-- `structure::sound::structural` meets its contract.
use Rattle.structure.proofs.TestLaws.{header_of, testing}
use Rattle.structure.proofs.sound.structural.Goals as goal

pub counts_of-requires : goal.counts_of-requires
counts_of-requires c = header_of _ _ (search testing)
