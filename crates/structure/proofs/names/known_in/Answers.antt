-- `structure::names::known_in` meets its contract.
use Rattle.structure.proofs.TestLaws.{testing}
use Rattle.structure.proofs.names.known_in.Goals as goal

pub place-at-requires : goal.place-at-requires
place-at-requires c = search testing
