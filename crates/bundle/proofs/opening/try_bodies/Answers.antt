-- `bundle::opening::try_bodies` meets its contract.
use Rattle.bundle.proofs.OpenCases.{opening}
use Rattle.bundle.proofs.opening.try_bodies.Goals as goal

pub take_bodies-requires : goal.take_bodies-requires
take_bodies-requires c = search opening

pub returns : goal.returns
returns c = search opening
