-- `request::naming::knows` meets its contract.
use Rattle.request.proofs.NamingCases.{naming}
use Rattle.request.proofs.naming.knows.Goals as goal

pub known_parent-requires : goal.known_parent-requires
known_parent-requires c = search naming

pub known_in-requires : goal.known_in-requires
known_in-requires c = search naming
