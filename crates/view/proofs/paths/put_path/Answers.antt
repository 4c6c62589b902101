-- `view::paths::put_path` meets its contract.
use Rattle.view.proofs.PathCases.{paths}
use Rattle.view.proofs.paths.put_path.Goals as goal

pub returns-then-out-steps : goal.returns-then-out-steps
returns-then-out-steps c = search paths

pub returns : goal.returns
returns c = search paths
