-- `view::paths::write_path` meets its contract.
use Rattle.view.proofs.PathCases.{paths}
use Rattle.view.proofs.paths.write_path.Goals as goal

pub loop-i-preserved : goal.loop-i-preserved
loop-i-preserved c = search paths

pub returns : goal.returns
returns c = search paths
