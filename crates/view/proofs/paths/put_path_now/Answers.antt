-- `view::paths::put_path_now` meets its contract.
use Rattle.view.proofs.PathCases.{paths}
use Rattle.view.proofs.paths.put_path_now.Goals as goal

pub replay_all-requires : goal.replay_all-requires
replay_all-requires c = search paths

pub put_path-requires : goal.put_path-requires
put_path-requires c = search paths

pub returns : goal.returns
returns c = search paths
