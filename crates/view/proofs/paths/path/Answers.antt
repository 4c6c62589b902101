-- `view::paths::path` meets its contract.
use Rattle.soundness.proofs.SoundCases.{header_of}
use Rattle.view.proofs.PathCases.{paths}
use Rattle.view.proofs.paths.path.Goals as goal

pub returns-then-not-is_sound : goal.returns-then-not-is_sound
returns-then-not-is_sound c = search paths

pub counts_of-counts-requires : goal.counts_of-counts-requires
counts_of-counts-requires c = header_of _ (search paths)

pub known_parent-requires : goal.known_parent-requires
known_parent-requires c = search paths

pub returns-then-not-known_parent : goal.returns-then-not-known_parent
returns-then-not-known_parent c = search paths

pub put_path_now-requires : goal.put_path_now-requires
put_path_now-requires c = search paths
