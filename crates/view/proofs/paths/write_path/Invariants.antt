-- `view::paths::write_path`: what its loops keep.
use Rattle.view.proofs.PathCases.{Pathing}
use Rattle.view.proofs.paths.write_path.Given as goal

abbrev pub invariant-loop-i : goal.invariant-loop-i
invariant-loop-i l = Pathing l.parents l.node l.steps l.initial.out l.out l.at l.i
