-- `tree::climb::climb_to`: what its loops keep.
use Rattle.tree.proofs.ClimbLaws.{Climbing}
use Prim.Native.Nat.{◌+◌, ◌-◌}
use Rattle.rules.specs.Tree.{climb_to}
use Rattle.tree.proofs.climb.climb_to.Given as goal

abbrev pub invariant-loop-steps : goal.invariant-loop-steps
invariant-loop-steps l = Climbing l.parents l.parent l.node l.steps l.at

-- what is left of the steps: the loop makes no more of them
abbrev pub decreases-loop-steps : goal.decreases-loop-steps
decreases-loop-steps l = (climb_to l.parents l.parent l.node).steps + 1 - l.steps
