-- `tree::climb::move_kind` meets its contract.
use Rattle.tree.proofs.ClimbLaws.{move_cycle, move_down, move_up}
use Rattle.tree.proofs.climb.move_kind.Goals as goal

pub returns-in-Met : goal.returns-in-Met
returns-in-Met c = move_cycle _ _ _ _ c.in-Met.ensures

pub returns-then-depth-depth_of : goal.returns-then-depth-depth_of
returns-then-depth-depth_of c = move_up _ _ _ _ c.in-Missed.ensures _ c.depth_of.ensures c.if-depth-depth_of.true

pub returns-else-depth-depth_of : goal.returns-else-depth-depth_of
returns-else-depth-depth_of c = move_down _ _ _ _ c.in-Missed.ensures _ c.depth_of.ensures c.if-depth-depth_of.false
