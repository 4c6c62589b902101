-- `undo::carrying::carry` meets its contract.
use Rattle.undo.proofs.CarryLaws.{carries, rest_asks}
use Rattle.undo.proofs.keeping.Undoable.carry.Goals as goal

pub take_back-taken-requires : goal.take_back-taken-requires
take_back-taken-requires c = rest_asks _ _ _ _ _ _ c.requires

pub judge_along-requires : goal.judge_along-requires
judge_along-requires c = rest_asks _ _ _ _ _ _ c.requires

pub returns : goal.returns
returns c = (
  carries _ _ _ _ _ _ c.requires _ c.take_back-taken.ensures.0 _ c.judge_along.ensures,
  c.take_back-taken.ensures.1,
)
