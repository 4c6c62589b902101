-- `batch::planning::plan_next` meets its contract.
use mathlib.Core.Path.{refl}
use Rattle.batch.proofs.DraftCases.{drawable, next_put}
use Rattle.batch.proofs.planning.plan_next.Goals as goal

pub put_next-requires : goal.put_next-requires
put_next-requires c = drawable _ _ _ _ c.requires _ _ _ c.in_ok-draft.ensures _ refl

pub returns : goal.returns
returns c = next_put _ _ _ _ _ _ _ _ c.in_ok-draft.ensures _ c.put_next.ensures
