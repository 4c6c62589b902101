-- `undo::keeping::Undoable::new` meets its contract.
use Rattle.std.proofs.Common.{ap}
use Rattle.std.specs.Prelude.{replicate}
use Rattle.rules.specs.Tree.{slots}
use Rattle.rules.specs.Replay.{State}
use Rattle.order.specs.Undo.{unjudged}
use Rattle.undo.proofs.keeping.Undoable.new.Goals as goal

pub returns : goal.returns
unfolding unjudged
returns c = ap (λ (st : State). record { state = st; took = replicate slots 0; was = replicate slots 0 }) c.start.ensures
