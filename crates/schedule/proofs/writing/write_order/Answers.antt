-- `schedule::writing::write_order` meets its contract.
use Rattle.schedule.proofs.OrderLaws.{next_asks}
use Rattle.schedule.proofs.writing.write_order.Goals as goal

pub classes_of-classes-requires : goal.classes_of-classes-requires
classes_of-classes-requires c = next_asks _ _ _ c.requires _ _ _ c.loop-time.invariant _ c.next_ops-next.ensures
