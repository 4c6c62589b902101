-- `schedule::writing::Level::write_class` meets its contract.
use Rattle.schedule.proofs.WritingLaws.{class_starts, class_on}
use Rattle.schedule.proofs.writing.Level.write_class.Goals as goal

pub loop-s-init : goal.loop-s-init
loop-s-init c = class_starts _ _ _ _ _ _ _ c.requires

pub loop-s-preserved : goal.loop-s-preserved
loop-s-preserved c = class_on _ _ _ _ _ _ _ c.requires _ _ c.loop-s.invariant c.loop-s-test.true _ c.write_due.ensures
