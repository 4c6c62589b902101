-- `schedule::writing::Level::write` meets its contract.
use Rattle.schedule.proofs.WritingLaws.{level_starts}
use Rattle.schedule.proofs.writing.Level.write.Goals as goal

pub loop-class-init : goal.loop-class-init
loop-class-init c = level_starts _ _ _ _ c.requires
