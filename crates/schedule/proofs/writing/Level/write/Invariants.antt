-- `schedule::writing::Level::write`: what its loop keeps.
use Rattle.schedule.proofs.WritingLaws.{AtClass}
use Rattle.schedule.proofs.writing.Level.write.Given as goal

abbrev pub invariant-loop-class : goal.invariant-loop-class
invariant-loop-class l = AtClass l.self.classes l.self.next l.self.time l.initial.schedule l.schedule l.class
