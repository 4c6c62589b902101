-- `schedule::writing::Level::write_class`: what its loop keeps.
use Rattle.schedule.proofs.WritingLaws.{AtReplica}
use Rattle.schedule.proofs.writing.Level.write_class.Given as goal

abbrev pub invariant-loop-s : goal.invariant-loop-s
invariant-loop-s l = AtReplica l.self.classes l.self.next l.self.time l.class l.initial.schedule l.schedule l.s
