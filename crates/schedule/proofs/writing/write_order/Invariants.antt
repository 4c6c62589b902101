-- `schedule::writing::write_order`: what its loop keeps.
use Rattle.rules.specs.File.{log_of}
use Rattle.schedule.proofs.OrderLaws.{AtTime}
use Rattle.schedule.proofs.writing.write_order.Given as goal

abbrev pub invariant-loop-time : goal.invariant-loop-time
invariant-loop-time l = AtTime (log_of l.width l.file) l.cut l.schedule l.time l.done
