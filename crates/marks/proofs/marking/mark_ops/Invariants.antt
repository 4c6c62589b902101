-- `marks::marking::mark_ops`: what its loop keeps.
use Rattle.marks.proofs.MarkingCases.{Marking}
use Rattle.marks.proofs.marking.mark_ops.Given as goal

abbrev pub invariant-loop-op : goal.invariant-loop-op
invariant-loop-op l = Marking l.file l.marks l.op-iterator.rest.now l.op-iterator.size
