-- `batch::planning::plan_all`: what its loops keep.
use Prim.Native.Nat.{◌-◌}
use Rattle.batch.proofs.PlanCases.{PlannedTo}
use Rattle.batch.proofs.planning.plan_all.Given as goal

abbrev pub invariant-loop-i : goal.invariant-loop-i
invariant-loop-i l =
    let b = l.batch in
    PlannedTo b.file.now b.held b.marks.now b.replica l.nodes b.parent l.start l.s l.i-end l.initial.parents l.parents l.ops l.i

abbrev pub decreases-loop-i : goal.decreases-loop-i
decreases-loop-i l = l.i-end - l.i
