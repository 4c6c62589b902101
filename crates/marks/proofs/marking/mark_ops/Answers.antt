-- `marks::marking::mark_ops` meets its contract.
use Rattle.std.proofs.Common.{rules}
use Rattle.marks.proofs.MarkingCases.{bodies_end, bodies_start, marking, marking_starts}
use Rattle.marks.proofs.marking.mark_ops.Goals as goal

pub slice_bounds-chunks_exact-count : goal.slice_bounds-chunks_exact-count
slice_bounds-chunks_exact-count c = bodies_start _ _ c.requires _ c.end_of-end.ensures

pub slice_bounds-chunks_exact-start : goal.slice_bounds-chunks_exact-start
slice_bounds-chunks_exact-start c = bodies_start _ _ c.requires _ c.end_of-end.ensures

pub slice_bounds-chunks_exact-end : goal.slice_bounds-chunks_exact-end
slice_bounds-chunks_exact-end c = bodies_end _ _ c.requires _ c.end_of-end.ensures

pub loop-op-init : goal.loop-op-init
loop-op-init c = marking_starts _ _ c.requires _ c.end_of-end.ensures _ (search rules) _ (search rules)

pub mark_op-requires : goal.mark_op-requires
mark_op-requires c = search (marking, c.in-Some.ensures, c.loop-op.invariant)

pub loop-op-preserved : goal.loop-op-preserved
loop-op-preserved c = search (marking, c.in-Some.ensures)

pub returns : goal.returns
returns c = search (marking, c.in-None.ensures)
