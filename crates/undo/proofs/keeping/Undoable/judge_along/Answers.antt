-- `undo::along::judge_along` meets its contract.
use Rattle.std.proofs.Common.{◌∙◌, sym}
use Rattle.replay.specs.Tables.{no_entry}
use Rattle.undo.proofs.WalkLaws.{judged_counted, judged_none, judged_passed}
use Rattle.undo.proofs.keeping.Undoable.judge_along.Goals as goal
use Rattle.undo.proofs.keeping.Undoable.judge_along.Goals.{then-counts, else-counts}

pub loop-entry-init : goal.loop-entry-init
loop-entry-init c = judged_none _ _ _

pub loop-entry-preserved : goal.loop-entry-preserved
loop-entry-preserved c = elim c.if-counts.branch [
  | then-counts w ↦ rw w.self-is
      (judged_counted _ _ _ _ _ _ no_entry _ c.loop-entry-test.true c.requires c.loop-entry.invariant
      (sym c.counts.ensures ∙ w.if-counts.true) _ w.keep.ensures)
  | else-counts w ↦ rw w.self-is
      (judged_passed _ _ _ _ _ _ no_entry _ c.loop-entry-test.true c.requires c.loop-entry.invariant
      (sym c.counts.ensures ∙ w.if-counts.false))
]
