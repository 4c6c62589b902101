-- `undo::along::judge_along`: what its loop keeps.
use Rattle.std.proofs.Common.{◌≡◌, take}
use mathlib.Core.List.{foldl}
use Rattle.rules.specs.File.{log_of}
use Rattle.order.specs.Undo.{step_keeping}
use Rattle.undo.specs.Tables.{timed_along, undoable_of}
use Rattle.undo.proofs.keeping.Undoable.judge_along.Given as goal

abbrev pub invariant-loop-entry : goal.invariant-loop-entry
invariant-loop-entry l =
    undoable_of l.self
    ≡ foldl step_keeping (undoable_of l.initial.self) (timed_along (log_of l.width l.file) l.cut (take l.entry-index l.entries))
