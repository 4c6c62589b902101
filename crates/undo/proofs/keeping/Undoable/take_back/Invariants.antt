-- `undo::along::take_back`: what its loop keeps.
use Rattle.undo.proofs.WalkLaws.{Behind}
use Rattle.undo.specs.Tables.{undoable_of}
use Rattle.undo.proofs.keeping.Undoable.take_back.Given as goal

abbrev pub invariant-loop-entry : goal.invariant-loop-entry
invariant-loop-entry l = record {
  can_next : (goal.iterator-loop-entry).can_next l.entry-iterator;
  is_finite : (goal.iterator-loop-entry).is_finite l.entry-iterator;
  behind : Behind l.width l.file l.cut l.entries (undoable_of l.initial.self) (undoable_of l.self) l.taken l.entry-iterator.iter.rest.now;
}
