-- Tables that keep what judging overwrote, and ops along entries of a schedule.
use Rattle.std.specs.Prelude.{ℕ, Bool, List, map, leb}
use Rattle.lists.specs.Lists.{filter}
use Rattle.rules.specs.Op.{Op, Vector, count_in, counted}
use Rattle.rules.specs.File.{Log}
use Rattle.rules.specs.Replay.{Stamped}
use Rattle.order.specs.Undo.{Undoable}
use Rattle.tree.specs.Slots.{op_in, replica_in, sequence_in}
use Rattle.schedule.specs.declared.entries.Entry.{Entry}
use Rattle.schedule.specs.Schedule.{stamped_of}
use Rattle.effect.specs.Effects.{state_of}
use Rattle.undo.specs.declared.keeping.Undoable as code

-- the five tables as the rules have them
abbrev pub undoable_of : code.Undoable → Undoable
undoable_of k = record { state = state_of k.tables; took = k.took; was = k.was }

---- along entries

-- a cut counts the op of a slot
unfoldable pub slot_counted : Vector → ℕ → Bool
slot_counted cut i = leb (sequence_in i) (count_in cut (replica_in i))

-- the ops that a cut counts; the same with their timestamps
unfoldable pub ops_along : Log → Vector → List Entry → List Op
ops_along log cut es = filter (λ (r : Op). counted cut r) (map (λ (e : Entry). op_in log e.slot) es)

unfoldable pub timed_along : Log → Vector → List Entry → List Stamped
timed_along log cut es = filter (λ (x : Stamped). counted cut x.op) (map (stamped_of log) es)
