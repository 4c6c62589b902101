-- The order of replay (the document's judging order) as data: the slots of its ops, with their timestamps.
use Rattle.std.specs.Prelude.{List, map}
use Rattle.rules.specs.Op.{Vector}
use Rattle.rules.specs.File.{Log}
use Rattle.rules.specs.Replay.{Stamped, outcome_slot, ordered}
use Rattle.tree.specs.Slots.{op_in}
use Rattle.schedule.specs.declared.entries.Entry.{Entry}

-- an op, by its slot and its timestamp
unfoldable pub entry_of : Stamped → Entry
entry_of x = record { slot = outcome_slot x.op; time = x.time }

-- the op of a log that an entry names, with its timestamp
unfoldable pub stamped_of : Log → Entry → Stamped
stamped_of log e = record { time = e.time; op = op_in log e.slot }

-- the ops of a cut, in the order of replay
unfoldable pub scheduled : Log → Vector → List Entry
scheduled log cut = map entry_of (ordered log cut)
