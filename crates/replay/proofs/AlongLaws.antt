-- Applying ops along entries, as the code has it.
use mathlib.Core.Path.{◌≡◌, refl, ◌∙◌}
use mathlib.Core.List.{List, [], map-append, foldl-append}
use Prim.Native.Nat.{ℕ, ◌+◌, ◌<◌}
use lib.ListN.{get_or, length, take}
use Rattle.std.proofs.lemmas.List.{take_more}
use Rattle.rules.specs.File.{Log}
use Rattle.rules.specs.Replay.{State, step}
use Rattle.schedule.specs.declared.entries.Entry.{Entry}
use Rattle.schedule.specs.Schedule.{stamped_of}
use Rattle.replay.specs.Tables.{applied_along, no_entry}

pub along_none : (log : Log) (start : State) → start ≡ applied_along log [] start
unfolding applied_along
along_none log start = refl

pub along_more : (log : Log) (es : List Entry) (start : State) (i : ℕ) → i < length es → (now after : State)
    → now ≡ applied_along log (take i es) start → after ≡ step now (stamped_of log (get_or es i no_entry))
    → after ≡ applied_along log (take (i + 1) es) start
unfolding applied_along
along_more log es start i h now after e is = is ∙ rw (e, take_more es i no_entry h, map-append, foldl-append)
