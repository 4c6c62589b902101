-- What applying ops along entries of a schedule asks and does.
use Rattle.std.specs.Prelude.{All, ℕ, ◌≡◌, true, List, map}
use mathlib.Core.List.{foldl}
use Rattle.rules.specs.File.{Log}
use Rattle.rules.specs.Log.{structural}
use Rattle.rules.specs.Replay.{State, step}
use Rattle.tree.specs.Slots.{InSlot}
use Rattle.schedule.specs.declared.entries.Entry.{Entry}
use Rattle.schedule.specs.Schedule.{stamped_of}

-- what stands behind the end of a list of entries
abbrev pub no_entry : Entry
no_entry = record { slot = 0; time = 0 }

-- the ops of entries, one after another, applied to a state
unfoldable pub applied_along : Log → List Entry → State → State
applied_along log es st = foldl step st (map (stamped_of log) es)

-- a structurally sound file has an op in the slot of each entry
pub record Along (w : ℕ) (f : List ℕ) (es : List Entry) : Type 0 where
  pub is_structural : structural w f ≡ true
  pub in_slots : All (λ (e : Entry). InSlot w f e.slot) es
