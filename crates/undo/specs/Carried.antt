-- What carrying a replay from one cut to another asks, and the place from which it is carried.
use Rattle.std.specs.Prelude.{All, ℕ, ◌≤◌, ◌<◌, ◌≡◌, true, false, List, ◌++◌, map, length, get_or}
use Rattle.rules.specs.Op.{Vector}
use Rattle.rules.specs.File.{log_of, within}
use Rattle.rules.specs.Log.{covered}
use Rattle.rules.specs.Replay.{ordered}
use Rattle.order.specs.Undo.{IsSlot, Undoable, replay_keeping}
use Rattle.schedule.specs.declared.entries.Entry.{Entry}
use Rattle.schedule.specs.Schedule.{stamped_of}
use Rattle.replay.specs.Tables.{Along, no_entry}
use Rattle.undo.specs.Tables.{slot_counted}

-- the entries name slots
abbrev pub Slots : List Entry → Type 0
Slots es = All (λ (e : Entry). IsSlot e.slot) es

-- of these a cut counts those before place r, and not that at place r
pub record FirstBeyond (cut : Vector) (es : List Entry) (r : ℕ) : Type 0 where
  pub inside : r ≤ length es
  pub front : (i : ℕ) → i < r → slot_counted cut (get_or es i no_entry).slot ≡ true
  pub here : r < length es → slot_counted cut (get_or es r no_entry).slot ≡ false

-- entries have the ops of a cut in the order of replay
pub record Schedules (w : ℕ) (f : List ℕ) (es : List Entry) (whole : Vector) : Type 0 where
  pub is_covered : covered (log_of w f) whole ≡ true
  pub ops : map (stamped_of (log_of w f)) es ≡ ordered (log_of w f) whole

-- the replay of a cut, and another one: both lie within the order, and before its rest they count the same
pub record Carriable (w : ℕ) (f : List ℕ) (before after : Vector) (rest : List Entry) (k : Undoable) : Type 0 where
  pub whole : Vector
  pub front : List Entry
  pub along : Along w f (front ++ rest)
  pub schedules : Schedules w f (front ++ rest) whole
  pub before_inside : within before whole ≡ true
  pub after_inside : within after whole ≡ true
  pub agrees : (i : ℕ) → i < length front
      → slot_counted before (get_or front i no_entry).slot ≡ slot_counted after (get_or front i no_entry).slot
  pub replayed : k ≡ replay_keeping (log_of w f) before
