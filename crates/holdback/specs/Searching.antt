-- What the functions that search a holdback ask and answer.
use Rattle.std.specs.Prelude.{ℕ, cond, true, List, [], ◌≡◌, get_or}
use Rattle.rules.specs.Answer.{Answer, if_accepted}
use Rattle.rules.specs.Deliver.{deliver_answer, deliver_buffer}
use Rattle.rules.specs.File.{width}
use Rattle.rules.specs.Holdback.{Desk, Search, holdback_of, holdback_ops, search, sound_holdback, stays}
use Rattle.rules.specs.Op.{Op}
use Rattle.rules.specs.Sound.{sound}
use Rattle.holdback_places.specs.Places.{Occupied, without}
use Rattle.holdback.specs.declared.searching.Met.{Met}
use Rattle.holdback.specs.declared.searching.Met.TheVariants.{Taken, Stays, Dropped}

-- what becomes of an op that is answered so
unfoldable pub met_of : Answer → Met
met_of a = if_accepted a Taken (cond (stays a) Stays Dropped)

pub record Meet : Type 0 where
  pub met : Met
  pub buffer : List ℕ

abbrev pub meet_op : (buffer : List ℕ) → Op → Meet
meet_op f r = record { met = met_of (deliver_answer width f r); buffer = deliver_buffer width f r }

-- the op that waits at place i
unfoldable pub waiting_at : (holdback : List ℕ) (i : ℕ) → Op
waiting_at h i = get_or (holdback_ops width h) i []

-- the holdback after its op at place i was met
unfoldable pub left_by : Met → (holdback : List ℕ) (i : ℕ) → List ℕ
left_by Taken h i = holdback_of width (without (holdback_ops width h) i)
left_by Stays h i = h
left_by Dropped h i = holdback_of width (without (holdback_ops width h) i)

pub record LookAt : Type 0 where
  pub met : Met
  pub buffer : List ℕ
  pub holdback : List ℕ

unfoldable pub looked_at : (buffer holdback : List ℕ) (i : ℕ) → LookAt
looked_at f h i =
    let o = meet_op f (waiting_at h i) in
    record { met = o.met; buffer = o.buffer; holdback = left_by o.met h i }

-- a sound log, and an op at place i
pub record Meetable (f h : List ℕ) (i : ℕ) : Type 0 where
  pub is_sound_so : sound width f ≡ true
  pub is_occupied : Occupied h i

-- a sound log and a sound holdback
pub record Searchable (f h : List ℕ) : Type 0 where
  pub is_sound_so : sound width f ≡ true
  pub is_holdback : sound_holdback width h ≡ true

-- the lent buffer and holdback
abbrev pub desk : List ℕ → List ℕ → Desk
desk f h = record { buffer = f; holdback = h }

-- what a search leaves there
abbrev pub left : Search → Desk
left s = desk s.buffer (holdback_of width s.left)

unfoldable pub searched : List ℕ → List ℕ → Desk
searched f h = left (search width f (holdback_ops width h))
