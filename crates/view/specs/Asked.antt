-- What the inner functions of the views ask.
use Rattle.std.specs.Prelude.{ℕ, ◌+◌, ◌<◌, ◌≤◌, ◌≡◌, true, List, length, get_or}
use Rattle.rules.specs.File.{width, counts_of, log_of}
use Rattle.rules.specs.Log.{known_parent}
use Rattle.rules.specs.Sound.{sound}
use Rattle.rules.specs.Tree.{slot_of, slots, parent_in, path}
use Rattle.marks.specs.Marking.{Markable}
use Rattle.tour.specs.declared.touring.Visit.{Visit}
use Rattle.view.specs.Tables.{lines_of}

---- paths

-- a sound buffer, and a number that is 0 or added
pub record Present (f : List ℕ) (n : ℕ) : Type 0 where
  pub is_sound_so : sound width f ≡ true
  pub is_known : known_parent (log_of width f) (counts_of (log_of width f)) n ≡ true

-- the path of a node has so many steps, and stays inside of the table
pub record Way (parents : List ℕ) (n steps : ℕ) : Type 0 where
  pub size : length parents ≡ slots
  pub long : length (path parents n) ≡ steps + 1
  pub first : get_or (path parents n) 0 0 ≡ n
  pub inside : (i : ℕ) → i < steps → slot_of (get_or (path parents n) i 0) < slots
  pub above : (i : ℕ) → i < steps → parent_in parents (get_or (path parents n) i 0) ≡ get_or (path parents n) (i + 1) 0

-- and there is room for it
pub record WayOut (parents : List ℕ) (n steps : ℕ) (out : List ℕ) : Type 0 where
  pub way : Way parents n steps
  pub room : steps < length out

---- lines

-- a tour, with marks
pub record Arranged (order : List Visit) (marks : List ℕ) : Type 0 where
  pub few : length order ≤ slots
  pub marks_size : length marks ≡ slots

-- and room for its lines
pub record Printable (order : List Visit) (marks out : List ℕ) : Type 0 where
  pub arranged : Arranged order marks
  pub room : length (lines_of marks order) ≤ length out

-- the tables that a view is arranged in, and those that it is arranged from
pub record Orderable (parents marks : List ℕ) (order : List Visit) : Type 0 where
  pub parents_size : length parents ≡ slots
  pub marks_size : length marks ≡ slots
  pub order_size : length order ≡ slots

pub record Arrangeable (f marks : List ℕ) (order : List Visit) : Type 0 where
  pub markable : Markable f marks
  pub order_size : length order ≡ slots
