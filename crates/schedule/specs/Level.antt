-- The ops of a level, as the code has them, and what its functions ask.
use Rattle.std.specs.Prelude.{ℕ, ◌+◌, ◌≤◌, ◌<◌, ◌≡◌, true, cond, ◌&&◌, List, [], ◌∷◌, map, length, leb, eqb}
use Rattle.lists.specs.Lists.{concat, up_from, down_from}
use Rattle.rules.specs.Op.{Vector, replicas, count_in, kind_of}
use Rattle.rules.specs.File.{Log, log_of, op_at}
use Rattle.rules.specs.Log.{structural, closed}
use Rattle.rules.specs.Tree.{slot, most_ops}
use Rattle.oplog.specs.Places.{Held}
use Rattle.schedule.specs.declared.entries.Entry.{Entry}

---- what is ready

-- the later of two numbers of ops: the new one, unless it is 0
unfoldable pub later : ℕ → ℕ → ℕ
later old new = cond (eqb new 0) old new

-- the class of a kind, in the order of "adds, removes, upward moves, downward moves"; 0 of a kind that no op has
unfoldable pub class_of : ℕ → ℕ
class_of k = cond (leb 1 k && leb k 4) k 0

-- the class of the op of replica s that is ready; 0 if none is
unfoldable pub class_at : Log → Vector → ℕ → ℕ
class_at log next s = cond (eqb (count_in next s) 0) 0 (class_of (kind_of (op_at log s (count_in next s))))

unfoldable pub classes_of : Log → Vector → Vector
classes_of log next = map (class_at log next) replicas

-- the entries of a level: of a class and a replica; of a class; all
unfoldable pub due_entry : (classes next : Vector) (time class s : ℕ) → List Entry
due_entry classes next t k s = cond (eqb (count_in classes s) k) (record { slot = slot s (count_in next s); time = t } ∷ []) []

unfoldable pub class_entries : (classes next : Vector) (time class : ℕ) → List Entry
class_entries classes next t k = concat (map (due_entry classes next t k) (down_from 8))

unfoldable pub level_entries : (classes next : Vector) (time : ℕ) → List Entry
level_entries classes next t = concat (map (class_entries classes next t) (up_from 1 4))

---- what the functions ask

pub record IsReplica (s : ℕ) : Type 0 where
  pub low : 1 ≤ s
  pub high : s ≤ 8

-- the file has the ops that a vector counts, and s is a replica
pub record HeldAt (w : ℕ) (f : List ℕ) (v : Vector) (s : ℕ) : Type 0 where
  pub held : Held w f v
  pub replica : IsReplica s

-- no replica has an op of a class
abbrev pub Idle : Vector → Type 0
Idle classes = (s : ℕ) → 1 ≤ s → s ≤ 8 → count_in classes s ≡ 0

-- a replica has one, and none above it; none below it
pub record Highest (classes : Vector) (high : ℕ) : Type 0 where
  pub most : high ≤ 8
  pub some : 1 ≤ count_in classes high
  pub above : (s : ℕ) → high < s → s ≤ 8 → count_in classes s ≡ 0

pub record Lowest (classes : Vector) (low : ℕ) : Type 0 where
  pub least : 1 ≤ low
  pub most : low ≤ 8
  pub some : 1 ≤ count_in classes low
  pub below : (s : ℕ) → 1 ≤ s → s < low → count_in classes s ≡ 0

-- a schedule has room for more entries
abbrev pub Room : List Entry → List Entry → Type 0
Room xs es = length xs + length es ≤ most_ops

pub record RoomAt (classes next : Vector) (time class s : ℕ) (xs : List Entry) : Type 0 where
  pub replica : IsReplica s
  pub room : Room xs (due_entry classes next time class s)

pub record RoomIn (classes next : Vector) (time class low high : ℕ) (xs : List Entry) : Type 0 where
  pub lowest : Lowest classes low
  pub highest : Highest classes high
  pub some : 1 ≤ class
  pub room : Room xs (class_entries classes next time class)

-- a closed cut of a structurally sound file
pub record SchedulableCut (w : ℕ) (f : List ℕ) (cut : Vector) : Type 0 where
  pub is_structural : structural w f ≡ true
  pub held : Held w f cut
  pub is_closed : closed (log_of w f) cut ≡ true
