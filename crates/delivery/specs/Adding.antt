-- The last test of an op and its addition, as delivering and issuing share them.
use Rattle.rules.specs.File.{header_counts, width, counts_of, file_end, log_of}
use Rattle.std.specs.Prelude.{ℕ, ◌+◌, ◌<◌, ◌≤◌, ◌≡◌, true, List, length, leb}
use Rattle.rules.specs.Answer.{Answer, accepted, require}
use Rattle.rules.specs.Op.{count_in, is_replica, replica_of, Vector}
use Rattle.rules.specs.Sound.{sound}

-- number 8: room for one op more in a buffer of so many bytes, of which a file takes the first; the answer is the new file end
unfoldable pub room_test : (size end : ℕ) → Answer
room_test size end = require (leb (end + width) size) 8 (accepted (end + width))

unfoldable pub last_test : List ℕ → Answer
last_test f = room_test (length f) (file_end width f)

-- a sound buffer of these counts with room, and an op of replica s, which may have one more
pub record Acceptable (f : List ℕ) (v : Vector) (s : ℕ) (op : List ℕ) : Type 0 where
  pub is_sound_so : sound width f ≡ true
  pub held : v ≡ header_counts f
  pub is_replica_so : is_replica s ≡ true
  pub count : count_in (counts_of (log_of width f)) s < 255
  pub origin : s ≡ replica_of op
  pub long : length op ≡ width
  pub room : file_end width f + width ≤ length f
