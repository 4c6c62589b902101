-- Putting the ops of a planned batch into the log and out, as the code goes about it.
use Rattle.std.specs.Prelude.{ℕ, ◌+◌, ◌*◌, ◌≤◌, ◌≡◌, true, List, ◌++◌, drop, length}
use Rattle.lists.specs.Lists.{concat}
use Rattle.rules.specs.File.{counts_of, file_end, log_of, width}
use Rattle.rules.specs.Op.{Op, count_in, is_replica}
use Rattle.rules.specs.Sound.{sound}
use Rattle.oplog.specs.Append.{appended_all}
use Rattle.batch_rules.specs.Claims.{Tested}

-- the buffer with ops of replica s added, and these in the first bytes of what is lent for them
abbrev pub with_ops : (f out : List ℕ) (s : ℕ) → List Op → List ℕ × List ℕ
with_ops f out s ops = (appended_all width f s ops, concat ops ++ drop (width * length ops) out)

-- n ops of replica s, which it may issue, and room for them
pub record Puttable (f : List ℕ) (s : ℕ) (ops : List ℕ) (n : ℕ) (out : List ℕ) : Type 0 where
  pub is_sound_so : sound width f ≡ true
  pub is_replica_so : is_replica s ≡ true
  pub below : count_in (counts_of (log_of width f)) s + n ≤ 255
  pub bytes : length ops ≡ width * n
  pub room : file_end width f + width * n ≤ length f
  pub space : width * n ≤ length out

-- the tests 1, 2 and 3 passed; there are nodes, and bytes for just their ops
pub record SomeMoves (f : List ℕ) (s : ℕ) (ns ops out : List ℕ) : Type 0 where
  pub tested : Tested f (length out) s ns
  pub some : 1 ≤ length ns
  pub bytes : length ops ≡ width * length ns
