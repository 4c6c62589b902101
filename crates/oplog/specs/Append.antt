-- Putting ops into a buffer: what it asks, and what it leaves.
use Rattle.std.specs.Prelude.{ℕ, ◌+◌, ◌*◌, ◌-◌, ◌≤◌, ◌≡◌, true, List, ◌++◌, length, take, drop, set}
use Rattle.rules.specs.Op.{Op, Vector}
use Rattle.rules.specs.File.{Log, count_at, file_end, file_of, header_counts, header_of, log_of, ops_of}
use Rattle.rules.specs.Log.{laid}

---- ops of one replica, put behind its others

unfoldable pub append_all : Log → (s : ℕ) → List Op → Log
append_all log s ops = set log (s - 1) (ops_of log s ++ ops)

-- the buffer with them; what lies past the new file end stays
unfoldable pub appended_all : ℕ → List ℕ → (s : ℕ) → List Op → List ℕ
appended_all w f s ops = file_of w (append_all (log_of w f) s ops) ++ drop (file_end w f + w * length ops) f

-- a laid-out buffer of these counts has room for n ops of w bytes of replica s, and s may issue so many
pub record Appendable (w : ℕ) (f : List ℕ) (counts : Vector) (s : ℕ) (ops : List ℕ) (n : ℕ) : Type 0 where
  pub wide : 14 ≤ w
  pub narrow : w ≤ 16
  pub is_laid : laid w f ≡ true
  pub held : counts ≡ header_counts f
  pub low : 1 ≤ s
  pub high : s ≤ 8
  pub below : count_at f s + n ≤ 255
  pub long : length ops ≡ w * n
  pub room : file_end w f + w * n ≤ length f

---- the bytes

-- bytes moved up by ops in front of them; what no longer fits is dropped
unfoldable pub shifted : Op → List ℕ → List ℕ
shifted r b = r ++ take (length b - length r) b

-- a buffer with ops at a place, and the bytes from there to the end moved up by them
unfoldable pub inserted : List ℕ → List ℕ → ℕ → ℕ → ℕ → List ℕ
inserted r b place end w = take place b ++ (r ++ (take (end - place) (drop place b) ++ drop (end + w) b))

-- the same under a new header
unfoldable pub headed_by : ℕ → Vector → Op → List ℕ → ℕ → ℕ → List ℕ
headed_by w counts r b place end = header_of w counts ++ drop 32 (inserted r b place end (length r))
