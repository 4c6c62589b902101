-- The path of a node. Tests 1, 7, 8.
use Rattle.std.specs.Prelude.{ℕ, List, ◌++◌, length, drop, leb}
use Rattle.rules.specs.Answer.{Answer, accepted, require, if_accepted}
use Rattle.rules.specs.File.{Log, counts_of, log_of}
use Rattle.rules.specs.Log.{known_parent}
use Rattle.rules.specs.Sound.{sound}
use Rattle.rules.specs.Tree.{path}
use Rattle.rules.specs.Replay.{parents_of}

-- a call's answer, and what it was lent to write in after it
pub record Written : Type 0 where
  pub answer : Answer
  pub out : List ℕ

-- "its number, its parent's, and so on to 0"
unfoldable pub path_of : Log → ℕ → List ℕ
path_of log n = path (parents_of log) n

-- number 7: "neither 0 nor added"; the answer is the count of entries, and room is how many are lent
unfoldable pub path_answer : ℕ → (file : List ℕ) (room node : ℕ) → Answer
path_answer w f room n =
    require (sound w f) 1
    (require (known_parent (log_of w f) (counts_of (log_of w f)) n) 7
    (require (leb (length (path_of (log_of w f) n)) room) 8 (accepted (length (path_of (log_of w f) n)))))

unfoldable pub path_call : ℕ → (file : List ℕ) (node : ℕ) (out : List ℕ) → Written
path_call w f n out =
    let a = path_answer w f (length out) n in
    record { answer = a; out = if_accepted a (path_of (log_of w f) n ++ drop (length (path_of (log_of w f) n)) out) out }
