-- Judging: replay into lent tables. Tests 1 and 2.
use Rattle.std.specs.Prelude.{ℕ, ◌&&◌, List, ◌++◌, length, drop, leb}
use Rattle.rules.specs.Answer.{Answer, done, require, if_done}
use Rattle.rules.specs.File.{log_of}
use Rattle.rules.specs.Sound.{sound}
use Rattle.rules.specs.Tree.{slots}
use Rattle.rules.specs.Replay.{parents_of, outcomes_of}

-- the answer, and the lent tables after the call
pub record Judgement : Type 0 where
  pub answer : Answer
  pub parents : List ℕ
  pub outcomes : List ℕ

unfoldable pub judge_answer : ℕ → (file parents outcomes : List ℕ) → Answer
judge_answer w f p o = require (sound w f) 1 (require (leb slots (length p) && leb slots (length o)) 2 done)

-- "judging fills the first 2,041 entries"; what is lent beyond stays
unfoldable pub judge : ℕ → (file parents outcomes : List ℕ) → Judgement
judge w f p o =
    let a = judge_answer w f p o in
    record {
      answer = a;
      parents = if_done a (parents_of (log_of w f) ++ drop slots p) p;
      outcomes = if_done a (outcomes_of (log_of w f) ++ drop slots o) o;
    }
