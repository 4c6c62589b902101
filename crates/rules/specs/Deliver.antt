-- Making an empty log, and delivering an op: what is answered, and what the buffer holds afterwards.
use Rattle.std.specs.Prelude.{ℕ, ◌+◌, Bool, cond, List, ◌++◌, length, drop, leb, eqb}
use Rattle.rules.specs.Answer.{Answer, had_it, accepted, require, if_accepted}
use Rattle.lists.specs.Lists.{same}
use Rattle.rules.specs.Op.{Op, replica_of, vector_of, seq_of, counted, well_formed}
use Rattle.rules.specs.File.{Log, empty_log, op_at, counts_of, file_end, log_of, file_of, appended}
use Rattle.rules.specs.Log.{covered, closed, names_known}
use Rattle.rules.specs.Sound.{sound}

-- a call's answer, and the lent buffer after it
pub record Result : Type 0 where
  pub answer : Answer
  pub buffer : List ℕ

---- making: test 8 alone; eight zero counts and eight starts of 32 in the first 32 bytes

unfoldable pub make_answer : List ℕ → Answer
make_answer f = require (leb 32 (length f)) 8 (accepted 32)

unfoldable pub make_buffer : ℕ → List ℕ → List ℕ
make_buffer w f = if_accepted (make_answer f) (file_of w empty_log ++ drop 32 f) f

abbrev pub make : ℕ → List ℕ → Result
make w f = record { answer = make_answer f; buffer = make_buffer w f }

---- delivering: tests 1, 2, 3, then whether the sequence is held already, then 5, 6, 7, 8

-- the log has an op of this replica and sequence
unfoldable pub is_held : Log → Op → Bool
is_held log r = counted (counts_of log) r

-- "same bytes: answer had it; else 4"
unfoldable pub held_answer : Log → Op → Answer
held_answer log r = require (same r (op_at log (replica_of r) (seq_of r))) 4 had_it

-- the tests of an op that is not held
unfoldable pub admit_answer : ℕ → List ℕ → Op → Answer
admit_answer w f r =
    require (covered (log_of w f) (vector_of r)) 5
    (require (closed (log_of w f) (vector_of r)) 6
    (require (names_known (log_of w f) r) 7
    (require (leb (file_end w f + w) (length f)) 8 (accepted (file_end w f + w)))))

unfoldable pub deliver_answer : ℕ → List ℕ → List ℕ → Answer
deliver_answer w f r =
    require (sound w f) 1
    (require (eqb (length r) w) 2
    (require (well_formed r) 3 (cond (is_held (log_of w f) r) (held_answer (log_of w f) r) (admit_answer w f r))))

unfoldable pub deliver_buffer : ℕ → List ℕ → List ℕ → List ℕ
deliver_buffer w f r = if_accepted (deliver_answer w f r) (appended w f r) f

abbrev pub deliver : ℕ → List ℕ → List ℕ → Result
deliver w f r = record { answer = deliver_answer w f r; buffer = deliver_buffer w f r }
