-- Issuing an op at a replica. Tests 1, 2, 3, 9, 7, 11, 10, 8.
use Rattle.std.specs.Prelude.{ℕ, ◌+◌, Bool, true, ◌&&◌, not, List, ◌∷◌, ◌++◌, length, drop, leb, ltb, eqb}
use Rattle.rules.specs.Answer.{Answer, accepted, require, if_accepted}
use Rattle.rules.specs.Bytes.{word}
use Rattle.rules.specs.Op.{Op, Vector, is_replica, count_in, node_number}
use Rattle.rules.specs.File.{Log, counts_of, file_end, log_of, appended}
use Rattle.rules.specs.Log.{known_parent}
use Rattle.rules.specs.Marks.{is_known, is_marked, knowledge}
use Rattle.rules.specs.Sound.{sound}
use Rattle.rules.specs.Tree.{at_or_below, move_kind}
use Rattle.rules.specs.Replay.{parents_of}

-- what a caller asks for
pub data Request : Type 0 where
  add : (parent : ℕ) → Request
  remove : (node : ℕ) → Request
  move : (node parent : ℕ) → Request

-- an op's bytes
unfoldable pub op_bytes : (kind replica node parent : ℕ) → Vector → Op
op_bytes kind s node parent v = kind ∷ s ∷ (word node ++ (word parent ++ v))

-- the op that replica s issues; "its context is the held counts"
unfoldable pub issued : Log → ℕ → Request → Op
issued log s (add p) = op_bytes 1 s (node_number s (count_in (counts_of log) s + 1)) p (counts_of log)
issued log s (remove n) = op_bytes 2 s n 0 (counts_of log)
issued log s (move n p) = op_bytes (move_kind (parents_of log) n p) s n p (counts_of log)

-- number 7: what the request names is known in the held counts
unfoldable pub request_known : Log → Request → Bool
request_known log (add p) = known_parent log (counts_of log) p
request_known log (remove n) = is_known (knowledge log (counts_of log) n)
request_known log (move n p) = is_known (knowledge log (counts_of log) n) && known_parent log (counts_of log) p && not (eqb p n)

-- number 11: "an add or move whose node or parent is marked in the present tree"; an add's node is new, and "removing a marked node stays
-- allowed"
unfoldable pub request_unmarked : Log → Request → Bool
request_unmarked log (add p) = not (is_marked (knowledge log (counts_of log) p))
request_unmarked log (remove n) = true
request_unmarked log (move n p) = not (is_marked (knowledge log (counts_of log) n)) && not (is_marked (knowledge log (counts_of log) p))

-- number 10: "move issued to a parent below the node in the present tree"
unfoldable pub request_clear : Log → Request → Bool
request_clear log (add p) = true
request_clear log (remove n) = true
request_clear log (move n p) = not (at_or_below (parents_of log) p n)

-- the answer, and the lent buffer and space for the op after the call
pub record Issued : Type 0 where
  pub answer : Answer
  pub buffer : List ℕ
  pub out : List ℕ

-- room is the length of what is lent for the op
unfoldable pub issue_answer : ℕ → (buffer : List ℕ) (room replica : ℕ) → Request → Answer
issue_answer w f room s q =
    require (sound w f) 1
    (require (leb w room) 2
    (require (is_replica s) 3
    (require (ltb (count_in (counts_of (log_of w f)) s) 255) 9
    (require (request_known (log_of w f) q) 7
    (require (request_unmarked (log_of w f) q) 11
    (require (request_clear (log_of w f) q) 10
    (require (leb (file_end w f + w) (length f)) 8 (accepted (file_end w f + w)))))))))

-- "the record is added"
unfoldable pub issue_buffer : ℕ → (buffer : List ℕ) (room replica : ℕ) → Request → List ℕ
issue_buffer w f room s q = if_accepted (issue_answer w f room s q) (appended w f (issued (log_of w f) s q)) f

-- "and put in the first 14 lent bytes"
unfoldable pub issue_out : ℕ → (buffer out : List ℕ) (replica : ℕ) → Request → List ℕ
issue_out w f out s q = if_accepted (issue_answer w f (length out) s q) (issued (log_of w f) s q ++ drop w out) out

abbrev pub issue : ℕ → (buffer out : List ℕ) (replica : ℕ) → Request → Issued
issue w f out s q = record {
  answer = issue_answer w f (length out) s q;
  buffer = issue_buffer w f (length out) s q;
  out = issue_out w f out s q;
}
