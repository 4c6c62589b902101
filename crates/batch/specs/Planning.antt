-- Planning a batch, as the code goes about it: every move is tested and its op written before any byte of the caller's changes.
use Rattle.std.specs.Prelude.{ℕ, ◌*◌, ◌≤◌, ◌<◌, ◌≡◌, true, cond, not, List, length, set, ltb}
use Rattle.lists.specs.Lists.{concat}
use Rattle.rules.specs.Answer.{Answer, refused, if_accepted}
use Rattle.rules.specs.File.{Log, log_of, width}
use Rattle.rules.specs.Issue.{move, request_known, request_unmarked}
use Rattle.rules.specs.Op.{Vector, count_in, is_replica}
use Rattle.rules.specs.Replay.{parents_of}
use Rattle.rules.specs.Sound.{sound}
use Rattle.rules.specs.Tree.{slot_of, slots}
use Rattle.batch_rules.specs.Batch.{most_moves, moves_answer, moves_ops}
use Rattle.codec.specs.Answers.{number_of}
use Rattle.codec.specs.Asked.{is_accepted}
use Rattle.codec.specs.declared.answer.Refusal.TheVariants.{Unknown, Exhausted, Marked}
use Rattle.delivery.specs.Adding.{room_test}
use Rattle.issue.specs.Issuing.{bytes_of, moved_in}
use Rattle.issue.specs.declared.draft.Draft.{Draft}
use Rattle.issue.specs.Issuing.{Drafted}
use Rattle.std.specs.Prelude.{Ok, Err}
use Rattle.marks.specs.Knowing.{MarkedLog}
use Rattle.batch.specs.declared.drafting.Batch.{Batch}

---- one move

-- the tests 9, 7, 11 and 10 of a move, or the op: by what a log knows, and by other counts u and another tree t
unfoldable pub drafted_in : Log → (u : Vector) (t : List ℕ) (s n p : ℕ) → Drafted
drafted_in log u t s n p =
    cond (not (ltb (count_in u s) 255)) (Err Exhausted)
    (cond (not (request_known log (move n p))) (Err Unknown)
    (cond (not (request_unmarked log (move n p))) (Err Marked) (moved_in t n p)))

-- what a move leaves: the answer, the tree and the bytes of its op
pub record Next : Type 0 where
  pub answer : Answer
  pub tree : List ℕ
  pub op : List ℕ

-- number 8 of a drafted op; where it passes, its node is hung and its bytes are written
unfoldable pub put_next : (size end : ℕ) (u : Vector) (s : ℕ) (t op : List ℕ) → Draft → Next
put_next size end u s t op d =
    let a = room_test size end in
    record { answer = a; tree = if_accepted a (set t (slot_of d.node) d.parent) t; op = if_accepted a (bytes_of s d u) op }

unfoldable pub next_by : (size end : ℕ) (u : Vector) (s : ℕ) (t op : List ℕ) → Drafted → Next
next_by size end u s t op (Ok d) = put_next size end u s t op d
next_by size end u s t op (Err why) = record { answer = refused (number_of why); tree = t; op = op }

---- all moves

-- the answer of planning, and the ops that are written if it is an acceptance
pub record Planned (f : List ℕ) (s : ℕ) (ns : List ℕ) (p : ℕ) (a : Answer) (ops : List ℕ) : Type 0 where
  pub answered : a ≡ moves_answer width f s ns p
  pub written : is_accepted a ≡ true → ops ≡ concat (moves_ops width f s ns p)

---- what the steps ask

-- a sound buffer, its counts and marks, a table of parents, and a replica
pub record Ground (b : Batch) (t : List ℕ) : Type 0 where
  pub marked : MarkedLog b.file.now b.held b.marks.now
  pub size : length t ≡ slots
  pub is_replica_so : is_replica b.replica ≡ true

-- and bytes for just one op, and where the file would end
pub record Turn (b : Batch) (end : ℕ) (t op : List ℕ) : Type 0 where
  pub ground : Ground b t
  pub bytes : length op ≡ width
  pub inside : end ≤ length b.file.now

-- a drafted op whose node has a slot in the table, and bytes for just one op
pub record Drawable (t op : List ℕ) (d : Draft) (end size : ℕ) : Type 0 where
  pub there : slot_of d.node < length t
  pub bytes : length op ≡ width
  pub inside : end ≤ size

-- the tests 1 and 3 passed; there are few nodes, and bytes for just their ops
pub record Plannable (f : List ℕ) (s : ℕ) (ns ops : List ℕ) : Type 0 where
  pub is_sound_so : sound width f ≡ true
  pub is_replica_so : is_replica s ≡ true
  pub few : length ns ≤ most_moves
  pub bytes : length ops ≡ width * length ns

-- and the counts, the marks and the tree of the log
pub record Prepared (b : Batch) (t ns ops : List ℕ) : Type 0 where
  pub plannable : Plannable b.file.now b.replica ns ops
  pub marked : MarkedLog b.file.now b.held b.marks.now
  pub tree : t ≡ parents_of (log_of width b.file.now)
